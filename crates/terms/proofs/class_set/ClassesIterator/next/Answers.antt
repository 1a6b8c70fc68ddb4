use Rattle.std.proofs.Common.{◌≡◌, ◌<◌, arith, rules}
use Rattle.std.proofs.lemmas.Bool.Decides.{not_from_Decides}
use Rattle.terms.proofs.Masks.{without_lt}
use Rattle.terms.proofs.Words.{trailing_lowest}
use Rattle.terms.proofs.class_set.ClassesIterator.next.Goals as goal
use Rattle.std.proofs.iter.Next.{firm}

pub returns : goal.returns
returns c =
    let s = c.args.self.now.rest.bits in
    let filled : s ≡ 0 → ⊥ = not_from_Decides _ c.is_empty.ensures c.if-is_empty.false in
    let some : 0 < s = omega arith in
    let low = trailing_lowest 64 s some (omega arith) in
    record {
      steps = (low.0, low.1, c.without-self.ensures);
      goes = firm ((tt, tt, rw c.without-self.ensures (without_lt s _ low.0.0))) (λ h. search rules);
    }
