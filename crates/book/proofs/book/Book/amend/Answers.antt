use Rattle.std.proofs.Common.{◌<◌, arith, rules}
use Rattle.std.proofs.Math.Seq.{take-set-lt}
use Rattle.std.proofs.lemmas.List.{length-take-le, places}
use Rattle.std.proofs.lemmas.Grind.{common_steps}
use Rattle.book.proofs.Keeping.{checked, limits_amend}
use Rattle.book.proofs.book.Book.amend.Goals as goal

pub invariant_of-self : goal.invariant_of-self
invariant_of-self g c =
    let inside : c.args.number < c.args.self.now.count = omega arith in
    record {
      few = omega arith;
      whole = search (rules, places);
      limits = rw (c.rewrite.ensures, take-set-lt c.args.self.now.count c.args.self.now.own c.args.number c.args.axiom inside)
          (limits_amend _ _ c.args.self.now.limits c.args.number c.args.axiom (checked (g.S.Source.meaning c.args.self.now.source) _ _ _ c.class_count.ensures c.role_count.ensures c.in_ok-check.ensures.0));
    }

-- `size` is a lemma of std at the book's slots, which a lemma of the book would only name anew.
pub returns-clause-plain : goal.returns-clause-plain
returns-clause-plain g c =
    let inside : c.args.number < c.args.self.now.count = omega arith in
    let size = length-take-le c.args.self.now.count c.args.self.now.own (omega arith) in
    rw (c.rewrite.ensures, take-set-lt c.args.self.now.count c.args.self.now.own c.args.number c.args.axiom inside) (grind (arith, common_steps))
