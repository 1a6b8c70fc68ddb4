use Rattle.std.proofs.Common.{rules}
use borrow.Author.Tests.{tests}
use Rattle.std.proofs.lemmas.Iterator.{cases_from_all, YieldsList-from_slice, YieldsList-from_zip}
use Rattle.worlds.specs.Entries.{BitsWithin}
use Rattle.worlds.proofs.Marking.{subset_by_words}
use Rattle.worlds.proofs.marks.Marks.is_subset.Goals as goal

pub returns : goal.returns
returns g c =
    let ws = c.args.self.now.words in
    let vs = c.args.other.now.words in
    subset_by_words ws vs g.row.N c.args.self.now.ok c.args.other.now.ok c.all.result
    (cases_from_all c.all.new.self _ c.all.result (λ p. BitsWithin p.0 p.1) (λ p. BitsWithin p.0 p.1 → ⊥) c.all.ensures.ran
    (YieldsList-from_zip (YieldsList-from_slice ws cc) (YieldsList-from_slice vs cc)) (λ x q k. search (rules, tests)) (λ x q k. search (rules, tests)))
