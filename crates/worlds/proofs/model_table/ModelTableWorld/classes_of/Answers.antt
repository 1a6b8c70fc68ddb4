use Rattle.std.proofs.Common.{ap, ◌∙◌, arith}
use Rattle.std.proofs.lemmas.Bool.{le-ltb}
use Rattle.std.proofs.lemmas.Bool.Decides.{nat_tests}
use Rattle.terms.specs.Sets.{has}
use Rattle.terms.proofs.Masks.{has_none}
use Rattle.worlds.proofs.model_table.ModelTableWorld.classes_of.Goals as goal

pub returns-then-element-self : goal.returns-then-element-self
returns-then-element-self c a =
    let none = ap (λ s. has s a) c.empty.ensures ∙ has_none a in
    let past = le-ltb c.args.element c.args.self.now.size (omega arith) in
    grind (arith, nat_tests)
