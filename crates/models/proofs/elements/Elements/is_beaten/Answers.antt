use Rattle.std.proofs.Common.{rules}
use Rattle.std.proofs.lemmas.Iterator.{YieldsList-from_slice}
use Rattle.std.proofs.lemmas.Iterator.Adapters.{serves_from_places}
use Rattle.models.proofs.Marking.{safe_at}
use Rattle.models.proofs.elements.Elements.is_beaten.Goals as goal

pub any-requires-clause-callable : goal.any-requires-clause-callable
any-requires-clause-callable c =
    serves_from_places (YieldsList-from_slice c.args.self.now.clauses.now cc) (λ x q h. search rules) (λ x k l e. let cited = safe_at c.args.self.now.safe k l x.now e in search rules)
