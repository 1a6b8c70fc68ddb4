use Rattle.std.proofs.Common.{inl}
use Rattle.std.proofs.lemmas.Result.{err_from_is_err_and}
use Rattle.tables.proofs.Additions.{stuck_as}
use Rattle.tables.proofs.Successors.{enters_toward}
use Rattle.tables.proofs.members.enter_toward.Goals as goal

pub returns : goal.returns
returns c =
    let placed = c.in_ok-place.ensures in
    enters_toward (placed.adds c.args.clauses.now c.requires.good) placed.entered.0 c.args.context c.requires.cited c.args.classes c.args.role _ _ (λ g k. c.enter_clause.ensures.enters _ g k)

pub returns-in_err-place : goal.returns-in_err-place
returns-in_err-place c =
    let p = err_from_is_err_and c.from_residual.result c.from_residual.ensures.1 in
    rw p.1 (c.args.counts, stuck_as (c.in_err-place.ensures.adds c.args.clauses.now c.requires.good) (λ m e. inl e))
