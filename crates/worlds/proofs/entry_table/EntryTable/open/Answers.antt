use Rattle.std.proofs.Common.{ℕ, ◌<◌, length, get_or, sym, subst, arith}
use Rattle.std.proofs.ByRecursion.{All-get_or}
use Rattle.worlds.specs.Entries.{Fits, no_link}
use Rattle.worlds.proofs.entry_table.EntryTable.open.Goals as goal

pub new-requires-clause-starts : goal.new-requires-clause-starts
new-requires-clause-starts c i l =
    omega (arith, (All-get_or (Fits (length c.args.classes.now)) c.args.links.now i no_link l (c.all_fit.ensures.0 c.if-not-all_fit.false)).0)

pub invariant_of-self-clause-fit : goal.invariant_of-self-clause-fit
invariant_of-self-clause-fit c =
    let n = length c.args.classes.now in
    subst (λ xs. (i : ℕ) → i < length xs → Fits n (get_or xs i no_link)) (sym c.new.ensures)
    (λ i l. All-get_or (Fits n) c.args.links.now i no_link l (c.all_fit.ensures.0 c.if-not-all_fit.false))
