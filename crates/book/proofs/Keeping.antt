-- A book keeps the limits when its own list changes.
use Rattle.std.proofs.Common.{◌≡◌, ℕ, suc, ◌<◌, ◌≤◌, List, ◌++◌, length, take, drop, subst, arith, length-append, length-set}
use Rattle.std.proofs.Math.Seq.{take-append_seam, drop-append_seam}
use Rattle.std.specs.List.{AllByRecursion}
use Rattle.std.proofs.ByRecursion.{All-append, All-set, All-take, All-drop}
use Rattle.std.proofs.lemmas.List.Edits.{length-remove}
use Rattle.terms.specs.declared.axioms.Axiom.{Axiom}
use Rattle.terms.specs.Axioms.{WellFormed, axiom_checks}
use Rattle.terms.specs.Refusals.{Passes, end}
use Rattle.sources.specs.Meanings.{Meaning, Limits}
use Rattle.book.specs.Books.{book_meaning, amended, struck}

module _ (m : Meaning) (own : List Axiom) (k : Limits (book_meaning m own)) where
  abbrev Formed : List Axiom → Type 0
  Formed = AllByRecursion (WellFormed m.classes m.roles)

  -- where those of the source are formed, and so are the own ones
  limits_changed : (after : List Axiom) → length after ≤ length own → (Formed own → Formed after) → Limits (book_meaning m after)
  limits_changed after few formed = record {
    few_classes = k.few_classes;
    few_roles = k.few_roles;
    few_axioms = omega (arith, length-append m.axioms own, length-append m.axioms after, k.few_axioms);
    formed = All-append _ m.axioms after
        (rw take-append_seam at (All-take (WellFormed m.classes m.roles) (length m.axioms) (m.axioms ++ own) k.formed))
        (formed (rw drop-append_seam at (All-drop (WellFormed m.classes m.roles) (length m.axioms) (m.axioms ++ own) k.formed)));
    each_named = k.each_named;
    short_names = k.short_names;
  }

  pub limits_amend : (i : ℕ) (a : Axiom) → WellFormed m.classes m.roles a → Limits (book_meaning m (amended own i a))
  limits_amend i a w = limits_changed (amended own i a) (omega (arith, length-set own i a)) (All-set _ own i a w)

  pub limits_strike : (i : ℕ) → i < length own → Limits (book_meaning m (struck own i))
  limits_strike i l = limits_changed (struck own i) (omega (arith, length-remove own i l)) (λ h. All-append _ (take i own) (drop (suc i) own) (All-take _ i own h) (All-drop _ (suc i) own h))

-- an axiom that was checked against the counts that a book tells
pub checked : (m : Meaning) (a : Axiom) (c r : ℕ) → c ≡ m.classes → r ≡ m.roles → Passes (axiom_checks c r a end) → WellFormed m.classes m.roles a
checked m a c r e f p = subst (λ n. WellFormed n m.roles a) e (subst (λ n. WellFormed c n a) f (p.0, p.1.0))
