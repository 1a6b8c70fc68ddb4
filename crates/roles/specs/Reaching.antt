-- Which roles reach which, held as rows of bits: a row a role, a bit a role that it reaches.
--
--   Reach::of(axioms)         where each role inclusion is Included 16: a reach with Shows axioms reach.rows
--   reach.reaches(from, to)   where from < 16: bit `to` of row `from`, so by Shows whether from reaches to
use Rattle.std.specs.Prelude.{ℕ, ◌<◌, ◌↔◌, List, slice_index}
use Rattle.terms.specs.Sets.{Has, Below}
use Rattle.terms.specs.declared.axioms.Axiom.{Axiom}
use Rattle.terms.specs.declared.axioms.Axiom.TheVariants.{Inclusion, Exists, ExistsLower, Forall, RoleInclusion}
use Rattle.closure.specs.Closures.{Reaches}

-- where the axiom is a role inclusion, its roles are below r
abbrev pub Included : ℕ → Axiom → Type 0
Included r (Inclusion lower upper) = Unit {0}
Included r (Exists lower role filler) = Unit {0}
Included r (ExistsLower role filler upper) = Unit {0}
Included r (Forall lower role filler) = Unit {0}
Included r (RoleInclusion sub sup) = (sub < r) × (sup < r)

-- the rows say which roles reach which by the axioms
pub record Shows (axs : List Axiom) (rows : List ℕ) : Type 0 where
  -- row p has bit q exactly where p reaches q
  pub right : (p q : ℕ) → p < 16 → Has (slice_index rows p) q ↔ Reaches axs p q
  -- no row has a bit from 16 up
  pub low : (p : ℕ) → Below 16 (slice_index rows p)
