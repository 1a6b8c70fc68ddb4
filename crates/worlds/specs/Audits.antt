-- What an audit of a world against axioms answers.
use Rattle.std.specs.Prelude.{ℕ, ◌<◌, List, Option, Some, None, length, slice_index_or}
use Rattle.terms.specs.Axioms.{blank}
use Rattle.terms.specs.declared.axioms.Axiom.{Axiom}
use Rattle.terms.specs.declared.refusals.Layer.{Layer}
use Rattle.terms.specs.declared.refusals.Layer.TheVariants.{World}
use Rattle.worlds.specs.Worlds as Of
use Rattle.worlds.specs.Worlds.{Keeps, Breaks, Holds, Obeys}
use Rattle.worlds.specs.declared.audit.Breach.{Breach}

abbrev pub in_world : Layer
in_world = World

-- e breaks the axiom, and no lower element does
pub record LowestBreaking (w : Of.World) (x : Axiom) (e : ℕ) : Type 0 where
  pub element : e < w.size
  pub breaks : Breaks w e x
  pub lowest : (d : ℕ) → d < e → Keeps w d x

-- axiom i is the first that the world does not obey, and e the lowest element that breaks it
pub record FirstBroken (axs : List Axiom) (w : Of.World) (i e : ℕ) : Type 0 where
  pub there : i < length axs
  pub before : (j : ℕ) → j < i → Holds w (slice_index_or axs j blank)
  pub broken : LowestBreaking w (slice_index_or axs i blank) e

-- there is no breach where the world obeys the axioms, and the first otherwise
abbrev pub Audited : List Axiom → Of.World → Option Breach → Type 0
Audited axs w None = Obeys w axs
Audited axs w (Some b) = FirstBroken axs w b.number b.element
