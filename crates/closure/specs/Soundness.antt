-- Every clause of the closure is true in every world that obeys the axioms.
use Rattle.std.specs.Prelude.{ℕ, ◌<◌, ◌⊎◌, List}
use Rattle.terms.specs.declared.axioms.Axiom.{Axiom}
use Rattle.worlds.specs.Worlds.{World, Successor, InAll, InSome, InNone, Obeys, Possible}
use Rattle.closure.specs.Closures.{Context, Part, plain, toward, Clause, InClauses, Refuted}

-- the element is in all that the context holds and in none that it denies
abbrev pub Fits : World → ℕ → Context → Type 0
Fits w e H = InAll w e H.held × InNone w e H.denied

-- the element is in some class of D, or has a successor as the role part says
abbrev pub Meets : World → ℕ → ℕ → Part → Type 0
Meets w e D plain = InSome w e D
Meets w e D (toward p K) = InSome w e D ⊎ ((f : ℕ) × Successor w p e f × Fits w f K)

-- every element of the clause's context meets the clause
abbrev pub True : World → Clause → Type 0
True w x = (e : ℕ) → e < w.size → Fits w e x.of → Meets w e x.classes x.part

abbrev pub SoundClauses : Type 0
SoundClauses = (rank : ℕ → ℕ) (axs : List Axiom) (G : Context) (w : World) → Obeys w axs → (x : Clause) → InClauses rank axs G x → True w x

-- hence a goal that is refuted has no element in any finite world
abbrev pub Sound : Type 0
Sound = (rank : ℕ → ℕ) (axs : List Axiom) (G : Context) → Refuted rank axs G → Possible axs G.held G.denied → ⊥
