-- Checks leave one answer open.
use Rattle.std.proofs.Common.{◌≡◌, ℕ, sym, refl, ◌∙◌, subst, inl, inr}
use Rattle.terms.specs.declared.axioms.Axiom.{Axiom}
use Rattle.terms.specs.Axioms.{axiom_checks, WellFormed}
use Rattle.terms.specs.declared.refusals.Fault.{Fault}
use Rattle.terms.specs.declared.refusals.Layer.{Layer}
use Rattle.terms.specs.declared.refusals.Refusal.{Refusal}
use Rattle.terms.specs.Refusals.{number, Told, done, refused, Checks, end, check, Passes, FirstFailing, Answers}

pub first_not_passed : (cs : Checks) (n : ℕ) → FirstFailing cs n → Passes cs → ⊥
first_not_passed end n f p = f
first_not_passed (check m P rest) n (inl f) p = f.1 p.0
first_not_passed (check m P rest) n (inr f) p = first_not_passed rest n f.1 p.1

pub first_one : (cs : Checks) (m n : ℕ) → FirstFailing cs m → FirstFailing cs n → m ≡ n
first_one end m n f g = absurd f
first_one (check k P rest) m n (inl f) (inl g) = f.0 ∙ sym g.0
first_one (check k P rest) m n (inl f) (inr g) = absurd (f.1 g.0)
first_one (check k P rest) m n (inr f) (inl g) = absurd (g.1 f.0)
first_one (check k P rest) m n (inr f) (inr g) = first_one rest m n f.1 g.1

-- ---- the checks of an axiom

pub axiom_formed : (c r : ℕ) (a : Axiom) → Passes (axiom_checks c r a end) → WellFormed c r a
axiom_formed c r a p = (p.0, p.1.0)

-- a refusal that code makes at the first check that fails
pub refuses : (cs : Checks) (place : ℕ) (layer : Layer) (kind : Refusal) (f : Fault) → f ≡ record { kind = kind; place = place; layer = layer } → FirstFailing cs (number kind)
    → FirstFailing cs (number f.kind) × (f.place ≡ place) × (f.layer ≡ layer)
refuses cs place layer kind f e h =
    subst (λ g. FirstFailing cs (number g.kind) × (g.place ≡ place) × (g.layer ≡ layer)) (sym e) (h, refl, refl)

pub answers_weaker : {V : Type 0} (cs : Checks) (place : ℕ) (layer : Layer) (P Q : V → Type 0) (t : Told V) → ((v : V) → P v → Q v) → Answers cs place layer P t → Answers cs place layer Q t
answers_weaker cs place layer P Q (done v) f a = (a.0, f v a.1)
answers_weaker cs place layer P Q (refused n p y) f a = a
