-- Which roles reach which, tested one axiom after another.
use Rattle.std.proofs.Common.{◌≡◌, ℕ, Bool, true, false, ◌&&◌, ◌||◌, eqb, ◌⊎◌, List, [], ◌∷◌, sym, refl, ap, subst, inl, inr, ⊎_elim}
use mathlib.Core.List.Memᴰ
use mathlib.Core.List.{Memᴰ}
use Rattle.std.proofs.lemmas.Bool.{eqb-true, eq-eqb, and_parts, and_from, or_cases, or_left, or_right, both_ways}
use Rattle.terms.specs.declared.axioms.Axiom.{Axiom}
use Rattle.terms.specs.declared.axioms.Axiom.TheVariants.{Inclusion, Exists, ExistsLower, Forall, RoleInclusion}
use Rattle.closure.specs.Closures.{Reaches, here, step}
use Rattle.closure.proofs.Decisions.{is_true, dec_map}

reach_more : {x : Axiom} {axs : List Axiom} {p q : ℕ} → Reaches axs p q → Reaches (x ∷ axs) p q
reach_more here = here
reach_more (step r m) = step (reach_more r) (Memᴰ.tail m)

reach_trans : {axs : List Axiom} {p q r : ℕ} → Reaches axs p q → Reaches axs q r → Reaches axs p r
reach_trans f here = f
reach_trans f (step g m) = step (reach_trans f g) m

reach_none : {p q : ℕ} → Reaches [] p q → p ≡ q
reach_none here = refl
reach_none (step r m) = absurd (Memᴰ.not-nil m)

-- the axiom is the inclusion of a role in a role
abbrev is_role : Axiom → Bool
is_role (Inclusion l m) = false
is_role (Exists a r b) = false
is_role (ExistsLower r a b) = false
is_role (Forall a r b) = false
is_role (RoleInclusion a b) = true

-- where the axiom ahead is of another form, a way goes on without it
reach_other : {x : Axiom} {axs : List Axiom} {p q : ℕ} → is_role x ≡ false → Reaches (x ∷ axs) p q → Reaches axs p q
reach_other n here = here
reach_other {x} {axs} n (step {q = q} {r = r} f m) = ⊎_elim
    (λ (e : RoleInclusion q r ≡ x). absurd (both_ways (is_role x) n (sym (ap is_role e))))
    (λ (k : Memᴰ (RoleInclusion q r) axs). step (reach_other n f) k)
    (Memᴰ.cases_cons m)

-- a way that uses the inclusion of a in b, perhaps more than once, goes to a first and from b last
reach_split : {a b : ℕ} {axs : List Axiom} {p q : ℕ} → Reaches (RoleInclusion a b ∷ axs) p q → Reaches axs p q ⊎ (Reaches axs p a × Reaches axs b q)
reach_split here = inl here
reach_split {a} {b} {axs} {p} (step {q = q} {r = r} f m) = next (reach_split f) (Memᴰ.cases_cons m)
  where
    next : Reaches axs p q ⊎ (Reaches axs p a × Reaches axs b q) → (RoleInclusion q r ≡ RoleInclusion a b) ⊎ Memᴰ (RoleInclusion q r) axs
        → Reaches axs p r ⊎ (Reaches axs p a × Reaches axs b r)
    next (inl g) (inl e) = let s : q ≡ a = cc in let t : b ≡ r = cc in inr (subst (λ y. Reaches axs p y) s g, subst (λ y. Reaches axs b y) t here)
    next (inr g) (inl e) = let t : b ≡ r = cc in inr (g.0, subst (λ y. Reaches axs b y) t here)
    next (inl g) (inr k) = inl (step g k)
    next (inr g) (inr k) = inr (g.0, step g.1 k)

reach_add : {a b : ℕ} {axs : List Axiom} {p q : ℕ} → Reaches axs p a → Reaches axs b q → Reaches (RoleInclusion a b ∷ axs) p q
reach_add f g = reach_trans (step (reach_more f) (Memᴰ.head refl)) (reach_more g)

-- the test of it
unfoldable pub leads : List Axiom → ℕ → ℕ → Bool
leads [] p q = eqb p q
leads (Inclusion l m ∷ axs) p q = leads axs p q
leads (Exists a r b ∷ axs) p q = leads axs p q
leads (ExistsLower r a b ∷ axs) p q = leads axs p q
leads (Forall a r b ∷ axs) p q = leads axs p q
leads (RoleInclusion a b ∷ axs) p q = leads axs p q || (leads axs p a && leads axs b q)

pub leads_of : (axs : List Axiom) (p q : ℕ) → leads axs p q ≡ true → Reaches axs p q
unfolding leads
leads_of [] p q e = subst (λ y. Reaches [] p y) (eqb-true p q e) here
leads_of (Inclusion l m ∷ axs) p q e = reach_more (leads_of axs p q e)
leads_of (Exists a r b ∷ axs) p q e = reach_more (leads_of axs p q e)
leads_of (ExistsLower r a b ∷ axs) p q e = reach_more (leads_of axs p q e)
leads_of (Forall a r b ∷ axs) p q e = reach_more (leads_of axs p q e)
leads_of (RoleInclusion a b ∷ axs) p q e = elim (or_cases (leads axs p q) (leads axs p a && leads axs b q) e) [
  | inl h ↦ reach_more (leads_of axs p q h)
  | inr h ↦ (let t = and_parts (leads axs p a) (leads axs b q) h in reach_add (leads_of axs p a t.0) (leads_of axs b q t.1))
]

pub reach_leads : (axs : List Axiom) (p q : ℕ) → Reaches axs p q → leads axs p q ≡ true
unfolding leads
reach_leads [] p q r = eq-eqb p q (reach_none r)
reach_leads (Inclusion l m ∷ axs) p q r = reach_leads axs p q (reach_other refl r)
reach_leads (Exists a s b ∷ axs) p q r = reach_leads axs p q (reach_other refl r)
reach_leads (ExistsLower s a b ∷ axs) p q r = reach_leads axs p q (reach_other refl r)
reach_leads (Forall a s b ∷ axs) p q r = reach_leads axs p q (reach_other refl r)
reach_leads (RoleInclusion a b ∷ axs) p q r = elim (reach_split r) [
  | inl f ↦ or_left (leads axs p q) (leads axs p a && leads axs b q) (reach_leads axs p q f)
  | inr f ↦ or_right (leads axs p q) (leads axs p a && leads axs b q) (and_from (leads axs p a) (leads axs b q) (reach_leads axs p a f.0) (reach_leads axs b q f.1))
]

pub dec_reach : (axs : List Axiom) (p q : ℕ) → Dec (Reaches axs p q)
dec_reach axs p q = dec_map (leads_of axs p q) (reach_leads axs p q) (is_true (leads axs p q))
