-- What can be decided, over the classes of a set and over the entries of a list.
use Rattle.std.proofs.Common.{◌≡◌, ℕ, zero, suc, ◌<◌, ◌≤◌, Bool, true, false, ◌⊎◌, List, [], ◌∷◌, refl, subst, inl, inr, ⊎_elim, arith}
use mathlib.Core.List.Memᴰ
use mathlib.Core.List.{Memᴰ}
use native.Mathlib.Decide.{ℕ_discrete, dec_le}
use Rattle.std.proofs.lemmas.Bool.{cases_Bool, both_ways, cases_lt}
use Rattle.terms.specs.Sets.{has, Has, without}
use Rattle.terms.proofs.Masks.{zero_none, has_lt, highest_of, without_cases, without_of, without_lt}
use Rattle.closure.specs.Closures.{Head}
use Rattle.closure.specs.Canonical.{Apart}

-- ---- decisions

pub is_true : (b : Bool) → Dec (b ≡ true)
is_true b = elim (cases_Bool b) [ inl e ↦ yes e | inr e ↦ no (both_ways b e) ]

pub dec_and : {A B : Type 0} → Dec A → Dec B → Dec (A × B)
dec_and (yes a) (yes b) = yes (a, b)
dec_and (yes a) (no b) = no (λ t. b t.1)
dec_and (no a) d = no (λ t. a t.0)

pub dec_not : {A : Type 0} → Dec A → Dec (A → ⊥)
dec_not (yes a) = no (λ f. f a)
dec_not (no a) = yes a

pub dec_map : {A B : Type 0} → (A → B) → (B → A) → Dec A → Dec B
dec_map f g (yes a) = yes (f a)
dec_map f g (no a) = no (λ b. a (g b))

-- what is not false is true, where it can be decided
pub sure : {A : Type 0} → Dec A → ((A → ⊥) → ⊥) → A
sure (yes a) f = a
sure (no a) f = absurd (f a)

pub decided : {A : Type 0} → Dec A → Bool
decided (yes a) = true
decided (no a) = false

pub decided_from : {A : Type 0} (d : Dec A) → decided d ≡ true → A
unfolding decided
decided_from (yes a) e = a
decided_from (no a) e = let z : ◌≡◌ {A = ℕ} 0 1 = cc in absurd (omega arith)

pub decided_to : {A : Type 0} (d : Dec A) → A → decided d ≡ true
unfolding decided
decided_to (yes a) x = refl
decided_to (no a) x = absurd (a x)

-- ---- over a set

-- some number below k has P, or none has
search_below : (P : ℕ → Type 0) → ((a : ℕ) → Dec (P a)) → (k : ℕ) → ((a : ℕ) × (a < k) × P a) ⊎ ((a : ℕ) → a < k → P a → ⊥)
search_below P d zero = inr (λ a h x. omega arith)
search_below P d (suc k) = next (d k) (search_below P d k)
  where
    next : Dec (P k) → ((a : ℕ) × (a < k) × P a) ⊎ ((a : ℕ) → a < k → P a → ⊥) → ((a : ℕ) × (a < suc k) × P a) ⊎ ((a : ℕ) → a < suc k → P a → ⊥)
    next (yes x) r = inl (k, omega arith, x)
    next (no x) (inl t) = inl (t.0, omega arith, t.2)
    next (no x) (inr f) = inr (λ a h y. here a h y (ℕ_discrete a k))
      where
        here : (a : ℕ) → a < suc k → P a → Dec (a ≡ k) → ⊥
        here a h y (yes e) = x (subst P e y)
        here a h y (no e) = f a (omega arith) y

-- some class of s has P, or none has
find_some : (s : ℕ) (P : ℕ → Type 0) → ((a : ℕ) → Dec (P a)) → ((a : ℕ) × Has s a × P a) ⊎ ((a : ℕ) → Has s a → P a → ⊥)
find_some s P d = ⊎_elim
    (λ (t : (a : ℕ) × (a < s) × (Has s a × P a)). inl (t.0, t.2.0, t.2.1))
    (λ (f : (a : ℕ) → a < s → Has s a × P a → ⊥). inr (λ a h x. f a (has_lt s a h) (h, x)))
    (search_below (λ a. Has s a × P a) (λ a. dec_and (is_true (has s a)) (d a)) s)

pub find_in : (s : ℕ) (i : ℕ → Bool) → ((a : ℕ) × Has s a × (i a ≡ true)) ⊎ Apart s i
find_in s i = find_some s (λ a. i a ≡ true) (λ a. is_true (i a))

pub dec_every : (s : ℕ) (P : ℕ → Type 0) → ((a : ℕ) → Dec (P a)) → Dec ((a : ℕ) → Has s a → P a)
dec_every s P d = ⊎_elim
    (λ (t : (a : ℕ) × Has s a × (P a → ⊥)). no (λ f. t.2 (f t.0 t.1)))
    (λ (f : (a : ℕ) → Has s a → (P a → ⊥) → ⊥). yes (λ a h. sure (d a) (f a h)))
    (find_some s (λ a. P a → ⊥) (λ a. dec_not (d a)))

pub dec_apart : (s : ℕ) (i : ℕ → Bool) → Dec (Apart s i)
dec_apart s i = dec_every s (λ a. i a ≡ true → ⊥) (λ a. dec_not (is_true (i a)))

pub dec_head : (rank : ℕ → ℕ) (s a : ℕ) → Dec (Head rank s a)
dec_head rank s a = dec_and (is_true (has s a)) (dec_every s (λ b. rank b ≤ rank a) (λ b. dec_le (rank b) (rank a)))

-- a class put back: it is the head, or the head of the others is
head_back : (rank : ℕ → ℕ) (s c : ℕ) → Has s c → (without s c ≡ zero) ⊎ ((a : ℕ) × Head rank (without s c) a) → (a : ℕ) × Head rank s a
head_back rank s c h (inl z) =
    (c, (h, λ b m. elim (without_cases s c b m) [ inl e ↦ rw e (omega arith) | inr k ↦ absurd (zero_none b (subst (λ t. Has t b) z k)) ]))
head_back rank s c h (inr t) = elim (cases_lt (rank t.0) (rank c)) [
  | inl l ↦ (c, (h, λ b m. elim (without_cases s c b m) [ inl e ↦ rw e (omega arith) | inr k ↦ (let z = t.1.1 b k in omega arith) ]))
  | inr l ↦ (t.0, ((without_of s c t.0 t.1.0).0, λ b m. elim (without_cases s c b m) [ inl e ↦ rw e l | inr k ↦ t.1.1 b k ]))
]

-- a set that is not empty has a head
pub head_of : (rank : ℕ → ℕ) (s : ℕ) → (s ≡ zero) ⊎ ((a : ℕ) × Head rank s a)
head_of rank s = go s s (omega arith)
  where
    go : (n s : ℕ) → s ≤ n → (s ≡ zero) ⊎ ((a : ℕ) × Head rank s a)
    go zero s l = inl (omega arith)
    go (suc n) s l = elim (highest_of s) [
      | inl e ↦ inl e
      | inr t ↦ inr (head_back rank s t.0 t.1.0 (go n (without s t.0) (let z = without_lt s t.0 t.1.0 in omega arith)))
    ]

-- ---- over a list

-- some entry of the list has P
pub dec_some : {A : Type 0} (P : A → Type 0) → ((x : A) → Dec (P x)) → (l : List A) → Dec ((x : A) × Memᴰ x l × P x)
dec_some P d [] = no (λ t. Memᴰ.not-nil t.1)
dec_some {A} P d (y ∷ l) = next (d y) (dec_some P d l)
  where
    next : Dec (P y) → Dec ((x : A) × Memᴰ x l × P x) → Dec ((x : A) × Memᴰ x (y ∷ l) × P x)
    next (yes h) r = yes (y, Memᴰ.head refl, h)
    next (no h) (yes t) = yes (t.0, Memᴰ.tail t.1, t.2)
    next (no h) (no r) = no (λ t. ⊎_elim (λ (e : t.0 ≡ y). h (subst P e t.2)) (λ (m : Memᴰ t.0 l). r (t.0, m, t.2)) (Memᴰ.cases_cons t.1))
