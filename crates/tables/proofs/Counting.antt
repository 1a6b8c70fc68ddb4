-- Counting: good tables list their members without repeats, and where they are stuck there are more members than slots.
use Rattle.std.proofs.Common.{◌≡◌, ℕ, zero, suc, ◌<◌, ◌≤◌, ◌⊎◌, ◌↔◌, List, [], ◌∷◌, map, length, take, sym, refl, ap, ◌∙◌, subst, inl, inr, ⊎_elim, le_of_suc-le-suc, arith, length-take-le}
use mathlib.Core.List.Memᴰ
use mathlib.Core.List.{Memᴰ}
use lib.ListN.{length-map}
use Rattle.closure.specs.Closures.{Context, Clause}
use Rattle.closure.specs.Counts.{Distinct, Lists, Exactly, More}
use Rattle.tables.specs.Entering.{Holds, Among, Apart}
use Rattle.tables.specs.Tables.{Tables, Member, a_context, a_clause, context_of, clause_of, Stands, In, contexts_of, clauses_of, Good}
use Rattle.tables.specs.Adding.{Adds, NoSlot, Stuck}
use Rattle.tables.specs.Filling.{EachOnce, CountsRight, FullRight, FitsRight}
use Rattle.closure.proofs.Counting.{count_right}
use Rattle.tables.proofs.Meanings.{context_of_one, clause_of_one}

-- ---- one table, whose records mean what f says

module _ {X M : Type 0} (f : X → M) where
  -- the next slots of a list, one on
  stands_on : {x : X} {xs : List X} {n : ℕ} {m : M} → Stands f xs n m → Stands f (x ∷ xs) (suc n) m
  stands_on a = record { by = a.by; among = record { slot = suc a.among.slot; below = omega (arith, a.among.below); holds = record { is = λ d. a.among.holds.is d } }; means = a.means }

  stands_mem : (xs : List X) (n : ℕ) (m : M) → n ≤ length xs → Stands f xs n m → Memᴰ m (map f (take n xs))
  stands_mem xs zero m l a = absurd (let h = a.among.below in omega arith)
  stands_mem [] (suc n) m l a = absurd (omega arith)
  stands_mem (x ∷ xs) (suc n) m l a = at a.among.slot a.among.below a.among.holds (stands_mem xs n m (le_of_suc-le-suc l))
    where
      at : (k : ℕ) → k < suc n → Holds (x ∷ xs) k a.by → (Stands f xs n m → Memᴰ m (map f (take n xs))) → Memᴰ m (f x ∷ map f (take n xs))
      at zero h e rest = Memᴰ.head (sym a.means ∙ ap f (sym (e.is x)))
      at (suc k) h e rest = Memᴰ.tail (rest (record { by = a.by; among = record { slot = k; below = le_of_suc-le-suc h; holds = record { is = λ d. e.is d } }; means = a.means }))

  mem_stands : (xs : List X) (n : ℕ) (m : M) → Memᴰ m (map f (take n xs)) → Stands f xs n m
  mem_stands xs zero m a = absurd (Memᴰ.not-nil a)
  mem_stands [] (suc n) m a = absurd (Memᴰ.not-nil a)
  mem_stands (x ∷ xs) (suc n) m a =
      ⊎_elim
      (λ e. record { by = x; among = record { slot = 0; below = omega arith; holds = record { is = λ d. refl } }; means = sym e })
      (λ b. stands_on (mem_stands xs n m b))
      (Memᴰ.cases_cons a)

  -- f tells apart what the first n slots hold
  abbrev Telling : List X → ℕ → Type 0
  Telling xs n = (x y : X) → Among xs n x → Among xs n y → f x ≡ f y → x ≡ y

  -- no record twice, and no meaning twice
  distinct_of : (xs : List X) (n : ℕ) → n ≤ length xs → Apart xs n → Telling xs n → Distinct (map f (take n xs))
  distinct_of xs zero l apart tells = tt
  distinct_of [] (suc n) l apart tells = absurd (omega arith)
  distinct_of (x ∷ xs) (suc n) l apart tells = (new, distinct_of xs n (le_of_suc-le-suc l) (λ j k jk kn y a b. apart (suc j) (suc k) (omega arith) (omega arith) y (on a) (on b)) (λ y z a b. tells y z (among_on a) (among_on b)))
    where
      on : {k : ℕ} {y : X} → Holds xs k y → Holds (x ∷ xs) (suc k) y
      on a = record { is = λ d. a.is d }

      among_on : {y : X} → Among xs n y → Among (x ∷ xs) (suc n) y
      among_on a = record { slot = suc a.slot; below = omega (arith, a.below); holds = on a.holds }

      here : Holds (x ∷ xs) 0 x
      here = record { is = λ d. refl }

      new : Memᴰ (f x) (map f (take n xs)) → ⊥
      new m =
          let a = mem_stands xs n (f x) m in
          let e = tells a.by x (among_on a.among) (record { slot = 0; below = omega arith; holds = here }) a.means in
          apart 0 (suc a.among.slot) (omega arith) (omega (arith, a.among.below)) x here (record { is = λ d. a.among.holds.is d ∙ e })

module _ {X M : Type 0} {f : X → M} {xs : List X} {n : ℕ} (fits : n ≤ length xs) (apart : Apart xs n) (tells : Telling f xs n) where
  listed : Lists (λ m. Stands f xs n m) (map f (take n xs))
  listed m = (stands_mem f xs n m fits, mem_stands f xs n m)

  listed_length : length (map f (take n xs)) ≡ n
  listed_length = length-map (take n xs) f ∙ length-take-le n xs fits

  -- exactly the members of P are in the table: it uses as many slots as P has members
  exactly_of : {P : M → Type 0} → ((m : M) → P m ↔ Stands f xs n m) → Exactly n P
  exactly_of same = (map f (take n xs), (λ m. (λ p. (listed m).0 ((same m).0 p), λ a. (same m).1 ((listed m).1 a))), distinct_of f xs n fits apart tells, listed_length)

  -- a full table has only members of P, and lacks one of them
  more_of : {P : M → Type 0} → n ≡ length xs → ((m : M) → Stands f xs n m → P m) → (m : M) → P m → (Stands f xs n m → ⊥) → More P (length xs)
  more_of {P} full all m p absent =
      (m ∷ map f (take n xs), (λ x a. ⊎_elim (λ e. subst P (sym e) p) (λ b. all x ((listed x).1 b)) (Memᴰ.cases_cons a)), (λ a. absent ((listed m).1 a), distinct_of f xs n fits apart tells), omega (arith, full, listed_length))

-- ---- the two tables

module _ {s : Tables} (g : Good s) where
  contexts_tell : Telling context_of s.contexts s.used.contexts
  contexts_tell x y a b e = context_of_one x y e

  clauses_tell : Telling (clause_of s.contexts) s.clauses s.used.clauses
  clauses_tell x y a b e = clause_of_one g.contexts_fit g.contexts_apart x y (g.cited x a) (g.cited y b) e

  pub contexts_listed : Lists (λ K. In s (a_context K)) (contexts_of s)
  contexts_listed = listed g.contexts_fit g.contexts_apart contexts_tell

  pub clauses_listed : Lists (λ c. In s (a_clause c)) (clauses_of s)
  clauses_listed = listed g.clauses_fit g.clauses_apart clauses_tell

  pub contexts_distinct : Distinct (contexts_of s)
  contexts_distinct = distinct_of context_of s.contexts s.used.contexts g.contexts_fit g.contexts_apart contexts_tell

  pub clauses_distinct : Distinct (clauses_of s)
  clauses_distinct = distinct_of (clause_of s.contexts) s.clauses s.used.clauses g.clauses_fit g.clauses_apart clauses_tell

  pub exactly_contexts : {P : Context → Type 0} → ((K : Context) → P K ↔ In s (a_context K)) → Exactly s.used.contexts P
  exactly_contexts same = exactly_of g.contexts_fit g.contexts_apart contexts_tell same

  pub exactly_clauses : {P : Clause → Type 0} → ((c : Clause) → P c ↔ In s (a_clause c)) → Exactly s.used.clauses P
  exactly_clauses same = exactly_of g.clauses_fit g.clauses_apart clauses_tell same

  pub more_contexts : {P : Context → Type 0} → s.used.contexts ≡ length s.contexts → ((K : Context) → In s (a_context K) → P K)
      → (K : Context) → P K → (In s (a_context K) → ⊥) → More P (length s.contexts)
  more_contexts full all K p absent = more_of g.contexts_fit g.contexts_apart contexts_tell full all K p absent

  pub more_clauses : {P : Clause → Type 0} → s.used.clauses ≡ length s.clauses → ((c : Clause) → In s (a_clause c) → P c)
      → (c : Clause) → P c → (In s (a_clause c) → ⊥) → More P (length s.clauses)
  more_clauses full all c p absent = more_of g.clauses_fit g.clauses_apart clauses_tell full all c p absent

module _ {C : Member → Type 0} {s u : Tables} (start : (m : Member) → In s m → C m) where
  only_C : ((m : Member) → In u m → In s m ⊎ C m) → (m : Member) → In u m → C m
  only_C only m a = ⊎_elim (start m) (λ c. c) (only m a)

  -- all of C is there: the counts are the numbers of its contexts and clauses
  pub adds_exactly : Adds C s u → Exactly u.used.contexts (λ K. C (a_context K)) × Exactly u.used.clauses (λ c. C (a_clause c))
  adds_exactly p =
      (exactly_contexts p.grows.good (λ K. (p.all (a_context K), only_C p.only (a_context K))), exactly_clauses p.grows.good (λ c. (p.all (a_clause c), only_C p.only (a_clause c))))

  -- and so there are not more of either than slots
  pub adds_fits : Adds C s u → More (λ K. C (a_context K)) (length s.contexts) ⊎ More (λ c. C (a_clause c)) (length s.clauses) → ⊥
  adds_fits p =
      let e = adds_exactly p in
      ⊎_elim
      (λ m. let h = ((count_right (λ K. C (a_context K))).above _ _ e.0).0 m in omega (arith, p.grows.contexts.size, p.grows.good.contexts_fit))
      (λ m. let h = ((count_right (λ c. C (a_clause c))).above _ _ e.1).0 m in omega (arith, p.grows.clauses.size, p.grows.good.clauses_fit))

  -- one of C has no slot: there are more of its kind than slots
  pub stuck_more : Stuck C s u → More (λ K. C (a_context K)) (length s.contexts) ⊎ More (λ c. C (a_clause c)) (length s.clauses)
  stuck_more p = kind p.left_out p.wanted p.absent p.no_slot
    where
      kind : (m : Member) → C m → (In u m → ⊥) → NoSlot u m → More (λ K. C (a_context K)) (length s.contexts) ⊎ More (λ c. C (a_clause c)) (length s.clauses)
      kind (a_context K) c absent full =
          inl (subst (λ (n : ℕ). More (λ J. C (a_context J)) n) p.grows.contexts.size (more_contexts p.grows.good full (λ J a. only_C p.only (a_context J) a) K c absent))
      kind (a_clause d) c absent full =
          inr (subst (λ (n : ℕ). More (λ x. C (a_clause x)) n) p.grows.clauses.size (more_clauses p.grows.good full (λ x a. only_C p.only (a_clause x) a) d c absent))

-- ---- the closure

pub each_once : EachOnce
each_once s g = ((contexts_listed g, contexts_distinct g), (clauses_listed g, clauses_distinct g))

pub counts_right : CountsRight
counts_right rank axs G s u start p = adds_exactly start p

pub full_right : FullRight
full_right rank axs G s u start p = stuck_more start p

pub fits_right : FitsRight
fits_right rank axs G s u start p = adds_fits start p
