-- A table whose goal is live has a canonical world; so where it keeps the rules it has a model.
use Rattle.std.proofs.Common.{◌≡◌, ℕ, zero, suc, ◌<◌, ◌≤◌, ◌⊎◌, List, [], ◌∷◌, length, get_or, sym, refl, ap, subst, inl, inr, ⊎_elim, arith}
use mathlib.Core.List.{Memᴰ}
use Rattle.terms.specs.declared.axioms.Axiom.{Axiom}
use Rattle.worlds.specs.Worlds.{World}
use Rattle.closure.specs.Closures.{Context, plain, Clause, clause}
use Rattle.closure.specs.Canonical.{Live, CanonicalExists, Complete}
use Rattle.closure.proofs.Decisions.{dec_not, decided, decided_from, decided_to}
use Rattle.closure.proofs.Lists.{get_or_mem, mem_get_or, take_out, take_out_length, take_out_cases, take_out_of}
use Rattle.closure.proofs.Equality.{dec_listed}
use Rattle.closure.proofs.Maxima.{dec_link}
use Rattle.closure.proofs.Elements.{classes_of, class_from, class_to}
use Rattle.closure.proofs.Obedience.{canonical_obeys}

-- the live contexts of a list
module _ (clauses : List Clause) where
  dec_live : (H : Context) → Dec (Live clauses H)
  dec_live H = dec_not (dec_listed clauses (clause H zero plain))

  add_if : {P : Type 0} → Dec P → Context → List Context → List Context
  add_if (yes h) H l = H ∷ l
  add_if (no h) H l = l

  lives : List Context → List Context
  lives [] = []
  lives (H ∷ l) = add_if (dec_live H) H (lives l)

  lives_length : (l : List Context) → length (lives l) ≤ length l
  unfolding lives add_if
  lives_length [] = omega arith
  lives_length (H ∷ l) = go (dec_live H) (lives_length l)
    where
      go : (d : Dec (Live clauses H)) → length (lives l) ≤ length l → length (add_if d H (lives l)) ≤ suc (length l)
      go (yes h) r = omega arith
      go (no h) r = omega arith

  lives_from : (l : List Context) (M : Context) → Memᴰ M (lives l) → Memᴰ M l × Live clauses M
  unfolding lives add_if
  lives_from [] M m = absurd (mathlib.Core.List.Memᴰ.not-nil m)
  lives_from (H ∷ l) M m = go (dec_live H) m (lives_from l M)
    where
      go : (d : Dec (Live clauses H)) → Memᴰ M (add_if d H (lives l)) → (Memᴰ M (lives l) → Memᴰ M l × Live clauses M) → Memᴰ M (H ∷ l) × Live clauses M
      go (yes h) n r = ⊎_elim
          (λ (e : M ≡ H). (mathlib.Core.List.Memᴰ.head e, subst (λ y. Live clauses y) (sym e) h))
          (λ (k : Memᴰ M (lives l)). let t = r k in (mathlib.Core.List.Memᴰ.tail t.0, t.1))
          (mathlib.Core.List.Memᴰ.cases_cons n)
      go (no h) n r = let t = r n in (mathlib.Core.List.Memᴰ.tail t.0, t.1)

  lives_to : (l : List Context) (M : Context) → Memᴰ M l → Live clauses M → Memᴰ M (lives l)
  unfolding lives add_if
  lives_to [] M m f = absurd (mathlib.Core.List.Memᴰ.not-nil m)
  lives_to (H ∷ l) M m f = go (dec_live H) (mathlib.Core.List.Memᴰ.cases_cons m) (λ k. lives_to l M k f)
    where
      go : (d : Dec (Live clauses H)) → (M ≡ H) ⊎ Memᴰ M l → (Memᴰ M l → Memᴰ M (lives l)) → Memᴰ M (add_if d H (lives l))
      go (yes h) (inl e) r = mathlib.Core.List.Memᴰ.head e
      go (yes h) (inr k) r = mathlib.Core.List.Memᴰ.tail (r k)
      go (no h) (inl e) r = absurd (h (subst (λ y. Live clauses y) e f))
      go (no h) (inr k) r = r k

  lives_first : (G : Context) (l : List Context) → Live clauses G → lives (G ∷ l) ≡ G ∷ lives l
  unfolding lives add_if
  lives_first G l f = go (dec_live G)
    where
      go : (d : Dec (Live clauses G)) → add_if d G (lives l) ≡ G ∷ lives l
      go (yes h) = refl
      go (no h) = absurd (h f)

-- the world of a list of contexts
module _ (rank : ℕ → ℕ) (axs : List Axiom) (clauses : List Clause) (G : Context) (l : List Context) where
  abbrev at : ℕ → Context
  at e = get_or l e G

  abbrev world : World
  world = record {
    size = length l;
    is_in = λ e a. classes_of rank clauses (at e) a;
    links = λ q d e. decided (dec_link clauses (at d) (classes_of rank clauses (at d)) axs q (at e));
  }

pub canonical_exists : CanonicalExists
canonical_exists rank apart axs G contexts clauses m live-goal = (
  world rank axs clauses G elements,
  at rank axs clauses G elements,
  record {
    listed = λ e h. back (from e h).0;
    live = λ e h. (from e h).1;
    every = λ H k f. mem_get_or elements G H (lives_to clauses reordered H (there H k) f);
    classes = λ e a h. (class_from rank clauses (now e) apart a, class_to rank clauses (now e) apart a);
    links = λ q d e hd he. (
      decided_from (dec_link clauses (now d) (classes_of rank clauses (now d)) axs q (now e)),
      decided_to (dec_link clauses (now d) (classes_of rank clauses (now d)) axs q (now e)),
    );
  },
  (let z = lives_length clauses reordered in omega (arith, take_out_length m)),
  subst (λ (x : List Context). 0 < length x) (sym first) (omega arith),
  ap (λ (x : List Context). get_or x 0 G) first,
)
  where
    -- the goal first
    reordered : List Context
    reordered = G ∷ take_out m

    back : {H : Context} → Memᴰ H reordered → Memᴰ H contexts
    back k = elim (mathlib.Core.List.Memᴰ.cases_cons k) [ inl e ↦ mathlib.Core.List.Memᴰ.cast e m | inr t ↦ take_out_of m t ]

    there : (H : Context) → Memᴰ H contexts → Memᴰ H reordered
    there H k = elim (take_out_cases m k) [ inl e ↦ mathlib.Core.List.Memᴰ.head e | inr t ↦ mathlib.Core.List.Memᴰ.tail t ]

    elements : List Context
    elements = lives clauses reordered

    first : elements ≡ G ∷ lives clauses (take_out m)
    first = lives_first clauses G (take_out m) live-goal

    now : ℕ → Context
    now e = get_or elements e G

    from : (e : ℕ) → e < length elements → Memᴰ (now e) reordered × Live clauses (now e)
    from e h = lives_from clauses reordered (now e) (get_or_mem elements G e h)

pub complete : Complete
complete rank apart axs G contexts clauses closed m live-goal =
    let s = canonical_exists rank apart axs G contexts clauses m live-goal in
    let o = canonical_obeys rank axs contexts clauses s.0 s.1 closed s.2 in
    (s.0, s.1, record { obeys = o.0; small = s.3; some_element = s.4; goal_first = s.5; every = s.2.every; fits = o.1 })
