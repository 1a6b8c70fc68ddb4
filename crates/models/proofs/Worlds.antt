-- The rows of the live slots show a canonical world.
use Rattle.std.proofs.Common.{◌≡◌, ℕ, ◌+◌, ◌*◌, ◌/◌, ◌%◌, ◌<◌, ◌≤◌, Bool, true, ◌&&◌, ltb, ◌↔◌, List, map, length, get_or, take, sym, ap, ◌∙◌, subst, arith}
use mathlib.Core.List.Memᴰ
use mathlib.Core.List.{Memᴰ}
use Rattle.std.specs.List.{AllByRecursion}
use Rattle.std.proofs.lemmas.List.{get_or-take, length-take-le}
use Rattle.std.proofs.lemmas.Bool.{ltb-true, lt-ltb, and_parts, and_from}
use Rattle.terms.specs.Sets.{has, Has}
use Rattle.terms.specs.declared.axioms.Axiom.{Axiom}
use Rattle.worlds.specs.Worlds.{World}
use Rattle.worlds.specs.Models.{row_width, model_world}
use Rattle.closure.specs.Closures.{Context, plain, clause, rising, Reaches}
use Rattle.closure.specs.Canonical.{Live, Produced, Maximal, Canonical}
use Rattle.closure.proofs.Lists.{get_or_mem, mem_get_or}
use Rattle.tables.specs.declared.records.ContextRecord.{ContextRecord}
use Rattle.tables.specs.declared.records.ClauseRecord.{ClauseRecord}
use Rattle.tables.specs.Tables.{Tables, blank, context_of, context_in}
use Rattle.roles.specs.Reaching.{Included, Shows}
use Rattle.roles.proofs.Rows.{reach_below}
use Rattle.models.specs.Writing.{Ready, Written}
use Rattle.models.specs.Elements.{is_live, Tells, live_before}
use Rattle.models.specs.Targets.{Points, Row}
use Rattle.models.proofs.Counting.{live_none, live_le, live_lt, slot_at, slot_at_stands, slot_back}
use Rattle.models.proofs.Meanings.{Orderly, used_clauses, ready_orderly, meant, part_low, emptied_meant, meant_emptied, produces_meant, meant_produces, wants_below, best_maximal, maximal_wanted, maximal_best}
use Rattle.models.proofs.Rows.{Drawn}

module _ (cs : List ContextRecord) (xs : List ClauseRecord) (n roles : ℕ) (o : Orderly cs xs n roles) (few_roles : roles ≤ 16)
    (live : List Bool) (tells : Tells xs (length xs) live) (reach before words : List ℕ) (drawn : Drawn cs xs live reach roles n before words) where
  abbrev size : ℕ
  size = live_before live n

  abbrev w : World
  w = model_world words roles size

  -- the context of each element
  abbrev pub at : ℕ → Context
  at e = context_in cs (slot_at live n e)

  -- the row of each element
  row_of : (e : ℕ) → e < size → Row cs xs live reach roles (slot_at live n e) (λ j. get_or words (e * row_width roles + j) 0)
  row_of e l =
      let s = slot_at_stands live n e l in
      subst (λ i. Row cs xs live reach roles (slot_at live n e) (λ j. get_or words (i * row_width roles + j) 0)) s.number (drawn.rows (slot_at live n e) s.below s.there)

  -- its words, where the world reads them
  class_word : (e : ℕ) → get_or words (e * row_width roles + 0) 0 ≡ get_or words (e * row_width roles) 0
  class_word e = let same : e * row_width roles + 0 ≡ e * row_width roles = omega arith in ap (λ i. get_or words i 0) same

  link_word_lem : (e q f : ℕ) → get_or words (e * row_width roles + (1 + (4 * q + f / 64))) 0 ≡ get_or words (e * row_width roles + (1 + 4 * q + f / 64)) 0
  link_word_lem e q f = let same : e * row_width roles + (1 + (4 * q + f / 64)) ≡ e * row_width roles + (1 + 4 * q + f / 64) = omega arith in ap (λ i. get_or words i 0) same

  -- the classes of an element of the world are those of its word
  is_in_lem : (e : ℕ) → e < size → w.is_in e ≡ has (get_or words (e * row_width roles + 0) 0)
  is_in_lem e l = λ i a. lt-ltb e size l i && has (sym (class_word e) i) a

  slot_live : (h : ℕ) → h < n → is_live live h ≡ true ↔ Live (meant cs xs n roles o) (context_in cs h)
  slot_live h l =
      let low : h < 256 = omega (arith, o.fits, o.few) in (
        λ t m. (tells.right h low).0 t (meant_emptied cs xs n roles o h l m),
        λ f. (tells.right h low).1 (λ e. f (emptied_meant cs xs n roles o h l e)),
      )

  size_few : size ≤ 256
  size_few = omega (arith, live_le live n, o.fits, o.few)

  -- a link of the world is a link to a maximal target
  to_maximal : (axs : List Axiom) → Shows axs reach → (q d e : ℕ) → q < roles → d < size → e < size
      → Has (get_or words (d * row_width roles + (1 + 4 * q + e / 64)) 0) (e % 64)
      → (p : ℕ) × Reaches axs p q × Maximal (meant cs xs n roles o) (at d) (w.is_in d) p (at e)
  to_maximal axs shows q d e lq ld le m =
      let x = ((row_of d ld).links q e lq (omega (arith, size_few))).0 (subst (λ t. Has t (e % 64)) (sym (link_word_lem d q e)) m) in
      let y = x.3 in
      let h = slot_at live n d in
      let s = get_or words (d * row_width roles + 0) 0 in
      let inside = (slot_at_stands live n d ld).below in
      let below = wants_below cs xs n roles o h inside s (record { role = x.0; context = y.to }) y.wanted in
      let here : y.to ≡ slot_at live n e = sym (slot_back live n y.to below y.there) ∙ ap (slot_at live n) y.number in
      let best = best_maximal cs xs n roles o h inside s x.0 y.to y.wanted y.best in (
        x.0,
        (shows.right x.0 q x.1).0 x.2,
        subst (λ i. Maximal (meant cs xs n roles o) (at d) i x.0 (at e)) (sym (is_in_lem d ld))
            (subst (λ t. Maximal (meant cs xs n roles o) (at d) (has s) x.0 (context_in cs t)) here best),
      )

  -- and the other way
  from_maximal : (axs : List Axiom) → Shows axs reach → (q d e p : ℕ) → q < roles → d < size → e < size → p < roles → Reaches axs p q
      → Maximal (meant cs xs n roles o) (at d) (w.is_in d) p (at e)
      → Has (get_or words (d * row_width roles + (1 + 4 * q + e / 64)) 0) (e % 64)
  from_maximal axs shows q d e p lq ld le lp r m =
      let h = slot_at live n d in
      let s = get_or words (d * row_width roles + 0) 0 in
      let inside = (slot_at_stands live n d ld).below in
      let target = slot_at_stands live n e le in
      let m' = subst (λ i. Maximal (meant cs xs n roles o) (at d) i p (at e)) (is_in_lem d ld) m in
      let points : Points cs xs live (length xs) h s p e = record {
        to = slot_at live n e;
        wanted = maximal_wanted cs xs n roles o h inside s p (slot_at live n e) target.below m';
        best = maximal_best cs xs n roles o h inside s p (slot_at live n e) target.below m';
        there = target.there;
        number = target.number;
      } in
      subst (λ t. Has t (e % 64)) (link_word_lem d q e)
      (((row_of d ld).links q e lq (omega (arith, size_few))).1 (p, omega arith, (shows.right p q (omega arith)).1 r, points))

  pub rows_canonical : (axs : List Axiom) → Shows axs reach → AllByRecursion (Included roles) axs → Canonical rising axs (map context_of (take n cs)) (meant cs xs n roles o) w at
  rows_canonical axs shows inclusions = record {
    listed = λ e l. listed_slot (slot_at live n e) (slot_at_stands live n e l).below;
    live = λ e l. let s = slot_at_stands live n e l in (slot_live (slot_at live n e) s.below).0 s.there;
    every = λ H m f.
        let y = Memᴰ.of_map context_of (take n cs) m in
        let k = mem_get_or (take n cs) blank y.0 y.1 in
        let below : k.0 < n = omega (arith, k.1, length-take-le n cs o.fits) in
        let is : context_in cs k.0 ≡ H = ap context_of (sym (get_or-take n cs k.0 blank below)) ∙ ap context_of k.2 ∙ y.2 in
        let there = (slot_live k.0 below).1 (subst (Live (meant cs xs n roles o)) (sym is) f) in
        (live_before live k.0, live_lt live n k.0 below there, ap (context_in cs) (slot_back live n k.0 below there) ∙ is);
    classes = λ e a l.
        let s = slot_at_stands live n e l in
        let h = slot_at live n e in
        let word = get_or words (e * row_width roles + 0) 0 in
        subst (λ i. i a ≡ true ↔ Produced rising (meant cs xs n roles o) (at e) i a) (sym (is_in_lem e l)) (
          λ m. produces_meant cs xs n roles o h s.below word a (((row_of e l).classes a).0 m),
          λ p. ((row_of e l).classes a).1 (meant_produces cs xs n roles o h s.below word a p),
        );
    links = λ q d e ld le. (
      λ m.
          let parts = and_parts (ltb q roles) _ m in
          let ends = and_parts (ltb e size) _ (and_parts (ltb d size) _ parts.1).1 in
          to_maximal axs shows q d e (ltb-true q roles parts.0) ld le ends.1,
      λ x.
          let lp = part_low cs xs n roles o (at d) (at e) x.2.0.0 x.0 x.2.0.1 in
          let lq = reach_below roles axs x.0 q inclusions lp x.1 in
          and_from (ltb q roles) _ (lt-ltb q roles lq) (and_from (ltb d size) _ (lt-ltb d size ld) (and_from (ltb e size) _ (lt-ltb e size le)
          (from_maximal axs shows q d e x.0 lq ld le lp x.1 x.2))),
    );
  }
    where
      listed_slot : (h : ℕ) → h < n → Memᴰ (context_in cs h) (map context_of (take n cs))
      listed_slot h l =
          subst (λ (H : Context). Memᴰ H (map context_of (take n cs))) (ap context_of (get_or-take n cs h blank l))
          (Memᴰ.map context_of (get_or_mem (take n cs) blank h (omega (arith, length-take-le n cs o.fits))))

  -- no bit for an element that is not there, and none for a class that no clause has
  pub no_links : (e k f : ℕ) → e < size → k < roles → size ≤ f → f < 256 → Has (get_or words (e * row_width roles + (1 + 4 * k + f / 64)) 0) (f % 64) → ⊥
  no_links e k f l lk past lf m =
      let x = ((row_of e l).links k f lk lf).0 (subst (λ t. Has t (f % 64)) (sym (link_word_lem e k f)) m) in
      let y = x.3 in
      let below = wants_below cs xs n roles o (slot_at live n e) (slot_at_stands live n e l).below _ (record { role = x.0; context = y.to }) y.wanted in
      omega (arith, y.number, live_lt live n y.to below y.there)

  pub some_clause : (e a : ℕ) → e < size → Has (get_or words (e * row_width roles) 0) a → (H : Context) × (D : ℕ) × Memᴰ (clause H D plain) (meant cs xs n roles o) × Has D a
  some_clause e a l m =
      let p = ((row_of e l).classes a).0 (subst (λ t. Has t a) (sym (class_word e)) m) in
      let q = produces_meant cs xs n roles o (slot_at live n e) (slot_at_stands live n e l).below (get_or words (e * row_width roles + 0) 0) a p in
      (at e, q.0, q.1, q.2.0)

  pub first_slot : 0 < n → Live (meant cs xs n roles o) (context_in cs 0) → (0 < size) × (at 0 ≡ context_in cs 0)
  first_slot l f =
      let there = (slot_live 0 l).1 f in
      (let z = live_lt live n 0 l there in omega arith, ap (context_in cs) (ap (slot_at live n) (sym (live_none live)) ∙ slot_back live n 0 l there))

-- the whole promise
pub all_written : (t : Tables) (roles : ℕ) → Ready t roles → (live : List Bool) → Tells (used_clauses t) (length (used_clauses t)) live → (reach before words : List ℕ)
    → (k : ℕ) → k ≡ t.used.contexts → Drawn t.contexts (used_clauses t) live reach roles k before words → length words ≡ length before
    → (count : ℕ) → count ≡ live_before live k → Written t reach roles count before words
all_written t roles ready live tells reach before words k last drawn kept count is =
    let cs = t.contexts in
    let xs = used_clauses t in
    let n = t.used.contexts in
    let o = ready_orderly t roles ready in
    let few = ready.few_roles in
    let done = subst (λ j. Drawn t.contexts (used_clauses t) live reach roles j before words) last drawn in
    let first = first_slot cs xs n roles o few live tells reach before words done ready.goal ready.live in
    subst (λ s. Written t reach roles s before words) (sym (is ∙ ap (live_before live) last)) (record {
      some_element = first.0;
      few = live_le live n;
      size = kept;
      rest = done.rest;
      canonical = λ axs shows inclusions. (at cs xs n roles o few live tells reach before words done, rows_canonical cs xs n roles o few live tells reach before words done axs shows inclusions, first.1);
      no_more_links = no_links cs xs n roles o few live tells reach before words done;
      no_more_classes = some_clause cs xs n roles o few live tells reach before words done;
    })
