-- Marks on what the first clauses say, one clause after another.
use Rattle.std.proofs.Common.{◌≡◌, ℕ, ◌+◌, ◌*◌, ◌/◌, ◌%◌, ◌<◌, ◌≤◌, Bool, true, false, ◌||◌, eqb, ◌⊎◌, ◌↔◌, List, length, get_or, set, Some, None, refl, sym, ap, ◌∙◌, subst, inl, inr, arith, length-set}
use Rattle.std.proofs.lemmas.List.{get_or-set_same, get_or-set_other, get_or_read}
use Rattle.std.proofs.lemmas.Bool.{cases_eq, both_ways, eqb-true, eq-eqb, or_cases, or_left, or_right}
use Rattle.terms.specs.Sets.{has, Has, join}
use Rattle.terms.proofs.Masks.{zero_none, join_l, join_r, join_cases}
use Rattle.worlds.specs.Entries.{marked}
use Rattle.tables.specs.Tables.{PartCites}
use Rattle.tables.specs.declared.records.ContextRecord.{ContextRecord}
use Rattle.tables.specs.declared.records.RolePart.{RolePart}
use Rattle.tables.specs.declared.records.ClauseRecord.{ClauseRecord}
use Rattle.models.specs.Elements.{no_clause, clause_at, Safe, Empties, Emptied, is_live, Tells, live_before, Produces}
use Rattle.models.specs.Writing.{RoleBelow}
use Rattle.models.specs.Targets.{Wishes, Wants, Beaten, Points, Row}

-- ---- live slots

emptied_upto : (xs : List ClauseRecord) (k h : ℕ) → Emptied xs k h → Emptied xs (k + 1) h
emptied_upto xs k h e = record { by = e.by; below = omega (arith, e.below); empties = e.empties }

-- what the first k + 1 clauses say, the first k say or the last one does
emptied_cases : (xs : List ClauseRecord) (k h : ℕ) → Emptied xs (k + 1) h → Emptied xs k h ⊎ Empties h (clause_at xs k)
emptied_cases xs k h e = elim (cases_eq e.by k) [
  | inl q ↦ inr (subst (λ j. Empties h (clause_at xs j)) q e.empties)
  | inr n ↦ inl (record { by = e.by; below = omega (arith, e.below); empties = e.empties })
]

pub tells_none : (xs : List ClauseRecord) (live : List Bool) → length live ≡ 256 → ((h : ℕ) → h < 256 → is_live live h ≡ true) → Tells xs 0 live
tells_none xs live n f = record { size = n; right = λ h l. (λ e m. omega (arith, m.below), λ e. f h l) }

pub tells_no : (xs : List ClauseRecord) (k : ℕ) (live next : List Bool) → next ≡ live → (((clause_at xs k).part ≡ None) × ((clause_at xs k).classes.bits ≡ 0) → ⊥) → Tells xs k live → Tells xs (k + 1) next
tells_no xs k live next v n t = subst (Tells xs (k + 1)) (sym v) (record {
  size = t.size;
  right = λ h l. (
    λ e m. elim (emptied_cases xs k h m) [ inl p ↦ (t.right h l).0 e p | inr p ↦ n (p.is_plain, p.none) ],
    λ e. (t.right h l).1 (λ m. e (emptied_upto xs k h m)),
  );
})

pub tells_yes : (xs : List ClauseRecord) (k j : ℕ) (live next : List Bool) → next ≡ set live j false → j ≡ (clause_at xs k).context → j < 256 → ((clause_at xs k).part ≡ None) × ((clause_at xs k).classes.bits ≡ 0) → Tells xs k live → Tells xs (k + 1) next
tells_yes xs k j live next v q lj y t = subst (Tells xs (k + 1)) (sym v) (record {
  size = length-set live j false ∙ t.size;
  right = λ h l. elim (cases_eq h j) [
    | inl e ↦ (
      λ m. absurd (both_ways (is_live (set live j false) h) (ap (is_live (set live j false)) e ∙ get_or-set_same live j false false (omega (arith, t.size))) m),
      λ m. absurd (m (record { by = k; below = omega arith; empties = record { its = sym (e ∙ q); is_plain = y.0; none = y.1 } })),
    )
    | inr n ↦ (
      λ m p. elim (emptied_cases xs k h p) [
        | inl o ↦ (t.right h l).0 (sym (get_or-set_other live j h false false n) ∙ m) o
        | inr o ↦ n (sym o.its ∙ sym q)
      ],
      λ m. get_or-set_other live j h false false n ∙ (t.right h l).1 (λ p. m (emptied_upto xs k h p)),
    )
  ];
})

-- ---- wanted targets

wants_upto : (xs : List ClauseRecord) (j k h s : ℕ) (r : RolePart) → j ≤ k → Wants xs j h s r → Wants xs k h s r
wants_upto xs j k h s r l w = record { by = w.by; below = omega (arith, w.below); wishes = w.wishes }

wants_cases : (xs : List ClauseRecord) (k h s : ℕ) (r : RolePart) → Wants xs (k + 1) h s r → Wants xs k h s r ⊎ Wishes h s r (clause_at xs k)
wants_cases xs k h s r w = elim (cases_eq w.by k) [
  | inl q ↦ inr (subst (λ j. Wishes h s r (clause_at xs j)) q w.wishes)
  | inr n ↦ inl (record { by = w.by; below = omega (arith, w.below); wishes = w.wishes })
]

wants_last : (xs : List ClauseRecord) (k h s : ℕ) (r : RolePart) → Wishes h s r (clause_at xs k) → Wants xs (k + 1) h s r
wants_last xs k h s r w = record { by = k; below = omega arith; wishes = w }

-- a clause has one role part
pub wishes_one : (h s : ℕ) (q r : RolePart) (x : ClauseRecord) → Wishes h s q x → Wishes h s r x → q ≡ r
wishes_one h s q r x v w = let e : ◌≡◌ {A = _} (Some q) (Some r) = sym v.is_part ∙ w.is_part in cc

-- what a wanted role part cites
pub wish_safe : {cs : List ContextRecord} {xs : List ClauseRecord} {h s : ℕ} {r : RolePart} (k : ℕ) → Safe cs xs → k < length xs → ((p : RolePart) → Some r ≡ Some p ↔ Wishes h s p (clause_at xs k))
    → (r.context < length cs) × (r.context < 256) × (r.role < 16)
wish_safe {cs} {r = r} k safe l wish =
    let w = (wish r).0 refl in
    let cited : r.context < length cs = subst (PartCites (length cs)) w.is_part (safe.cited k l).1 in
    (cited, omega (arith, safe.few), subst (RoleBelow 16) w.is_part (safe.low k l))

-- what a clause cites, as a search of the clauses gives it
pub safe_at : {cs : List ContextRecord} {xs : List ClauseRecord} → Safe cs xs → (k : ℕ) → k < length xs → (x : ClauseRecord) → x ≡ get_or xs k x → PartCites (length cs) x.part
safe_at {cs} {xs} safe k l x e = subst (λ (y : ClauseRecord). PartCites (length cs) y.part) (sym (get_or_read xs k x l e no_clause)) (safe.cited k l).1

-- ---- links by marks

-- the marks are those of the first k clauses
abbrev pub Pointed : List ContextRecord → List ClauseRecord → List Bool → ℕ → ℕ → ℕ → List ℕ → Type 0
Pointed cs xs live h s k links = (p f : ℕ) → f < 256 → marked links (256 * p + f) ≡ true ↔ Points cs xs live k h s p f

module _ (cs : List ContextRecord) (xs : List ClauseRecord) (live : List Bool) (h s : ℕ) where
  points_upto : (k p f : ℕ) → Points cs xs live k h s p f → Points cs xs live (k + 1) h s p f
  points_upto k p f x = record { to = x.to; wanted = wants_upto xs k (k + 1) h s _ (omega arith) x.wanted; best = x.best; there = x.there; number = x.number }

  points_cases : (k p f : ℕ) → Points cs xs live (k + 1) h s p f
      → Points cs xs live k h s p f ⊎ ((t : ℕ) × Wishes h s (record { role = p; context = t }) (clause_at xs k) × (Beaten cs xs (length xs) h s (record { role = p; context = t }) → ⊥) × (is_live live t ≡ true) × (live_before live t ≡ f))
  points_cases k p f x = elim (wants_cases xs k h s (record { role = p; context = x.to }) x.wanted) [
    | inl w ↦ inl (record { to = x.to; wanted = w; best = x.best; there = x.there; number = x.number })
    | inr w ↦ inr (x.to, w, x.best, x.there, x.number)
  ]

  -- the clause adds none
  pub pointed_no : (k : ℕ) (links links' : List ℕ) → links' ≡ links
      → ((r : RolePart) → Wishes h s r (clause_at xs k) → is_live live r.context ≡ true → (Beaten cs xs (length xs) h s r → ⊥) → ⊥)
      → Pointed cs xs live h s k links → Pointed cs xs live h s (k + 1) links'
  pointed_no k links links' e n d = subst (Pointed cs xs live h s (k + 1)) (sym e) (λ p f l. (
    λ m. points_upto k p f ((d p f l).0 m),
    λ x. elim (points_cases k p f x) [ inl y ↦ (d p f l).1 y | inr y ↦ absurd (n (record { role = p; context = y.0 }) y.1 y.3 y.2) ],
  ))

  -- it adds the one to r
  pub pointed_yes : (k : ℕ) (r : RolePart) (links links' : List ℕ) (number : ℕ) → live_before live r.context < 256 → number ≡ 256 * r.role + live_before live r.context
      → ((j : ℕ) → marked links' j ≡ (eqb j number || marked links j))
      → Wishes h s r (clause_at xs k) → is_live live r.context ≡ true → (Beaten cs xs (length xs) h s r → ⊥)
      → Pointed cs xs live h s k links → Pointed cs xs live h s (k + 1) links'
  pointed_yes k r links links' number low at more w there best d p f l = (
    λ m. elim (or_cases (eqb (256 * p + f) number) (marked links (256 * p + f)) (sym (more (256 * p + f)) ∙ m)) [
      | inl e ↦ (
          let here : 256 * p + f ≡ number = eqb-true (256 * p + f) number e in
          let same-p : r.role ≡ p = omega arith in
          let same-f : live_before live r.context ≡ f = omega arith in
          record {
            to = r.context;
            wanted = wants_last xs k h s (record { role = p; context = r.context }) (subst (λ q. Wishes h s (record { role = q; context = r.context }) (clause_at xs k)) same-p w);
            best = subst (λ q. Beaten cs xs (length xs) h s (record { role = q; context = r.context }) → ⊥) same-p best;
            there = there;
            number = same-f;
          })
      | inr o ↦ points_upto k p f ((d p f l).0 o)
    ],
    λ x. more (256 * p + f) ∙ elim (points_cases k p f x) [
      | inl y ↦ or_right (eqb (256 * p + f) number) (marked links (256 * p + f)) ((d p f l).1 y)
      | inr y ↦ (
          let one = wishes_one h s (record { role = p; context = y.0 }) r (clause_at xs k) y.1 w in
          let same-p : p ≡ r.role = ap (λ (q : RolePart). q.role) one in
          let same-t : live_before live y.0 ≡ live_before live r.context = ap (λ (q : RolePart). live_before live q.context) one in
          or_left (eqb (256 * p + f) number) (marked links (256 * p + f)) (eq-eqb (256 * p + f) number (omega (arith, y.4))))
    ],
  )

-- ---- words of links by the roles that reach one

-- the word has the links by those of the first k roles that reach the role
abbrev pub Gathered : List ℕ → List ℕ → ℕ → ℕ → ℕ → ℕ → Type 0
Gathered reach links role block k word = (b : ℕ) → Has word b ↔ ((p : ℕ) × (p < k) × Has (get_or reach p 0) role × Has (get_or links (4 * p + block) 0) b)

module _ (reach links : List ℕ) (role block : ℕ) where
  pub gathered_none : (word : ℕ) → word ≡ 0 → Gathered reach links role block 0 word
  gathered_none word e b = (λ m. absurd (zero_none b (subst (λ s. Has s b) e m)), λ x. absurd (omega (arith, x.1)))

  pub gathered_no : (k word next : ℕ) → next ≡ word → (Has (get_or reach k 0) role → ⊥) → Gathered reach links role block k word → Gathered reach links role block (k + 1) next
  gathered_no k word next e n g b = (
    λ m. let x = (g b).0 (subst (λ s. Has s b) e m) in (x.0, omega (arith, x.1), x.2, x.3),
    λ x. subst (λ s. Has s b) (sym e) (elim (cases_eq x.0 k) [
      | inl q ↦ absurd (n (subst (λ p. Has (get_or reach p 0) role) q x.2))
      | inr d ↦ (g b).1 (x.0, omega (arith, x.1), x.2, x.3)
    ]),
  )

  pub gathered_yes : (k word more next : ℕ) → next ≡ join word more → more ≡ get_or links (4 * k + block) 0 → Has (get_or reach k 0) role → Gathered reach links role block k word → Gathered reach links role block (k + 1) next
  gathered_yes k word more next e v y g b = (
    λ m. elim (join_cases word more b (subst (λ s. Has s b) e m)) [
      | inl o ↦ (let x = (g b).0 o in (x.0, omega (arith, x.1), x.2, x.3))
      | inr o ↦ (k, omega arith, y, subst (λ s. Has s b) v o)
    ],
    λ x. subst (λ s. Has s b) (sym e) (elim (cases_eq x.0 k) [
      | inl q ↦ join_r word more b (subst (λ s. Has s b) (sym v) (subst (λ p. Has (get_or links (4 * p + block) 0) b) q x.3))
      | inr d ↦ join_l word more b ((g b).1 (x.0, omega (arith, x.1), x.2, x.3))
    ]),
  )

-- ---- a row, word after word

-- the first k words have the links of each role in turn
abbrev pub Filled : List ℕ → List ℕ → ℕ → List ℕ → Type 0
Filled reach links k words = (j : ℕ) → j < k → Gathered reach links (j / 4) (j % 4) 16 (get_or words j 0)

-- a row that is filled is the row of its slot
pub filled_row : (cs : List ContextRecord) (xs : List ClauseRecord) (live : List Bool) (reach links : List ℕ) (roles h s k : ℕ) (row words : List ℕ) → 4 * roles ≤ k
    → ((a : ℕ) → Has s a ↔ Produces xs h s a) → ((p f : ℕ) → f < 256 → marked links (256 * p + f) ≡ true ↔ Points cs xs live (length xs) h s p f)
    → get_or row 0 0 ≡ s → ((j : ℕ) → j < k → get_or row (1 + j) 0 ≡ get_or words j 0) → Filled reach links k words → Row cs xs live reach roles h (λ j. get_or row j 0)
filled_row cs xs live reach links roles h s k row words l produced marks first rest f = record {
  classes = λ a. subst (λ t. Has t a ↔ Produces xs h t a) (sym first) (produced a);
  links = λ q n lq ln.
      let role : (4 * q + n / 64) / 4 ≡ q = omega arith in
      let block : (4 * q + n / 64) % 4 ≡ n / 64 = omega arith in
      let g = told (4 * q + n / 64) (omega arith) (n % 64) in (
        λ m. let x = g.0 m in (
          x.0,
          x.1,
          subst (Has (get_or reach x.0 0)) role x.2,
          subst (λ t. Points cs xs live (length xs) h t x.0 n) (sym first)
              ((marks x.0 n ln).0 (same_bit x.0 n ∙ subst (λ b. Has (get_or links (4 * x.0 + b) 0) (n % 64)) block x.3)),
        ),
        λ x. g.1 (
          x.0,
          x.1,
          subst (Has (get_or reach x.0 0)) (sym role) x.2,
          subst (λ b. Has (get_or links (4 * x.0 + b) 0) (n % 64)) (sym block)
              (sym (same_bit x.0 n) ∙ (marks x.0 n ln).1 (subst (λ t. Points cs xs live (length xs) h t x.0 n) first x.3)),
        ),
      );
}
  where
    told : (j : ℕ) → j < k → Gathered reach links (j / 4) (j % 4) 16 (get_or row (1 + j) 0)
    told j lj = subst (Gathered reach links (j / 4) (j % 4) 16) (sym (rest j lj)) (f j lj)

    -- the mark of a number is the bit of its word
    same_bit : (p n : ℕ) → marked links (256 * p + n) ≡ has (get_or links (4 * p + n / 64) 0) (n % 64)
    same_bit p n =
        let word : (256 * p + n) / 64 ≡ 4 * p + n / 64 = omega arith in
        let bit : (256 * p + n) % 64 ≡ n % 64 = omega arith in
        λ i. has (get_or links (word i) 0) (bit i)
