-- Elements by number: how many slots before one are live, and which slot has an element.
use Rattle.std.proofs.Common.{◌≡◌, ℕ, zero, suc, ◌+◌, ◌<◌, ◌≤◌, Bool, true, false, ◌⊎◌, List, length, get_or, set, is_some, Some, None, Option, sym, refl, ap, ◌∙◌, subst, inl, inr, add-one, arith, below_more}
use Rattle.std.proofs.lemmas.List.{get_or-set_same, get_or-set_other, set-get_or, get_or_past, length-map}
use Rattle.std.proofs.Math.ListN.{get_or-map}
use Rattle.std.proofs.Math.Seq.{map-set_same}
use Rattle.std.proofs.lemmas.Bool.{cases_Bool, cases_eq, cases_lt, both_ways}
use Rattle.tables.specs.declared.records.ClauseRecord.{ClauseRecord}
use Rattle.models.specs.Elements.{is_live, Tells, live_before, live_in, Numbered}

module _ (live : List Bool) where
  pub live_none : live_before live 0 ≡ 0
  unfolding live_before
  live_none = refl

  pub live_yes : (k : ℕ) → is_live live k ≡ true → live_before live (k + 1) ≡ live_before live k + 1
  unfolding live_before
  live_yes k e = rw (add-one k) (rw e)

  pub live_no : (k : ℕ) → is_live live k ≡ false → live_before live (k + 1) ≡ live_before live k
  unfolding live_before
  live_no k e = rw (add-one k) (rw e (omega arith))

  -- one slot more
  live_step : (k : ℕ) → ((is_live live k ≡ true) × (live_before live (k + 1) ≡ live_before live k + 1)) ⊎ ((is_live live k ≡ false) × (live_before live (k + 1) ≡ live_before live k))
  live_step k = elim (cases_Bool (is_live live k)) [ inl e ↦ inl (e, live_yes k e) | inr e ↦ inr (e, live_no k e) ]

  pub live_le : (k : ℕ) → live_before live k ≤ k
  live_le zero = omega (arith, live_none)
  live_le (suc k) = elim (live_step k) [ inl e ↦ rw (← add-one k) (omega (arith, e.1, live_le k)) | inr e ↦ rw (← add-one k) (omega (arith, e.1, live_le k)) ]

  -- a live slot has a smaller number than what comes after it
  pub live_lt : (k h : ℕ) → h < k → is_live live h ≡ true → live_before live h < live_before live k
  live_lt zero h l e = absurd (omega arith)
  live_lt (suc k) h l e = rw (← add-one k) (elim (cases_eq h k) [
    | inl q ↦ subst (λ i. live_before live i < live_before live (k + 1)) (sym q) (omega (arith, live_yes k (ap (is_live live) (sym q) ∙ e)))
    | inr n ↦ (let low = live_lt k h (omega arith) e in elim (live_step k) [ inl s ↦ omega (arith, s.1) | inr s ↦ omega (arith, s.1) ])
  ])

  -- and no two have the same
  pub live_one : (g h : ℕ) → is_live live g ≡ true → is_live live h ≡ true → live_before live g ≡ live_before live h → g ≡ h
  live_one g h eg eh same = elim (cases_lt g h) [
    | inl l ↦ absurd (omega (arith, live_lt h g l eg))
    | inr l ↦ elim (cases_lt h g) [ inl m ↦ absurd (omega (arith, live_lt g h m eh)) | inr m ↦ omega arith ]
  ]

  -- the slot that has the element e
  pub record Slot (n e : ℕ) : Type 0 where
    pub slot : ℕ
    pub below : slot < n
    pub there : is_live live slot ≡ true
    pub number : live_before live slot ≡ e

  pub find_slot : (n e : ℕ) → e < live_before live n → Slot n e
  find_slot zero e l = absurd (omega (arith, live_none))
  find_slot (suc n) e l = elim (live_step n) [
    | inl s ↦ elim (cases_eq (live_before live n) e) [
      | inl q ↦ record { slot = n; below = omega arith; there = s.0; number = q }
      | inr d ↦ let t = find_slot n e (omega (arith, s.1, ap (live_before live) (add-one n))) in record { slot = t.slot; below = omega (arith, t.below); there = t.there; number = t.number }
    ]
    | inr s ↦ let t = find_slot n e (omega (arith, s.1, ap (live_before live) (add-one n))) in record { slot = t.slot; below = omega (arith, t.below); there = t.there; number = t.number }
  ]

  -- the slot of each element, and 0 past the last
  placed : (n e : ℕ) → Slot n e ⊎ (live_before live n ≤ e)
  placed n e = elim (cases_lt e (live_before live n)) [ inl l ↦ inl (find_slot n e l) | inr l ↦ inr l ]

  slot_in : {n e : ℕ} → Slot n e ⊎ (live_before live n ≤ e) → ℕ
  slot_in (inl s) = s.slot
  slot_in (inr l) = 0

  pub slot_at : ℕ → ℕ → ℕ
  slot_at n e = slot_in (placed n e)

  -- what is known of it
  pub record Standing (n e h : ℕ) : Type 0 where
    pub below : h < n
    pub there : is_live live h ≡ true
    pub number : live_before live h ≡ e

  pub slot_at_stands : (n e : ℕ) → e < live_before live n → Standing n e (slot_at n e)
  unfolding slot_at slot_in
  slot_at_stands n e l = known (placed n e)
    where
      known : (x : Slot n e ⊎ (live_before live n ≤ e)) → Standing n e (slot_in x)
      known (inl s) = record { below = s.below; there = s.there; number = s.number }
      known (inr m) = absurd (omega arith)

  pub slot_back : (n h : ℕ) → h < n → is_live live h ≡ true → slot_at n (live_before live h) ≡ h
  slot_back n h l e =
      let s = slot_at_stands n (live_before live h) (live_lt n h l e) in
      live_one (slot_at n (live_before live h)) h s.there e s.number

-- ---- the loops that number them

-- which slots have a number is told by the first k clauses
abbrev pub Started : List ClauseRecord → ℕ → List (Option ℕ) → Type 0
Started xs k numbers = Tells xs k (live_in numbers)

-- the same slots have a number as had one at first, and those before k have their own
pub record Counted (first numbers : List (Option ℕ)) (count k : ℕ) : Type 0 where
  pub live : live_in numbers ≡ live_in first
  pub next : count ≡ live_before (live_in first) k
  pub right : (h n : ℕ) → h < k → get_or numbers h None ≡ Some n → n ≡ live_before (live_in first) h

-- a slot is live where it has a number
pub live_at : (numbers : List (Option ℕ)) (h : ℕ) → is_live (live_in numbers) h ≡ is_some (get_or numbers h None)
live_at numbers h = get_or-map is_some numbers h None

some_number : (o : Option ℕ) → is_some o ≡ true → (n : ℕ) × (o ≡ Some n)
some_number None e = absurd (both_ways false refl e)
some_number (Some n) e = (n, refl)

-- and has one where it is live
pub live_number : (numbers : List (Option ℕ)) (h : ℕ) → is_live (live_in numbers) h ≡ true → (n : ℕ) × (get_or numbers h None ≡ Some n)
live_number numbers h e = some_number (get_or numbers h None) (sym (live_at numbers h) ∙ e)

pub counted_none : (numbers : List (Option ℕ)) → Counted numbers numbers 0 0
counted_none numbers = record { live = refl; next = sym (live_none (live_in numbers)); right = λ h n l. absurd (omega arith) }

module _ {first numbers : List (Option ℕ)} {count k : ℕ} (c : Counted first numbers count k) where
  here : is_live (live_in first) k ≡ is_some (get_or numbers k None)
  here = ap (λ live. is_live live k) (sym c.live) ∙ live_at numbers k

  pub counted_yes : (more : ℕ) (next : List (Option ℕ)) → next ≡ set numbers k (Some count) → more ≡ count + 1 → k < length (live_in first) → is_some (get_or numbers k None) ≡ true → Counted first next more (k + 1)
  counted_yes more next v w low e = subst (λ ns. Counted first ns more (k + 1)) (sym v) (record {
    live = map-set_same is_some numbers k (Some count) None (sym e) ∙ c.live;
    next = omega (arith, w, c.next, live_yes (live_in first) k (here ∙ e));
    right = λ h n. below_more (λ j. get_or (set numbers k (Some count)) j None ≡ Some n → n ≡ live_before (live_in first) j) k
        (λ j l q. c.right j n l (sym (get_or-set_other numbers k j (Some count) None (omega arith)) ∙ q))
        (λ q. let r : Some n ≡ Some count = sym q ∙ get_or-set_same numbers k (Some count) None (omega (arith, low, ap length c.live, length-map numbers is_some)) in let s : n ≡ count = cc in s ∙ c.next)
        h;
  })

  pub counted_no : (more : ℕ) (next : List (Option ℕ)) → next ≡ set numbers k (get_or numbers k None) → more ≡ count → is_some (get_or numbers k None) ≡ false → Counted first next more (k + 1)
  counted_no more next v w e = subst (λ ns. Counted first ns more (k + 1)) (sym (v ∙ set-get_or numbers k None)) (record {
    live = c.live;
    next = omega (arith, w, c.next, live_no (live_in first) k (here ∙ e));
    right = λ h n. below_more (λ j. get_or numbers j None ≡ Some n → n ≡ live_before (live_in first) j) k
        (λ j l. c.right j n l)
        (λ q. absurd (both_ways (is_some (get_or numbers k None)) e (ap is_some q)))
        h;
  })

-- what the first loop tells of all clauses, and the second counts to the end
pub counted_all : {xs : List ClauseRecord} {first numbers : List (Option ℕ)} {count k j : ℕ} → 256 ≤ k → j ≡ length xs → Tells xs j (live_in first) → Counted first numbers count k → Numbered xs numbers
counted_all {xs} {first} {numbers} {count} {k} {j} l last t c = record {
  tells = subst (Tells xs (length xs)) (sym c.live) (subst (λ i. Tells xs i (live_in first)) last t);
  right = λ h n e. subst (λ live. n ≡ live_before live h) (sym c.live) (elim (cases_lt h 256) [
    | inl low ↦ c.right h n (omega arith) e
    | inr high ↦ absurd (both_ways (is_some (get_or numbers h None)) (ap is_some (get_or_past numbers h None (omega (arith, t.size, ap length c.live, length-map numbers is_some)))) (ap is_some e))
  ]);
}
