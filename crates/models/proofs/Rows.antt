-- Rows of the model table, one slot after another.
use Rattle.std.proofs.Common.{◌≡◌, ℕ, ◌+◌, ◌-◌, ◌*◌, ◌/◌, ◌%◌, ◌<◌, ◌≤◌, Bool, true, false, ◌↔◌, List, length, get_or, sym, refl, ap, ◌∙◌, subst, mul-le-mul_right, add-mul, one-mul, arith, rules, below_more}
use borrow.Rule.Slice.PartMut.{put_mid}
use borrow.Author.Tests.{clash}
use Rattle.std.proofs.lemmas.List.{places}
use Rattle.terms.specs.Sets.{Has}
use Rattle.worlds.specs.Models.{row_width}
use Rattle.tables.specs.declared.records.ContextRecord.{ContextRecord}
use Rattle.tables.specs.declared.records.ClauseRecord.{ClauseRecord}
use Rattle.models.specs.Elements.{is_live, live_before, Produces}
use Rattle.models.specs.Targets.{Points, Row}
use Rattle.models.proofs.Counting.{live_yes, live_no, live_le, live_lt}

-- ---- a part of a list, written over

module _ {X : Type 0} (a k : ℕ) (xs ys : List X) (d : X) where
  pub part_before : (j : ℕ) → j < a → a ≤ length xs → get_or (put_mid a k xs ys) j d ≡ get_or xs j d
  part_before j l h = search (rules, places)

  pub part_at : (j : ℕ) → j < length ys → a ≤ length xs → get_or (put_mid a k xs ys) (a + j) d ≡ get_or ys j d
  part_at j l h = search (rules, places)

  part_after : (j : ℕ) → length ys ≡ k → a + k ≤ j → a ≤ length xs → get_or (put_mid a k xs ys) j d ≡ get_or xs j d
  part_after j e l h = search (rules, places)

-- ---- rows

pub next_row : (e w : ℕ) → (e + 1) * w ≡ e * w + w
next_row e w = add-mul e 1 w ∙ ap (λ (n : ℕ). e * w + n) (one-mul w)

-- a row among n rows ends by the end of them
pub row_end : (e n w : ℕ) → e < n → e * w + w ≤ n * w
row_end e n w l = let s : e + 1 ≤ n = omega arith in omega (arith, mul-le-mul_right w s, next_row e w)

module _ (cs : List ContextRecord) (xs : List ClauseRecord) (live : List Bool) (reach : List ℕ) (roles : ℕ) where
  -- a row by its words
  pub row_same : (h : ℕ) (word word' : ℕ → ℕ) → ((j : ℕ) → j < row_width roles → word' j ≡ word j) → Row cs xs live reach roles h word → Row cs xs live reach roles h word'
  row_same h word word' e row = record {
    classes = λ a. subst (λ t. Has t a ↔ Produces xs h t a) (sym (e 0 (omega arith))) (row.classes a);
    links = λ q f lq lf.
        subst (λ t. Has t (f % 64) ↔ ((p : ℕ) × (p < 16) × Has (get_or reach p 0) q × Points cs xs live (length xs) h (word' 0) p f)) (sym (e (1 + (4 * q + f / 64)) (omega arith)))
        (subst (λ t. Has (word (1 + (4 * q + f / 64))) (f % 64) ↔ ((p : ℕ) × (p < 16) × Has (get_or reach p 0) q × Points cs xs live (length xs) h t p f)) (sym (e 0 (omega arith)))
        (row.links q f lq lf));
  }

  -- the rows of the first k slots are written, and what stands after them is as it was
  pub record Drawn (k : ℕ) (before words : List ℕ) : Type 0 where
    pub rows : (h : ℕ) → h < k → is_live live h ≡ true → Row cs xs live reach roles h (λ j. get_or words (live_before live h * row_width roles + j) 0)
    pub rest : (j : ℕ) → live_before live k * row_width roles ≤ j → get_or words j 0 ≡ get_or before j 0

  pub drawn_none : (before : List ℕ) → Drawn 0 before before
  drawn_none before = record { rows = λ h l e. absurd (omega arith); rest = λ j l. refl }

  pub drawn_no : (k : ℕ) (before words next : List ℕ) → next ≡ words → is_live live k ≡ false → Drawn k before words → Drawn (k + 1) before next
  drawn_no k before words next v e d = subst (Drawn (k + 1) before) (sym v) (record {
    rows = below_more (λ h. is_live live h ≡ true → Row cs xs live reach roles h (λ j. get_or words (live_before live h * row_width roles + j) 0)) k d.rows (λ t. absurd (clash (sym e ∙ t)));
    rest = λ j l. d.rest j (subst (λ n. n * row_width roles ≤ j) (live_no live k e) l);
  })

  pub drawn_yes : (k e start : ℕ) (before words row next : List ℕ) → next ≡ put_mid start ((start + row_width roles) - start) words row → e ≡ live_before live k → start ≡ e * row_width roles
      → start + row_width roles ≤ length words → length row ≡ row_width roles → is_live live k ≡ true → Row cs xs live reach roles k (λ j. get_or row j 0)
      → Drawn k before words → Drawn (k + 1) before next
  drawn_yes k e start before words row next v ek st fits size there r d = subst (Drawn (k + 1) before) (sym v) (record {
    rows = below_more (λ h. is_live live h ≡ true → Row cs xs live reach roles h (λ j. get_or after (live_before live h * w + j) 0)) k
        (λ h l t. row_same h _ _
        (λ j lj. part_before start len words row 0 (live_before live h * w + j)
        (omega (arith, row_end (live_before live h) (live_before live k) w (live_lt live k h l t), at)) (omega arith))
        (d.rows h l t))
        (λ t. row_same k _ _
        (λ j lj. ap (λ n. get_or after (n + j) 0) (sym at) ∙ part_at start len words row 0 j (omega arith) (omega arith))
        r);
    rest = λ j l.
        let more : start + w ≤ j = omega (arith, at, next_row (live_before live k) w, subst (λ n. n * w ≤ j) (live_yes live k there) l) in
        part_after start len words row 0 j (omega arith) (omega arith) (omega arith) ∙ d.rest j (omega (arith, at));
  })
    where
      w : ℕ
      w = row_width roles

      len : ℕ
      len = (start + row_width roles) - start

      after : List ℕ
      after = put_mid start len words row

      at : start ≡ live_before live k * w
      at = st ∙ ap (λ n. n * row_width roles) ek

  -- the same where the width is told by an equation
  pub drawn_turn : (k e e' width : ℕ) (before words row next : List ℕ) → width ≡ row_width roles → next ≡ put_mid (e * width) ((e * width + width) - e * width) words row
      → e ≡ live_before live k → e * width + width ≤ length words → length row ≡ width → e' ≡ e + 1 → is_live live k ≡ true → Row cs xs live reach roles k (λ j. get_or row j 0)
      → Drawn k before words → (e' ≡ live_before live (k + 1)) × Drawn (k + 1) before next
  drawn_turn k e e' width before words row next we v ek fits size more there r d = (
    omega (arith, live_yes live k there),
    drawn_yes k e (e * width) before words row next (v ∙ ap (λ (n : ℕ). put_mid (e * width) ((e * width + n) - e * width) words row) we) ek (ap (λ (n : ℕ). e * n) we)
        (omega (arith, we)) (size ∙ we) there r d,
  )

-- there is room for the row of one live slot more
pub row_room : (live : List Bool) (size slot used width roles room : ℕ) → width ≡ row_width roles → size ≡ live_before live slot → slot < used → used * row_width roles ≤ room
    → size * width + width ≤ room
row_room live size slot used width roles room e s l h =
    let low : size < used = omega (arith, live_le live slot) in
    let fits : size * width + width ≤ used * width = row_end size used width low in
    let same : used * width ≡ used * row_width roles = ap (λ (n : ℕ). used * n) e in
    omega arith
