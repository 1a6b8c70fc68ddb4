-- How far opening has come.
use Rattle.std.proofs.Common.{◌≡◌, ℕ, Some, Result, Ok, ◌+◌, ◌<◌, ◌≤◌, List, [], ◌∷◌, ◌++◌, length, sym, refl, ap, ◌∙◌, subst, inl, inr, append_assoc, append-nil, arith, length-append}
use Rattle.terms.specs.declared.refusals.Fault.{Fault}
use Rattle.terms.specs.declared.refusals.Layer.{Layer}
use Rattle.terms.specs.Refusals.{refused, Passes, FirstFailing}
use Rattle.sheets.specs.declared.field.Field.{Field}
use Rattle.sheets.specs.Fields.{Reads}
use Rattle.sheets.specs.Sheets.{Entry, tag, body, in_sheet, field_of, written, Contents, nothing, more, after, field_checks, entry_checks, Fits, Formed, Says, Fails, Gives}

-- the text up to place is written by a well formed list of entries, after which c is held and rest is left
pub record Sofar (text : List ℕ) (c : Contents) (rest : List ℕ) (place : ℕ) : Type 0 where
  pub good : List Entry
  pub short : length text ≤ 60000
  pub whole : text ≡ written good ++ rest
  pub formed : Formed nothing good
  pub there : place ≡ length (written good)
  pub holds : c ≡ after nothing good

-- ---- one more entry

written_more : (es : List Entry) (e : Entry) → written (es ++ e ∷ []) ≡ written es ++ field_of (tag e) (body e)
written_more [] e = append-nil (field_of (tag e) (body e))
written_more (d ∷ es) e = ap (λ l. field_of (tag d) (body d) ++ l) (written_more es e) ∙ sym (append_assoc (field_of (tag d) (body d)) (written es) (field_of (tag e) (body e)))

after_more : (c : Contents) (es : List Entry) (e : Entry) → after c (es ++ e ∷ []) ≡ more (after c es) e
after_more c [] e = refl
after_more c (d ∷ es) e = after_more (more c d) es e

formed_more : (c : Contents) (es : List Entry) (e : Entry) → Formed c es → Fits (after c es) e → Formed c (es ++ e ∷ [])
formed_more c [] e w f = (f, tt)
formed_more c (d ∷ es) e w f = (w.0, formed_more (more c d) es e w.1 f)

-- the checks of a field are those of the entry that it says
pub said_passes : (t : ℕ) (b : List ℕ) (e : Entry) → Says t b e → Passes (field_checks t b) → Passes (field_checks (tag e) (body e))
said_passes t b e s p = subst (λ x. Passes (field_checks (tag e) x)) s.1 (subst (λ x. Passes (field_checks x b)) s.0 p)

module _ {text : List ℕ} {c : Contents} {rest : List ℕ} {place : ℕ} (h : Sofar text c rest place) where
  pub step : (t : ℕ) (b : List ℕ) (e : Entry) (rest' : List ℕ) (place' : ℕ) (c' : Contents) → rest ≡ field_of t b ++ rest' → place' ≡ place + length (field_of t b) → Says t b e → Passes (field_checks t b) → Passes (entry_checks c e) → c' ≡ more c e → Sofar text c' rest' place'
  step t b e rest' place' c' w p s f k m =
      let same : field_of t b ≡ field_of (tag e) (body e) = λ i. field_of (s.0 i) (s.1 i) in
      record {
        good = h.good ++ e ∷ [];
        short = h.short;
        whole = h.whole ∙ ap (λ l. written h.good ++ l) (w ∙ ap (λ l. l ++ rest') same)
            ∙ sym (append_assoc (written h.good) (field_of (tag e) (body e)) rest') ∙ ap (λ l. l ++ rest') (sym (written_more h.good e));
        formed = formed_more nothing h.good e h.formed (said_passes t b e s f, subst (λ x. Passes (entry_checks x e)) h.holds k);
        there = p ∙ ap (λ n. n + length (field_of t b)) h.there ∙ ap (λ l. length (written h.good) + length l) same
            ∙ sym (length-append (written h.good) (field_of (tag e) (body e))) ∙ ap length (sym (written_more h.good e));
        holds = m ∙ ap (λ x. more x e) h.holds ∙ sym (after_more nothing h.good e);
      }

  -- the field fails a check
  stop : (n p : ℕ) (y : Layer) (t : ℕ) (b rest' : List ℕ) → p ≡ place → y ≡ in_sheet → rest ≡ field_of t b ++ rest' → Fails c t b n → Gives text (refused n p y)
  stop n p y t b rest' e l w k = (
    l,
    inr (record {
      good = h.good;
      rest = rest;
      short = h.short;
      whole = h.whole;
      formed = h.formed;
      there = e ∙ h.there;
      some = subst (λ l. 0 < length l) (sym w) (omega arith);
      rejects = inr (t, b, rest', w, subst (λ x. Fails x t b n) h.holds k);
    }),
  )

  pub stop_field : (n p : ℕ) (y : Layer) (t : ℕ) (b rest' : List ℕ) → p ≡ place → y ≡ in_sheet → rest ≡ field_of t b ++ rest' → FirstFailing (field_checks t b) n → Gives text (refused n p y)
  stop_field n p y t b rest' e l w f = stop n p y t b rest' e l w (inl f)

  pub stop_entry : (n p : ℕ) (y : Layer) (t : ℕ) (b rest' : List ℕ) (d : Entry) → p ≡ place → y ≡ in_sheet → rest ≡ field_of t b ++ rest' → Says t b d → Passes (field_checks t b) → FirstFailing (entry_checks c d) n → Gives text (refused n p y)
  stop_entry n p y t b rest' d e l w s g f = stop n p y t b rest' e l w (inr (d, s, g, f))

-- what came of a step that read a field
pub read_field : (bytes rest : List ℕ) (place next : ℕ) {r : Result Field Fault} {f : Field} → r ≡ Ok f → Reads bytes place (Some r) rest next → Reads bytes place (Some (Ok f)) rest next
read_field bytes rest place next e h = subst (λ x. Reads bytes place (Some x) rest next) e h
