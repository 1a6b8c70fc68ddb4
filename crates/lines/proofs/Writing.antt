-- Writing one piece of a line behind another.
use Rattle.std.proofs.Common.{◌≡◌, ℕ, Result, Ok, ◌+◌, List, ◌++◌, length, take, drop, codes, decimal, sym, refl, ap, ◌∙◌, subst, append_assoc, zero-add, arith, length-append}
use lib.Seq.{paste}
use Rattle.std.proofs.lemmas.List.Edits.{paste_all, paste-paste}
use Rattle.terms.specs.declared.refusals.Fault.{Fault}
use Rattle.terms.specs.Refusals.{number, Told, done, refused, told}
use Rattle.lines.specs.Lines.{Wrote, feed, refusal_bytes}
use Rattle.lines.specs.Writing.{Writes}
use Rattle.lines.specs.declared.writer.Writer.{Writer}

wrote_paste : {u v text : List ℕ} {place n : ℕ} → n ≡ length text → v ≡ paste u place text n → Wrote u place text v
wrote_paste {u} {v} {text} {place} {n} e p = record { is = p ∙ paste_all u place text n e ∙ ap (λ k. take place u ++ (text ++ drop (place + k) u)) e }

paste_from : {u v text : List ℕ} {place : ℕ} → Wrote u place text v → v ≡ paste u place text (length text)
paste_from {u} {v} {text} {place} w = w.is ∙ sym (paste_all u place text (length text) refl)

-- ---- what a source told

value : Told ℕ → ℕ
value (done v) = v
value (refused n p y) = 0

pub unwrapped : (r : Result ℕ Fault) (x y : ℕ) → r ≡ Ok x → told r ≡ done y → x ≡ y
unfolding value
unwrapped r x y e t = ap value (ap told (sym e) ∙ t)

-- ---- one piece behind another

pub writes_same : {u v : Writer} {a : List ℕ} (b : List ℕ) → a ≡ b → Writes u a v → Writes u b v
writes_same {u} {v} b e w = subst (λ t. Writes u t v) e w

pub and_then : {u v w : Writer} {a b : List ℕ} → Writes u a v → Writes v b w → Writes u (a ++ b) w
and_then {u} {v} {w} {a} {b} f g =
    let second : Wrote v.buffer.now (u.place + length a) b w.buffer.now = subst (λ n. Wrote v.buffer.now n b w.buffer.now) f.ends g.wrote in
    record {
      same = g.same ∙ f.same;
      ends = omega (arith, f.ends, g.ends, length-append a b);
      size = g.size ∙ f.size;
      wrote = wrote_paste (sym (length-append a b))
          (paste_from second ∙ ap (λ x. paste x (u.place + length a) b (length b)) (paste_from f.wrote)
          ∙ paste-paste u.buffer.now u.place a b (length a) (length b) refl refl u.within);
    }

-- a line from the buffer's start
pub from_start : {u v : Writer} {before line : List ℕ} → u.place ≡ 0 → u.buffer.now ≡ before → Writes u line v → v.buffer.now ≡ line ++ drop (length line) before
from_start {u} {v} {before} {line} z e w =
    let at : Wrote u.buffer.now 0 line v.buffer.now = subst (λ p. Wrote u.buffer.now p line v.buffer.now) z w.wrote in
    at.is ∙ ap (λ n. line ++ drop n u.buffer.now) (zero-add (length line)) ∙ ap (λ b. line ++ drop (length line) b) e

regrouped : (a b c d e : List ℕ) → a ++ (b ++ (c ++ (d ++ e))) ≡ (a ++ (b ++ (c ++ d))) ++ e
regrouped a b c d e = simp append_assoc

-- a refusal's line by its five pieces
pub refusal_pieces : (f : Fault) (n : ℕ) → n ≡ number f.kind → codes "refused " ++ (decimal n ++ (codes " at " ++ (decimal f.place ++ feed))) ≡ refusal_bytes f
refusal_pieces f n e =
    ap (λ k. codes "refused " ++ (decimal k ++ (codes " at " ++ (decimal f.place ++ feed)))) e
    ∙ regrouped (codes "refused ") (decimal (number f.kind)) (codes " at ") (decimal f.place) feed
