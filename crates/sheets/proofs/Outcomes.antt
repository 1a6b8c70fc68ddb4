-- A text has at most one outcome.
use Rattle.std.proofs.Common.{◌≡◌, ℕ, ◌<◌, ◌⊎◌, List, [], ◌∷◌, ◌++◌, length, get_or, take, drop, sym, refl, ap, ◌∙◌, subst, inl, inr, append_assoc, append-nil, arith}
use Rattle.std.proofs.lemmas.List.{take_at, drop_at}
use Rattle.terms.specs.Refusals.{Told, done, refused, FirstFailing}
use Rattle.terms.proofs.Checking.{first_not_passed, first_one}
use Rattle.sheets.specs.Sheets.{Entry, tag, body, field_of, written, Contents, nothing, more, after, field_checks, entry_checks, Fits, Formed, Says, Fails, Rejects, Opens, Stops, Gives}
use Rattle.sheets.proofs.Entries.{same_entry}

-- ---- fields can be told apart

same_front : (b b' r r' : List ℕ) → length b ≡ length b' → b ++ r ≡ b' ++ r' → (b ≡ b') × (r ≡ r')
same_front b b' r r' l e = (
  sym (take_at b r (length b) refl) ∙ ap (take (length b)) e ∙ take_at b' r' (length b) (sym l),
  sym (drop_at b r (length b) refl) ∙ ap (drop (length b)) e ∙ drop_at b' r' (length b) (sym l),
)

same_field : (t t' : ℕ) (b b' r r' : List ℕ) → field_of t b ++ r ≡ field_of t' b' ++ r' → (t ≡ t') × (b ≡ b') × (r ≡ r')
same_field t t' b b' r r' e =
    let high = ap (λ l. get_or l 1 0) e in
    let low = ap (λ l. get_or l 2 0) e in
    let long : length b ≡ length b' = omega arith in
    let parts = same_front b b' r r' long (ap (drop 3) e) in
    (ap (λ l. get_or l 0 0) e, parts.0, parts.1)

-- ---- a field fails one check, and no entry that it says fits then

fails_unfit : (c : Contents) (t : ℕ) (b : List ℕ) (n : ℕ) (e : Entry) → Fails c t b n → Says t b e → Fits c e → ⊥
fails_unfit c t b n e (inl f) s fit = first_not_passed (field_checks (tag e) (body e)) n (subst (λ x. FirstFailing (field_checks (tag e) x) n) s.1 (subst (λ x. FirstFailing (field_checks x b) n) s.0 f)) fit.0
fails_unfit c t b n e (inr f) s fit =
    let same = same_entry t b f.0 e f.1 s in
    first_not_passed (entry_checks c e) n (subst (λ x. FirstFailing (entry_checks c x) n) same f.3) fit.1

fails_one : (c : Contents) (t : ℕ) (b : List ℕ) (m n : ℕ) → Fails c t b m → Fails c t b n → m ≡ n
fails_one c t b m n (inl f) (inl g) = first_one (field_checks t b) m n f g
fails_one c t b m n (inl f) (inr g) = absurd (first_not_passed (field_checks t b) m f g.2)
fails_one c t b m n (inr f) (inl g) = absurd (first_not_passed (field_checks t b) n g f.2)
fails_one c t b m n (inr f) (inr g) =
    let same = same_entry t b g.0 f.0 g.1 f.1 in
    first_one (entry_checks c f.0) m n f.3 (subst (λ x. FirstFailing (entry_checks c x) n) same g.3)

rejects_one : (c : Contents) (bs : List ℕ) (m n : ℕ) → Rejects c bs m → Rejects c bs n → m ≡ n
rejects_one c bs m n (inl f) (inl g) = f.0 ∙ sym g.0
rejects_one c bs m n (inl f) (inr g) = absurd (f.1 g.0 g.1 g.2 g.3)
rejects_one c bs m n (inr f) (inl g) = absurd (g.1 f.0 f.1 f.2 f.3)
rejects_one c bs m n (inr f) (inr g) =
    let s = same_field g.0 f.0 g.1 f.1 g.2 f.2 (sym g.3 ∙ f.3) in
    fails_one c f.0 f.1 m n f.4 (subst (λ b. Fails c f.0 b n) s.1 (subst (λ t. Fails c t g.1 n) s.0 g.4))

-- ---- the well formed front of a text is one

-- no entry that fits stands at the front of the bytes
Halts : Contents → List ℕ → Type 0
Halts c r = (e : Entry) (rest : List ℕ) → Fits c e → r ≡ field_of (tag e) (body e) ++ rest → ⊥

halts_end : (c : Contents) → Halts c []
unfolding Halts
halts_end c e rest f w = let l = ap length w in omega arith

halts_rejects : (c : Contents) (r : List ℕ) (n : ℕ) → Rejects c r n → Halts c r
unfolding Halts
halts_rejects c r n (inl p) e rest f w = p.1 (tag e) (body e) rest w
halts_rejects c r n (inr p) e rest f w =
    let s = same_field p.0 (tag e) p.1 (body e) p.2 rest (sym p.3 ∙ w) in
    fails_unfit c p.0 p.1 n e p.4 (s.0, s.1) f

same_lists : (c : Contents) (es fs : List Entry) (r s : List ℕ) → Formed c es → Formed c fs → Halts (after c es) r → Halts (after c fs) s → written es ++ r ≡ written fs ++ s → (es ≡ fs) × (r ≡ s)
unfolding Halts
same_lists c [] [] r s we wf he hf w = (refl, w)
same_lists c [] (f ∷ fs) r s we wf he hf w = absurd (he f (written fs ++ s) wf.0 (w ∙ append_assoc (field_of (tag f) (body f)) (written fs) s))
same_lists c (e ∷ es) [] r s we wf he hf w = absurd (hf e (written es ++ r) we.0 (sym w ∙ append_assoc (field_of (tag e) (body e)) (written es) r))
same_lists c (e ∷ es) (f ∷ fs) r s we wf he hf w =
    let p = same_field (tag e) (tag f) (body e) (body f) (written es ++ r) (written fs ++ s)
    (sym (append_assoc (field_of (tag e) (body e)) (written es) r) ∙ w ∙ append_assoc (field_of (tag f) (body f)) (written fs) s) in
    let same : e ≡ f = same_entry (tag e) (body e) e f (refl, refl) (p.0, p.1) in
    let rest = same_lists (more c e) es fs r s we.1 (subst (λ x. Formed (more c x) fs) (sym same) wf.1) he (subst (λ x. Halts (after (more c x) fs) s) (sym same) hf) p.2 in
    (λ i. same i ∷ rest.0 i, rest.1)

-- ---- the outcome is one

end_of : (text : List ℕ) (es : List Entry) → text ≡ written es → text ≡ written es ++ []
end_of text es e = e ∙ sym (append-nil (written es))

opens_one : (text : List ℕ) (c d : Contents) → Opens text c → Opens text d → c ≡ d
opens_one text c d o p =
    let s = same_lists nothing o.entries p.entries [] [] o.formed p.formed (halts_end _) (halts_end _) (sym (end_of text o.entries o.whole) ∙ end_of text p.entries p.whole) in
    o.holds ∙ ap (after nothing) s.0 ∙ sym p.holds

opens_stops : (text : List ℕ) (c : Contents) (n place : ℕ) → Opens text c → Stops text n place → ⊥
opens_stops text c n place o p =
    let s = same_lists nothing o.entries p.good [] p.rest o.formed p.formed (halts_end _) (halts_rejects _ _ n p.rejects) (sym (end_of text o.entries o.whole) ∙ p.whole) in
    let l = ap length s.1 in
    omega (arith, p.some)

stops_one : (text : List ℕ) (m n p q : ℕ) → Stops text m p → Stops text n q → (m ≡ n) × (p ≡ q)
stops_one text m n p q o t =
    let s = same_lists nothing o.good t.good o.rest t.rest o.formed t.formed (halts_rejects _ _ m o.rejects) (halts_rejects _ _ n t.rejects) (sym o.whole ∙ t.whole) in (
      rejects_one (after nothing t.good) t.rest m n (subst (λ b. Rejects (after nothing t.good) b m) s.1 (subst (λ g. Rejects (after nothing g) o.rest m) s.0 o.rejects)) t.rejects,
      o.there ∙ ap (λ g. length (written g)) s.0 ∙ sym t.there,
    )

-- what a refusal says of a text
abbrev Refuses : List ℕ → ℕ → ℕ → Type 0
Refuses text n p = ((n ≡ 1) × (p ≡ 0) × (60000 < length text)) ⊎ Stops text n p

opens_refuses : (text : List ℕ) (c : Contents) (n p : ℕ) → Opens text c → Refuses text n p → ⊥
opens_refuses text c n p o (inl l) = omega (arith, l.2, o.short)
opens_refuses text c n p o (inr s) = opens_stops text c n p o s

refuses_one : (text : List ℕ) (m n p q : ℕ) → Refuses text m p → Refuses text n q → (m ≡ n) × (p ≡ q)
refuses_one text m n p q (inl l) (inl k) = (l.0 ∙ sym k.0, l.1 ∙ sym k.1)
refuses_one text m n p q (inl l) (inr s) = absurd (omega (arith, l.2, s.short))
refuses_one text m n p q (inr s) (inl l) = absurd (omega (arith, l.2, s.short))
refuses_one text m n p q (inr s) (inr t) = stops_one text m n p q s t

pub one_outcome : (text : List ℕ) (o p : Told Contents) → Gives text o → Gives text p → o ≡ p
one_outcome text (done c) (done d) o p = ap done (opens_one text c d o p)
one_outcome text (done c) (refused n q y) o p = absurd (opens_refuses text c n q o p.1)
one_outcome text (refused n q y) (done c) o p = absurd (opens_refuses text c n q p o.1)
one_outcome text (refused m q y) (refused n r z) o p =
    let s = refuses_one text m n q r o.1 p.1 in
    λ i. refused (s.0 i) (s.1 i) ((o.0 ∙ sym p.0) i)
