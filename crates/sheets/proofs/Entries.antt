-- An entry is read back from its tag and its body.
use Rattle.std.proofs.Common.{◌≡◌, ℕ, zero, suc, List, get_or, take, drop, sym, refl, ◌∙◌}
use Rattle.terms.specs.Axioms.{set_of}
use Rattle.terms.specs.declared.axioms.Axiom.TheVariants.{Inclusion, Exists, ExistsLower, Forall, RoleInclusion}
use Rattle.sheets.specs.Sheets.{Entry, a_class, a_role, an_axiom, tag, body, Says}
use Rattle.sheets.proofs.Bytes.{value, value_bytes_of}

entry_at : ℕ → List ℕ → Entry
entry_at zero b = a_class b
entry_at (suc zero) b = a_class b
entry_at (suc (suc zero)) b = a_role b
entry_at (suc (suc (suc zero))) b = an_axiom (Inclusion (set_of (value (take 8 b))) (set_of (value (drop 8 b))))
entry_at (suc (suc (suc (suc zero)))) b = an_axiom (Exists (get_or b 0 0) (get_or b 1 0) (get_or b 2 0))
entry_at (suc (suc (suc (suc (suc zero))))) b = an_axiom (ExistsLower (get_or b 0 0) (get_or b 1 0) (get_or b 2 0))
entry_at (suc (suc (suc (suc (suc (suc zero)))))) b = an_axiom (Forall (get_or b 0 0) (get_or b 1 0) (get_or b 2 0))
entry_at (suc (suc (suc (suc (suc (suc (suc t))))))) b = an_axiom (RoleInclusion (get_or b 0 0) (get_or b 1 0))

entry_at_is : (e : Entry) → entry_at (tag e) (body e) ≡ e
unfolding entry_at
entry_at_is (a_class n) = refl
entry_at_is (a_role n) = refl
entry_at_is (an_axiom (Inclusion lower upper)) = λ i. an_axiom (Inclusion (set_of (value_bytes_of 7 lower.bits i)) (set_of (value_bytes_of 7 upper.bits i)))
entry_at_is (an_axiom (Exists lower role filler)) = refl
entry_at_is (an_axiom (ExistsLower role filler upper)) = refl
entry_at_is (an_axiom (Forall lower role filler)) = refl
entry_at_is (an_axiom (RoleInclusion sub sup)) = refl

-- a field says one entry
pub same_entry : (t : ℕ) (b : List ℕ) (e f : Entry) → Says t b e → Says t b f → e ≡ f
same_entry t b e f p q = sym (entry_at_is e) ∙ (λ i. entry_at ((sym p.0 ∙ q.0) i) ((sym p.1 ∙ q.1) i)) ∙ entry_at_is f
