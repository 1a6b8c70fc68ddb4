-- Rows that hold the tests of which role leads to which, one axiom after another.
use Rattle.std.proofs.Common.{◌≡◌, ℕ, ◌+◌, ◌<◌, ◌≤◌, ◌&&◌, ◌||◌, eqb, List, [], ◌∷◌, ◌++◌, append_assoc, length, get_or, set, sym, refl, ap, ◌∙◌, subst, inl, inr, arith, length-set, below_more}
use mathlib.Core.Bool.{Bool-set}
use mathlib.Core.Logic.{∥∥₁_elim}
use Rattle.std.specs.Coded.{le_prop}
use Rattle.std.specs.List.{AllByRecursion, push}
use Rattle.std.proofs.lemmas.List.{get_or_past, get_or-set_same, get_or-set_other}
use Rattle.std.proofs.ByRecursion.{All-weaker}
use Rattle.std.proofs.lemmas.Bool.{cases_eq, cases_lt, eq-eqb, ne_eqb}
use Rattle.terms.specs.Sets.{has, Has, only}
use Rattle.terms.specs.Axioms.{WellFormed, Declared}
use Rattle.terms.specs.declared.axioms.Axiom.{Axiom}
use Rattle.terms.specs.declared.axioms.Axiom.TheVariants.{Inclusion, Exists, ExistsLower, Forall, RoleInclusion}
use Rattle.terms.proofs.Masks.{has_only, zero_none}
use Rattle.closure.specs.Closures.{Reaches, here, step}
use Rattle.closure.proofs.Lists.{all_mem}
use Rattle.closure.proofs.Roles.{leads, leads_of, reach_leads}
use Rattle.roles.specs.Reaching.{Included, Shows}

-- row p has bit q where the test says that p leads to q
pub record Tested (axs : List Axiom) (rows : List ℕ) : Type 0 where
  pub same : (p q : ℕ) → p < 16 → has (get_or rows p 0) q ≡ leads axs p q

-- no axiom: each role leads to itself alone
eqb_turned : (p q : ℕ) → eqb q p ≡ eqb p q
eqb_turned p q = elim (cases_eq q p) [ inl e ↦ eq-eqb q p e ∙ sym (eq-eqb p q (sym e)) | inr n ↦ ne_eqb q p n ∙ sym (ne_eqb p q (λ e. n (sym e))) ]

pub tested_none : (rows : List ℕ) → ((p : ℕ) → p < 16 → get_or rows p 0 ≡ only p) → Tested [] rows
unfolding leads
tested_none rows h = record { same = λ p q l. ap (λ s. has s q) (h p l) ∙ has_only p q ∙ eqb_turned p q }

-- an axiom of another form
leads_other : (x : Axiom) (axs : List Axiom) (p q : ℕ) → ((u v : ℕ) → x ≡ RoleInclusion u v → ⊥) → leads axs p q ≡ leads (x ∷ axs) p q
unfolding leads
leads_other (Inclusion l m) axs p q n = refl
leads_other (Exists a r b) axs p q n = refl
leads_other (ExistsLower r a b) axs p q n = refl
leads_other (Forall a r b) axs p q n = refl
leads_other (RoleInclusion a b) axs p q n = absurd (n a b refl)

pub tested_other : (x : Axiom) (axs : List Axiom) (rows : List ℕ) → ((u v : ℕ) → x ≡ RoleInclusion u v → ⊥) → Tested axs rows → Tested (x ∷ axs) rows
tested_other x axs rows n t = record { same = λ p q low. t.same p q low ∙ leads_other x axs p q n }

-- a role inclusion
pub tested_more : (x : Axiom) (axs : List Axiom) (a b : ℕ) (rows rows' : List ℕ) → x ≡ RoleInclusion a b → b < 16
    → ((p q : ℕ) → p < 16 → has (get_or rows' p 0) q ≡ (has (get_or rows p 0) q || (has (get_or rows p 0) a && has (get_or rows b 0) q)))
    → Tested axs rows → Tested (x ∷ axs) rows'
unfolding leads
tested_more x axs a b rows rows' e low more t = subst (λ y. Tested (y ∷ axs) rows') (sym e)
    (record { same = λ p q lp. more p q lp ∙ (λ j. t.same p q lp j || (t.same p a lp j && t.same b q low j)) })

-- ---- the axioms from the last on

-- with one axiom less to go, it is done
pub one_done : (axs rest less done : List Axiom) (x : Axiom) → axs ≡ rest ++ done → rest ≡ push less x → axs ≡ less ++ x ∷ done
one_done axs rest less done x e f = e ∙ ap (λ r. r ++ done) f ∙ append_assoc less (x ∷ []) done

middle : (P : Axiom → Type 0) (xs : List Axiom) (x : Axiom) (ys : List Axiom) → AllByRecursion P (xs ++ x ∷ ys) → P x
middle P [] x ys all = all.0
middle P (y ∷ xs) x ys all = middle P xs x ys all.1

pub sup_low : (axs xs ys : List Axiom) (x : Axiom) (a b : ℕ) → AllByRecursion (Included 16) axs → axs ≡ xs ++ x ∷ ys → x ≡ RoleInclusion a b → b < 16
sup_low axs xs ys x a b all e is = (subst (Included 16) is (middle (Included 16) xs x ys (subst (AllByRecursion (Included 16)) e all))).1

-- what a role below r reaches is below r
pub reach_below : (r : ℕ) (axs : List Axiom) (p q : ℕ) → AllByRecursion (Included r) axs → p < r → Reaches axs p q → q < r
reach_below r axs p q all l here = l
reach_below r axs p q all l (step {q = m} f i) = (all_mem (Included r) axs all (RoleInclusion m q) i).1

pub tested_shows : (axs : List Axiom) (rows : List ℕ) → length rows ≡ 16 → AllByRecursion (Included 16) axs → Tested axs rows → Shows axs rows
tested_shows axs rows n all t = record {
  right = λ p q l. (λ h. leads_of axs p q (sym (t.same p q l) ∙ h), λ h. t.same p q l ∙ reach_leads axs p q h);
  low = λ p q h. elim (cases_lt p 16) [
    | inl l ↦ reach_below 16 axs p q all l (leads_of axs p q (sym (t.same p q l) ∙ h))
    | inr past ↦ absurd (zero_none q (subst (λ s. Has s q) (get_or_past rows p 0 (omega arith)) h))
  ];
}

-- what is known to be so of rows can be told again, since each of its questions has a test
pub shows_told : {axs : List Axiom} {rows : List ℕ} → ∥ Shows axs rows ∥₁ → Shows axs rows
shows_told {axs} {rows} t = record {
  right = λ p q l. (λ h. leads_of axs p q (∥∥₁_elim t (Bool-set _ _) (λ w. reach_leads axs p q ((w.right p q l).0 h))), λ r. ∥∥₁_elim t (Bool-set _ _) (λ w. (w.right p q l).1 r));
  low = λ p a h. ∥∥₁_elim t le_prop (λ w. w.low p a h);
}

-- axioms that keep to r roles have their role inclusions below any greater number
included : (c r s : ℕ) → r ≤ s → (x : Axiom) → Declared c r x → Included s x
included c r s l (Inclusion a b) d = tt
included c r s l (Exists a p b) d = tt
included c r s l (ExistsLower p a b) d = tt
included c r s l (Forall a p b) d = tt
included c r s l (RoleInclusion a b) d = (omega (arith, d.0), omega (arith, d.1))

pub formed_included : (c r s : ℕ) → r ≤ s → (axs : List Axiom) → AllByRecursion (WellFormed c r) axs → AllByRecursion (Included s) axs
formed_included c r s l axs all = All-weaker (WellFormed c r) (Included s) (λ x f. included c r s l x f.0) axs all

-- ---- one role inclusion, row after row

-- the first k rows are widened, and the others are as they were
abbrev pub Widened : List ℕ → List ℕ → ℕ → ℕ → ℕ → Type 0
Widened before rows a more k =
    ((p : ℕ) → p < k → (q : ℕ) → has (get_or rows p 0) q ≡ (has (get_or before p 0) q || (has (get_or before p 0) a && has more q)))
    × ((p : ℕ) → k ≤ p → get_or rows p 0 ≡ get_or before p 0)

-- ---- the rows of no axiom

-- the first k rows have their own role alone
abbrev pub Own : List ℕ → ℕ → Type 0
Own rows k = (length rows ≡ 16) × ((p : ℕ) → p < k → get_or rows p 0 ≡ only p)

pub own_turn : (rows : List ℕ) (k w : ℕ) → k < 16 → w ≡ only k → Own rows k → Own (set rows k w) (k + 1)
own_turn rows k w l v o = (
  length-set rows k w ∙ o.0,
  below_more (λ p. get_or (set rows k w) p 0 ≡ only p) k
      (λ p lp. get_or-set_other rows k p w 0 (omega arith) ∙ o.1 p lp)
      (get_or-set_same rows k w 0 (omega (arith, o.0)) ∙ v),
)
