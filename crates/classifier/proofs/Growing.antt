-- A row grows class by class, and the rows one by one.
use Rattle.std.proofs.Common.{◌≡◌, ℕ, suc, ◌+◌, ◌*◌, ◌<◌, ◌≤◌, Bool, true, false, ◌⊎◌, ◌↔◌, List, length, get_or, set, sym, ◌∙◌, subst, inl, inr, ⊎_elim, arith, length-set, below_more}
use Rattle.std.proofs.lemmas.List.{get_or-set_same, get_or-set_other}
use Rattle.std.proofs.lemmas.Bool.{cases_order}
use Rattle.terms.specs.Sets.{Has, only, join, Below}
use Rattle.terms.specs.Refusals.{Told, done, refused}
use Rattle.terms.specs.declared.class_set.ClassSet.{ClassSet}
use Rattle.terms.specs.declared.axioms.Axiom.{Axiom}
use Rattle.terms.specs.declared.refusals.Layer.{Layer}
use Rattle.terms.proofs.Masks.{zero_none, only_has, only_is, join_l, join_r, join_cases}
use Rattle.sources.specs.Meanings.{Meaning}
use Rattle.tables.specs.declared.records.ContextRecord.{ContextRecord}
use Rattle.tables.specs.declared.records.ClauseRecord.{ClauseRecord}
use Rattle.reasoner.specs.Asks.{in_ask}
use Rattle.classifier.specs.Under.{goal, Under, Outside, Fits, Holding, Row, Written, Lent, lent, PairFits, Complete, Stopped}
use Rattle.classifier.specs.Asking.{Asked, RowUpTo, RowCut, RowAsked}

-- ---- one row

old : (w n b : ℕ) → b < n → Has (join w (only n)) b → Has w b
old w n b i h = ⊎_elim (λ g. g) (λ g. let q = only_is n b g in absurd (omega arith)) (join_cases w (only n) b h)

joined_below : (w n : ℕ) → Below n w → Below (n + 1) (join w (only n))
joined_below w n low b h = ⊎_elim (λ g. let q = low b g in omega arith) (λ g. let q = only_is n b g in omega arith) (join_cases w (only n) b h)

module _ {axs : List Axiom} {a k l : ℕ} where
  pub row_none : {us : List ContextRecord} {vs : List ClauseRecord} (w : ℕ) → w ≡ 0 → RowUpTo axs a 0 w k l us vs
  row_none w z = record {
    fits = λ b i. absurd (omega arith);
    row = record { under = λ b i. absurd (omega arith); inside = λ b i. absurd (omega arith); outside = λ b i. absurd (omega arith); no_more = λ b h. absurd (zero_none b (subst (λ s. Has s b) z h)) };
    last = λ b i. absurd (omega arith);
  }

  module _ {n w : ℕ} {xs us : List ContextRecord} {ys vs : List ClauseRecord} (so : RowUpTo axs a n w k l xs ys) where
    yes : Asked axs a n k l us vs (done true) → RowUpTo axs a (n + 1) (join w (only n)) k l us vs
    yes q = record {
      fits = below_more (λ b. Fits axs k l a b) n so.fits q.0;
      row = record {
        under = below_more (λ b. Has (join w (only n)) b ↔ Under axs a b) n (λ b i. (λ h. (so.row.under b i).0 (old w n b i h), λ u. join_l w (only n) b ((so.row.under b i).1 u))) (λ _. q.1.0, λ _. join_r w (only n) n (only_has n));
        inside = below_more (λ b. Has (join w (only n)) b → Outside axs a b → ⊥) n (λ b i h. so.row.inside b i (old w n b i h)) (λ _. q.1.1);
        outside = below_more (λ b. (Has (join w (only n)) b → ⊥) → Outside axs a b) n (λ b i h. so.row.outside b i (λ g. h (join_l w (only n) b g))) (λ h. absurd (h (join_r w (only n) n (only_has n))));
        no_more = joined_below w n so.row.no_more;
      };
      last = λ b i. let z : n ≡ b = omega arith in subst (λ d. Holding axs (goal a d) k l us vs) z q.2;
    }

    no : Asked axs a n k l us vs (done false) → RowUpTo axs a (n + 1) w k l us vs
    no q =
        let low : Has w n → ⊥ = λ h. let i = so.row.no_more n h in omega arith in
        record {
          fits = below_more (λ b. Fits axs k l a b) n so.fits q.0;
          row = record {
            under = below_more (λ b. Has w b ↔ Under axs a b) n so.row.under (λ h. absurd (low h), λ u. absurd (q.1.0 u));
            inside = below_more (λ b. Has w b → Outside axs a b → ⊥) n so.row.inside (λ h. absurd (low h));
            outside = below_more (λ b. (Has w b → ⊥) → Outside axs a b) n so.row.outside (λ _. q.1.1);
            no_more = λ b h. let i = so.row.no_more b h in omega arith;
          };
          last = λ b i. let z : n ≡ b = omega arith in subst (λ d. Holding axs (goal a d) k l us vs) z q.2;
        }

    pub row_yes : (v : ℕ) → v ≡ join w (only n) → (r : Bool) → r ≡ true → Asked axs a n k l us vs (done r) → RowUpTo axs a (n + 1) v k l us vs
    row_yes v e r t q = subst (λ z. RowUpTo axs a (n + 1) z k l us vs) (sym e) (yes (subst (λ z. Asked axs a n k l us vs (done z)) t q))

    pub row_no : (v : ℕ) → v ≡ w → (r : Bool) → r ≡ false → Asked axs a n k l us vs (done r) → RowUpTo axs a (n + 1) v k l us vs
    row_no v e r t q = subst (λ z. RowUpTo axs a (n + 1) z k l us vs) (sym e) (no (subst (λ z. Asked axs a n k l us vs (done z)) t q))

    pub row_cut : (c : ℕ) → n < c → (i p : ℕ) (y : Layer) → Asked axs a n k l us vs (refused i p y) → (i ≡ 23) × (y ≡ in_ask) × RowCut axs c a p k l us vs
    row_cut c j i p y q = (q.0, q.2, record { b = n; class = j; place = q.1; full = q.3; before = so.fits; last = q.4 })

-- of tables of the same sizes
pub row_sized : (m : Meaning) (a : ℕ) (us : List ContextRecord) (vs : List ClauseRecord) {k l i j : ℕ} (t : Told ClassSet) → k ≡ i → l ≡ j → RowAsked m a k l us vs t → RowAsked m a i j us vs t
row_sized m a us vs {k} {l} {i} {j} t e f h = subst (λ z. RowAsked m a i z us vs t) f (subst (λ z. RowAsked m a z l us vs t) e h)

-- ---- the rows

-- the rows of the classes below n
pub record RowsUpTo (m : Meaning) (n : ℕ) (s u : Lent) : Type 0 where
  pub fits : (a b : ℕ) → a < n → b < m.classes → PairFits m s a b
  pub rows : Written m n s.rows u.rows
  pub last : (a c : ℕ) → n ≡ suc a → m.classes ≡ suc c → Holding m.axioms (goal a c) (length s.contexts) (length s.clauses) u.contexts u.clauses
  pub start : n ≡ 0 → (u.contexts ≡ s.contexts) × (u.clauses ≡ s.clauses)

written_more : (m : Meaning) (n w : ℕ) (before now : List ℕ) → n < length now → Row m.axioms m.classes n w → Written m n before now → Written m (n + 1) before (set now n w)
written_more m n w before now i r p = record {
  rows = below_more (λ a. Row m.axioms m.classes a (get_or (set now n w) a 0)) n
      (λ a j. subst (λ z. Row m.axioms m.classes a z) (sym (get_or-set_other now n a w 0 (omega arith))) (p.rows a j))
      (subst (λ z. Row m.axioms m.classes n z) (sym (get_or-set_same now n w 0 i)) r);
  rest = λ k j. get_or-set_other now n k w 0 (omega arith) ∙ p.rest k (omega arith);
  size = length-set now n w ∙ p.size;
}

module _ {m : Meaning} {n : ℕ} {s u : Lent} (so : RowsUpTo m n s u) (us : List ContextRecord) (vs : List ClauseRecord) where
  pub rows_more : (w v i : ℕ) → v ≡ w → i ≡ n → n < length u.rows → RowUpTo m.axioms n m.classes w (length s.contexts) (length s.clauses) us vs → RowsUpTo m (n + 1) s (lent us vs (set u.rows i v))
  rows_more w v i e is l r = subst (λ z. RowsUpTo m (n + 1) s (lent us vs (set u.rows z v))) (sym is) (subst (λ z. RowsUpTo m (n + 1) s (lent us vs (set u.rows n z))) (sym e) (record {
    fits = λ a b j. below_more (λ d. (b : ℕ) → b < m.classes → PairFits m s d b) n (λ d h b g. so.fits d b h g) r.fits a j b;
    rows = written_more m n w s.rows u.rows l r.row so.rows;
    last = λ a c j h. let z : n ≡ a = omega arith in subst (λ d. Holding m.axioms (goal d c) (length s.contexts) (length s.clauses) us vs) z (r.last c h);
    start = λ j. absurd (omega arith);
  }))

  pub rows_cut : m.classes ≤ 64 → n < m.classes → (p : ℕ) → RowCut m.axioms m.classes n p (length s.contexts) (length s.clauses) us vs → Stopped m s (lent us vs u.rows) p
  rows_cut few i p r = record {
    a = n;
    b = r.b;
    place = r.place;
    classes = (i, r.class);
    full = r.full;
    before = λ d e j h g. earlier d e h g (cases_order d n);
    rows = so.rows;
    last = r.last;
  }
    where
      earlier : (d e : ℕ) → e < m.classes → d * 64 + e < n * 64 + r.b → (d ≡ n) ⊎ ((d < n) ⊎ (n < d)) → PairFits m s d e
      earlier d e h g (inl q) = subst (λ z. PairFits m s z e) (sym q) (r.before e (omega arith))
      earlier d e h g (inr (inl q)) = so.fits d e q h
      earlier d e h g (inr (inr q)) = absurd (let z = r.class in omega arith)

pub rows_all : {m : Meaning} {n : ℕ} {s u : Lent} → n ≡ m.classes → RowsUpTo m n s u → Complete m s u
rows_all {m} {n} {s} {u} e so = record {
  fits = λ a b i j. so.fits a b (omega arith) j;
  rows = subst (λ z. Written m z s.rows u.rows) e so.rows;
  last = λ c i. so.last c c (e ∙ i) i;
  no_class = λ i. so.start (e ∙ i);
}
