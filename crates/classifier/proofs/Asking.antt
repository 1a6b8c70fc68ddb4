-- One pair: what its ask tells is told of the pair.
use Rattle.std.proofs.Common.{◌≡◌, ℕ, ◌+◌, ◌*◌, ◌<◌, ◌≤◌, Bool, true, List, length, Ok, Err, Result, sym, subst, inl, inr, arith}
use Rattle.terms.specs.Sets.{has, only, Below}
use Rattle.terms.specs.Refusals.{number, Told, told, done, refused, FirstFailing, Answers}
use Rattle.terms.specs.declared.class_set.ClassSet.{ClassSet}
use Rattle.terms.specs.declared.axioms.Axiom.{Axiom}
use Rattle.terms.specs.declared.refusals.Fault.{Fault}
use Rattle.terms.specs.declared.refusals.Layer.{Layer}
use Rattle.terms.proofs.Masks.{only_is}
use Rattle.sources.specs.Meanings.{Meaning}
use Rattle.worlds.specs.Worlds.{Possible}
use Rattle.closure.specs.Closures.{Context, context, rising, Refuted}
use Rattle.tables.specs.Tables.{tables}
use Rattle.tables.specs.declared.records.ContextRecord.{ContextRecord}
use Rattle.tables.specs.declared.records.ClauseRecord.{ClauseRecord}
use Rattle.tables.specs.declared.members.Counts.{Counts}
use Rattle.reasoner.specs.Asks as Of
use Rattle.reasoner.specs.Asks.{in_ask, goal_of, FitsInto, ask_checks, NoTable, Right, Unshown, verdict_of, unused, Filled, TablesAfter}
use Rattle.reasoner.specs.declared.answer.Answer.{Answer}
use Rattle.reasoner.specs.declared.answer.Answer.TheVariants.{Nothing, Something}
use Rattle.classifier.specs.Under.{goal, Holding, Begun}
use Rattle.classifier.specs.Asking.{is_none, Asked}

module _ {axs : List Axiom} {G : Context} {xs us : List ContextRecord} {ys vs : List ClauseRecord} {n : Counts} where
  holding : Filled axs G (tables xs ys unused) (tables us vs n) → Holding axs G (length xs) (length ys) us vs
  holding f = record {
    used = n;
    good = f.grows.good;
    contexts = f.contexts;
    clauses = f.clauses;
    contexts_once = f.contexts_once;
    clauses_once = f.clauses_once;
    some_context = f.some_context;
    goal_first = f.goal_first;
    sizes = (f.grows.contexts.size, f.grows.clauses.size);
  }

  begun : Of.Begun axs G (tables xs ys unused) (tables us vs n) → Begun axs G (length xs) (length ys) us vs
  begun f = record {
    used = n;
    good = f.grows.good;
    contexts = f.contexts;
    clauses = f.clauses;
    contexts_once = f.contexts_once;
    clauses_once = f.clauses_once;
    sizes = (f.grows.contexts.size, f.grows.clauses.size);
  }

-- a class that there is passes the check of its set
only_there : (P : ClassSet) (c a : ℕ) → P.bits ≡ only a → a < c → Below c P.bits
only_there P c a e l d h = let q = only_is a d (subst (λ s. has s d ≡ true) e h) in omega arith

-- where the first two checks pass, an ask refuses with 23 only
first_full : (m : Meaning) (P N : ClassSet) (k l n : ℕ) → Below m.classes P.bits → Below m.classes N.bits → k ≤ 256 → l ≤ 65535 → FirstFailing (ask_checks m P N k l NoTable) n
    → (n ≡ 23) × (FitsInto m.axioms (goal_of P N) k l → ⊥)
first_full m P N k l n p q r s (inl h) = absurd (h.1 (p, q))
first_full m P N k l n p q r s (inr (_, inl h)) = absurd (h.1 (r, s, tt))
first_full m P N k l n p q r s (inr (_, inr (_, inl h))) = h
first_full m P N k l n p q r s (inr (_, inr (_, inr z))) = absurd z.1

module _ (P N : ClassSet) (a b : ℕ) (e : P.bits ≡ only a) (d : N.bits ≡ only b) where
  same : goal_of P N ≡ goal a b
  same = λ i. context (e i) (d i)

  module _ (m : Meaning) (xs us : List ContextRecord) (ys vs : List ClauseRecord) where
    -- what the ask tells of the classes
    abbrev Gives : Told Answer → Type 0
    Gives t = Answers (ask_checks m P N (length xs) (length ys) NoTable) 0 in_ask (λ v. Right m.axioms P N v × Unshown v) t

    -- and of the tables
    abbrev After : Told Answer → Type 0
    After t = TablesAfter m.axioms (goal_of P N) xs ys us vs t

    answered : (t : Answer) → Gives (done t) → After (done t) → Asked m.axioms a b (length xs) (length ys) us vs (done (is_none (verdict_of t)))
    answered (Nothing i) h f = (
      subst (λ G. FitsInto m.axioms G (length xs) (length ys)) same h.0.1.1.0,
      (subst (Refuted rising m.axioms) same h.1.0.verdict, subst (λ (G : Context). Possible m.axioms G.held G.denied → ⊥) same h.1.0.worlds),
      subst (λ G. Holding m.axioms G (length xs) (length ys) us vs) same (holding f),
    )
    answered (Something i o) h f = (
      subst (λ G. FitsInto m.axioms G (length xs) (length ys)) same h.0.1.1.0,
      (subst (λ G. Refuted rising m.axioms G → ⊥) same h.1.0.verdict, subst (λ (G : Context). Possible m.axioms G.held G.denied) same h.1.0.worlds),
      subst (λ G. Holding m.axioms G (length xs) (length ys) us vs) same (holding f),
    )

    pub asked_told : {r : Result Answer Fault} {t : Answer} → r ≡ Ok t → Gives (told r) → After (told r) → (v : Bool) → v ≡ is_none (verdict_of t) → Asked m.axioms a b (length xs) (length ys) us vs (done v)
    asked_told {r} {t} is h f v e =
        subst (λ z. Asked m.axioms a b (length xs) (length ys) us vs (done z)) (sym e)
        (answered t (subst (λ (z : Result Answer Fault). Gives (told z)) is h) (subst (λ (z : Result Answer Fault). After (told z)) is f))

    module _ (lower : a < m.classes) (upper : b < m.classes) (few : length xs ≤ 256) (short : length ys ≤ 65535) where
      full : (n q : ℕ) (y : Layer) → Gives (refused n q y) → After (refused n q y) → (p : ℕ) → p ≡ a * 64 + b → Asked m.axioms a b (length xs) (length ys) us vs (refused n p y)
      full n q y h f p place =
          let k = first_full m P N (length xs) (length ys) n (only_there P m.classes a e lower) (only_there N m.classes b d upper) few short h.0 in
          (k.0, place, h.2, subst (λ G. FitsInto m.axioms G (length xs) (length ys) → ⊥) same k.1, left k.0 f)
        where
          left : n ≡ 23 → After (refused n q y) → Begun m.axioms (goal a b) (length xs) (length ys) us vs
          left _ (inl g) = subst (λ G. Begun m.axioms G (length xs) (length ys) us vs) same (begun g.1.1)
          left i (inr g) = absurd (g.0 i)

      -- a refusal of the ask, at the pair's place
      pub asked_full : {r : Result Answer Fault} {t f : Fault} → r ≡ Err t → Gives (told r) → After (told r) → (p : ℕ) → p ≡ a * 64 + b → f ≡ record { kind = t.kind; place = p; layer = t.layer }
          → Asked m.axioms a b (length xs) (length ys) us vs (refused (number f.kind) f.place f.layer)
      asked_full {r} {t} {f} is h g p place e =
          subst (λ (z : Fault). Asked m.axioms a b (length xs) (length ys) us vs (refused (number z.kind) z.place z.layer)) (sym e)
          (full (number t.kind) t.place t.layer (subst (λ (z : Result Answer Fault). Gives (told z)) is h) (subst (λ (z : Result Answer Fault). After (told z)) is g) p place)

module _ (axs : List Axiom) (a b : ℕ) (us : List ContextRecord) (vs : List ClauseRecord) where
  -- of tables of the same sizes
  pub asked_sized : {k l i j : ℕ} (t : Told Bool) → k ≡ i → l ≡ j → Asked axs a b k l us vs t → Asked axs a b i j us vs t
  asked_sized {k} {l} {i} {j} t e f h = subst (λ z. Asked axs a b i z us vs t) f (subst (λ z. Asked axs a b z l us vs t) e h)
