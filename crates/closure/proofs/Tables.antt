-- Tables that have exactly the closure: those that keep the rules, with the goal and nothing but members.
use Rattle.std.proofs.Common.{ℕ, List}
use mathlib.Core.List.{Memᴰ}
use Rattle.terms.specs.declared.axioms.Axiom.{Axiom}
use Rattle.closure.specs.Closures.{Context, Clause, InContexts, InClauses}
use Rattle.closure.specs.Rules.{Rules, Closed}
use Rattle.closure.specs.Verdicts.{Tabled}
use Rattle.closure.proofs.Leastness.{keeps_rules, least_contexts, least_clauses}

-- a table that has the goal, keeps the rules, and has nothing but members of the closure has exactly the closure
pub closed_tabled : (rank : ℕ → ℕ) (axs : List Axiom) (G : Context) (contexts : List Context) (clauses : List Clause)
    → Memᴰ G contexts → Closed rank axs contexts clauses
    → ((H : Context) → Memᴰ H contexts → InContexts rank axs G H) → ((x : Clause) → Memᴰ x clauses → InClauses rank axs G x)
    → Tabled rank axs G contexts clauses
closed_tabled rank axs G contexts clauses first rules f g = (
  (λ H. (least_contexts rank axs G (λ N. Memᴰ N contexts) (λ x. Memᴰ x clauses) first rules, f H)),
  λ x. (least_clauses rank axs G (λ N. Memᴰ N contexts) (λ y. Memᴰ y clauses) first rules, g x),
)

-- what has the same members keeps the same rules
rules_same : (rank : ℕ → ℕ) (axs : List Axiom) (K K' : Context → Type 0) (C C' : Clause → Type 0)
    → ((H : Context) → K H → K' H) → ((H : Context) → K' H → K H) → ((x : Clause) → C x → C' x) → ((x : Clause) → C' x → C x)
    → Rules rank axs K C → Rules rank axs K' C'
rules_same rank axs K K' C C' f f' g g' rules = record {
  target = λ H N D p x. f N (rules.target H N D p (g' _ x));
  held_class = λ H a h m. g _ (rules.held_class H a (f' H h) m);
  denied_head = λ H D a x l m. g _ (rules.denied_head H D a (g' _ x) l m);
  inclusion = λ H L M Ds E m h c k. g _ (rules.inclusion H L M Ds E m (f' H h) c (λ D n. g' _ (k D n)));
  existential = λ H D a p b m x l. g _ (rules.existential H D a p b m (g' _ x) l);
  existential_left = λ H N D E p q a b m r x y l. g _ (rules.existential_left H N D E p q a b m r (g' _ x) (g' _ y) l);
  impossible_target = λ H N D p x y. g _ (rules.impossible_target H N D p (g' _ x) (g' _ y));
  universal = λ H N D E p q a b m r x y l. g _ (rules.universal H N D E p q a b m r (g' _ x) (g' _ y) l);
}

-- a table that has exactly the closure keeps the rules
pub tabled_closed : (rank : ℕ → ℕ) (axs : List Axiom) (G : Context) (contexts : List Context) (clauses : List Clause)
    → Tabled rank axs G contexts clauses → Closed rank axs contexts clauses
tabled_closed rank axs G contexts clauses t =
    rules_same rank axs (InContexts rank axs G) (λ H. Memᴰ H contexts) (InClauses rank axs G) (λ x. Memᴰ x clauses)
    (λ H. (t.0 H).0) (λ H. (t.0 H).1) (λ x. (t.1 x).0) (λ x. (t.1 x).1) (keeps_rules rank axs G).1
