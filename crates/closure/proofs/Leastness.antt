-- The closure keeps the rules, and whatever keeps them contains it: the one induction over the closure.
use Rattle.std.proofs.Common.{◌≡◌, ℕ, true, List}
use Rattle.terms.specs.declared.axioms.Axiom.{Axiom}
use Rattle.closure.specs.Closures.{Context, Clause, InContexts, goal, InClauses}
use Rattle.closure.specs.Rules.{Rules, KeepsRules, Least}

pub keeps_rules : KeepsRules
keeps_rules rank axs G = (
  goal,
  record {
    target = λ H N D p x. InContexts.target x;
    held_class = λ H a h m. InClauses.held_class a h m;
    denied_head = λ H D a x l m. InClauses.denied_head a x l m;
    inclusion = λ H L M Ds E m h c f. InClauses.inclusion Ds E m h c f;
    existential = λ H D a p b m x l. InClauses.existential a m x l;
    existential_left = λ H N D E p q a b m r x y l. InClauses.existential_left a m r x y l;
    impossible_target = λ H N D p x y. InClauses.impossible_target x y;
    universal = λ H N D E p q a b m r x y l. InClauses.universal a m r x y l;
  },
)

module _ (rank : ℕ → ℕ) (axs : List Axiom) (G : Context) (K : Context → Type 0) (C : Clause → Type 0) (first : K G) (rules : Rules rank axs K C) where
  mutual
    pub least_contexts : {H : Context} → InContexts rank axs G H → K H
    least_contexts goal = first
    least_contexts (InContexts.target x) = rules.target _ _ _ _ (least_clauses x)

    pub least_clauses : {x : Clause} → InClauses rank axs G x → C x
    least_clauses (InClauses.held_class a h m) = rules.held_class _ a (least_contexts h) m
    least_clauses (InClauses.denied_head a x l m) = rules.denied_head _ _ a (least_clauses x) l m
    least_clauses (InClauses.inclusion Ds E m h c f) = rules.inclusion _ _ _ Ds E m (least_contexts h) c (λ D k. least_clauses (f D k))
    least_clauses (InClauses.existential a m x l) = rules.existential _ _ a _ _ m (least_clauses x) l
    least_clauses (InClauses.existential_left a m r x y l) = rules.existential_left _ _ _ _ _ _ a _ m r (least_clauses x) (least_clauses y) l
    least_clauses (InClauses.impossible_target x y) = rules.impossible_target _ _ _ _ (least_clauses x) (least_clauses y)
    least_clauses (InClauses.universal a m r x y l) = rules.universal _ _ _ _ _ _ a _ m r (least_clauses x) (least_clauses y) l

pub least : Least
least rank axs G K C first rules = (
  λ H h. least_contexts rank axs G (λ N. K N ≡ true) (λ x. C x ≡ true) first rules h,
  λ x h. least_clauses rank axs G (λ N. K N ≡ true) (λ y. C y ≡ true) first rules h,
)
