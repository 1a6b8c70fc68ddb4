-- What an ask tells is one, but for the number of elements.
use Rattle.std.proofs.Common.{◌≡◌, List, sym, refl, ◌∙◌}
use Rattle.terms.specs.Refusals.{done, refused}
use Rattle.terms.specs.declared.class_set.ClassSet.{ClassSet}
use Rattle.terms.specs.declared.axioms.Axiom.{Axiom}
use Rattle.terms.proofs.Checking.{first_not_passed, first_one}
use Rattle.closure.specs.Closures.{Context, rising, InContexts, InClauses, Verdict, none, some, Judges}
use Rattle.closure.proofs.Counting.{count_right}
use Rattle.reasoner.specs.Asks.{goal_of, ask_checks, verdict_of, counts_of, Right, RoomOf, OneAnswer}
use Rattle.reasoner.specs.declared.answer.Answer.{Answer}

verdict_one : (axs : List Axiom) (G : Context) (v w : Verdict) → Judges v rising axs G → Judges w rising axs G → v ≡ w
verdict_one axs G none none h g = refl
verdict_one axs G none some h g = absurd (g h)
verdict_one axs G some none h g = absurd (h g)
verdict_one axs G some some h g = refl

right_one : (axs : List Axiom) (P N : ClassSet) (a b : Answer) → Right axs P N a → Right axs P N b → (verdict_of a ≡ verdict_of b) × (counts_of a ≡ counts_of b)
right_one axs P N a b p q =
    let x = (count_right (InContexts rising axs (goal_of P N))).one_number (counts_of a).contexts (counts_of b).contexts p.contexts q.contexts in
    let y = (count_right (InClauses rising axs (goal_of P N))).one_number (counts_of a).clauses (counts_of b).clauses p.clauses q.clauses in
    (verdict_one axs (goal_of P N) (verdict_of a) (verdict_of b) p.verdict q.verdict, λ i. record { contexts = x i; clauses = y i })

pub one_answer : OneAnswer
one_answer m P N k l words (done a) (done b) p q = right_one m.axioms P N a b p.1 q.1
one_answer m P N k l words (done a) (refused n z y) p q = absurd (first_not_passed (ask_checks m P N k l (RoomOf m k words)) n q.0 p.0)
one_answer m P N k l words (refused n z y) (done b) p q = absurd (first_not_passed (ask_checks m P N k l (RoomOf m k words)) n p.0 q.0)
one_answer m P N k l words (refused n z y) (refused o w x) p q = (first_one (ask_checks m P N k l (RoomOf m k words)) n o p.0 q.0, p.1 ∙ sym q.1, p.2 ∙ sym q.2)
