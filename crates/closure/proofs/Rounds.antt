-- The closure computed, by the rising order: what the rules give from a list of clauses, and the list grown by them round after round.
use Rattle.std.proofs.Common.{ℕ, zero, suc, ◌^◌, Bool, true, false, not, ◌&&◌, eqb, ltb, List, [], ◌++◌, length}
use Rattle.terms.specs.Sets.{has, only, join, without}
use Rattle.terms.specs.declared.axioms.Axiom.{Axiom}
use Rattle.terms.specs.declared.axioms.Axiom.TheVariants.{Inclusion, Exists, ExistsLower, Forall, RoleInclusion}
use Rattle.closure.specs.Closures.{Context, context, Part, plain, toward, Clause, clause, Verdict, none, some}
use Rattle.closure.specs.Examples.{Row}
use Rattle.closure.proofs.Roles.{leads}
use Rattle.closure.proofs.Equality.{same_context, same_part, same_clause}
use Rattle.closure.proofs.Computed.{one, only_if, flat, each, is_in, add, all_in}

-- ---- tests of a head

-- a is the highest class of D
unfoldable pub is_head : ℕ → ℕ → Bool
is_head D a = has D a && ltb D (2 ^ suc a)

-- the clause has no role part, and a is its head
abbrev pub headed : ℕ → Clause → Bool
headed a x = same_part x.part plain && is_head x.classes a

-- and it is of H
abbrev pub headed_in : Context → ℕ → Clause → Bool
headed_in H a x = same_context x.of H && headed a x

-- ---- what the rules give

abbrev pub over_part : {A : Type 0} → Part → (ℕ → Context → List A) → List A
over_part plain f = []
over_part (toward p K) f = f p K

abbrev pub take_one : ℕ → List ℕ → Clause → List ℕ
take_one a rest y = flat (λ E. one (join (without y.classes a) E)) rest

-- what is left of each choice of clauses of H for the classes of L below k
unfoldable pub choices : List Clause → Context → ℕ → ℕ → List ℕ
choices xs H zero L = one zero
choices xs H (suc k) L = elim (has L k) [
  | true ↦ (let rest = choices xs H k (without L k) in flat (λ y. only_if (headed_in H k y) (take_one k rest y)) xs)
  | false ↦ choices xs H k L
]

abbrev pub by_inclusion : ℕ → ℕ → List Clause → Context → List Clause
by_inclusion L M xs H = flat (λ E. one (clause H (join M E) plain)) (choices xs H L L)

abbrev pub by_exists : ℕ → ℕ → ℕ → Clause → List Clause
by_exists a p b x = only_if (headed a x) (one (clause x.of (without x.classes a) (toward p (context (only b) zero))))

abbrev pub by_exists_lower : ℕ → ℕ → Clause → ℕ → Context → Clause → List Clause
by_exists_lower a b x p K y = only_if (headed_in K a y) (one (clause x.of (join x.classes (only b)) (toward p (context K.held (join K.denied (only a))))))

abbrev pub by_universal : ℕ → ℕ → Clause → ℕ → Context → Clause → List Clause
by_universal a b x p K y =
    only_if (headed_in x.of a y) (one (clause x.of (join x.classes (without y.classes a)) (toward p (context (join K.held (only b)) K.denied))))

-- what `by` gives of the clause x with each clause, where the role of x reaches q
abbrev pub reaching : List Axiom → ℕ → (Clause → ℕ → Context → Clause → List Clause) → List Clause → Clause → List Clause
reaching axs q by xs x = over_part x.part (λ p K. only_if (leads axs p q) (flat (by x p K) xs))

abbrev pub of_axiom : List Axiom → List Context → List Clause → Axiom → List Clause
of_axiom axs cs xs (Inclusion L M) = flat (by_inclusion L.bits M.bits xs) cs
of_axiom axs cs xs (Exists a p b) = flat (by_exists a p b) xs
of_axiom axs cs xs (ExistsLower q a b) = flat (reaching axs q (by_exists_lower a b) xs) xs
of_axiom axs cs xs (Forall a q b) = flat (reaching axs q (by_universal a b) xs) xs
of_axiom axs cs xs (RoleInclusion p q) = []

abbrev pub of_context : Context → List Clause
of_context H = each H.held (λ a. one (clause H (only a) plain))

abbrev pub by_denied : Clause → ℕ → List Clause
by_denied x a = only_if (headed a x) (one (clause x.of (without x.classes a) plain))

abbrev pub by_impossible : List Clause → Clause → ℕ → Context → List Clause
by_impossible xs x p K = only_if (is_in same_clause (clause K zero plain) xs) (one (clause x.of x.classes plain))

abbrev pub of_clause : List Clause → Clause → List Clause
of_clause xs x = each x.of.denied (by_denied x) ++ over_part x.part (by_impossible xs x)

abbrev pub targets : Clause → List Context
targets x = over_part x.part (λ p K. one K)

unfoldable pub contexts : Context → List Clause → List Context
contexts G xs = add same_context (flat targets xs) (one G)

unfoldable pub conclusions : List Axiom → Context → List Clause → List Clause
conclusions axs G xs = flat of_context (contexts G xs) ++ (flat (of_clause xs) xs ++ flat (of_axiom axs (contexts G xs) xs) axs)

-- ---- the list grown, and the test of a row

-- at most n rounds, until nothing is new
unfoldable pub grow : ℕ → List Axiom → Context → List Clause → List Clause
grow zero axs G xs = xs
grow (suc n) axs G xs =
    let new : List Clause = conclusions axs G xs in
    elim (all_in same_clause new xs) [ true ↦ xs | false ↦ grow n axs G (add same_clause new xs) ]

abbrev pub agrees : Verdict → Bool → Bool
agrees none b = b
agrees some b = not b

abbrev pub checked : Row → List Clause → Bool
checked r xs =
    all_in same_clause (conclusions r.axioms r.goal xs) xs
    && (agrees r.verdict (is_in same_clause (clause r.goal zero plain) xs)
    && (eqb (length (contexts r.goal xs)) r.contexts
    && eqb (length xs) r.clauses))

-- n rounds give the row
unfoldable pub check : ℕ → Row → Bool
unfolding has only join without is_head leads choices contexts conclusions grow
check n r = checked r (grow n r.axioms r.goal [])
