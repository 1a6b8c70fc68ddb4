-- Worked examples, each with what the definitions give: the verdict, and how many contexts and clauses there are.
-- Classes: 0 payroll, 1 finance, 2 wages, 3 shared.
use Rattle.std.specs.Prelude.{◌≡◌, ℕ, ◌<◌, false, ◌↔◌, List, [], ◌∷◌, slice_index_or}
use mathlib.Core.List.{Memᴰ}
use Rattle.terms.specs.Sets.{has, Has}
use Rattle.terms.specs.Axioms.{set_of, blank}
use Rattle.terms.specs.declared.axioms.Axiom.{Axiom}
use Rattle.terms.specs.declared.axioms.Axiom.TheVariants.{Inclusion, Exists, ExistsLower, Forall, RoleInclusion}
use Rattle.worlds.specs.Worlds.{World, In, Breaks, Obeys}
use Rattle.closure.specs.Closures.{Context, context, Clause, rising, InContexts, InClauses, Verdict, none, some, Judges}
use Rattle.closure.specs.Canonical.{Canonical}
use Rattle.closure.specs.Counts.{Exactly, More}
use Rattle.closure.specs.Soundness.{Fits}
use Rattle.closure.specs.Verdicts.{Tabled}

pub record Row : Type 0 where
  pub axioms : List Axiom
  pub goal : Context
  pub verdict : Verdict
  pub contexts : ℕ
  pub clauses : ℕ

-- the definitions give the row
pub record Gives (r : Row) : Type 0 where
  pub answer : Judges r.verdict rising r.axioms r.goal
  pub all_contexts : Exactly r.contexts (InContexts rising r.axioms r.goal)
  pub all_clauses : Exactly r.clauses (InClauses rising r.axioms r.goal)

abbrev pub row : List Axiom → Context → Verdict → ℕ → ℕ → Row
row axs G v n m = record { axioms = axs; goal = G; verdict = v; contexts = n; clauses = m }

-- payroll is finance or wages, and both are shared
abbrev pub both_shared : List Axiom
both_shared = Inclusion (set_of 0b0001) (set_of 0b0110) ∷ Inclusion (set_of 0b0010) (set_of 0b1000) ∷ Inclusion (set_of 0b0100) (set_of 0b1000) ∷ []

-- payroll is finance or wages, and finance is shared
abbrev pub finance_shared : List Axiom
finance_shared = Inclusion (set_of 0b0001) (set_of 0b0110) ∷ Inclusion (set_of 0b0010) (set_of 0b1000) ∷ []

-- payroll that is not shared
abbrev pub kept_payroll : Context
kept_payroll = context 0b0001 0b1000

abbrev pub every_row : List Row
every_row =
    -- both ways out of payroll are shared
    row both_shared kept_payroll none 1 6
    -- wages is left
    ∷ row finance_shared kept_payroll some 1 2
    -- payroll has some 0 finance, finance is wages, and what has some 0 wages is shared
    ∷ row (Exists 0 0 1 ∷ Inclusion (set_of 0b0010) (set_of 0b0100) ∷ ExistsLower 0 2 3 ∷ []) kept_payroll none 3 10
    -- the same, but that what has some 1 wages is shared
    ∷ row (Exists 0 0 1 ∷ Inclusion (set_of 0b0010) (set_of 0b0100) ∷ ExistsLower 1 2 3 ∷ []) kept_payroll some 2 4
    -- and role 0 is in role 1
    ∷ row (Exists 0 0 1 ∷ Inclusion (set_of 0b0010) (set_of 0b0100) ∷ ExistsLower 1 2 3 ∷ RoleInclusion 0 1 ∷ []) kept_payroll none 3 10
    -- payroll has some 0 finance and all 0 wages, and nothing is finance and wages
    ∷ row (Exists 0 0 1 ∷ Forall 0 0 2 ∷ Inclusion (set_of 0b0110) (set_of 0b0000) ∷ []) (context 0b0001 0b0000) none 3 8
    -- no axioms, and anything will do
    ∷ row [] (context 0b0000 0b0000) some 1 0
    -- nothing is there at all
    ∷ row (Inclusion (set_of 0b0000) (set_of 0b0000) ∷ []) (context 0b0000 0b0000) none 1 1
    -- payroll has some 0 payroll, round and round
    ∷ row (Exists 0 0 0 ∷ []) (context 0b0001 0b0010) some 2 4
    ∷ []

-- the definitions give every row
abbrev pub RowsRight : Type 0
RowsRight = (r : Row) → Memᴰ r every_row → Gives r

-- the clauses of the first row do not fit into 5 slots
abbrev pub FiveSlotsShort : Type 0
FiveSlotsShort = More (InClauses rising both_shared kept_payroll) 5

-- the goal's element in a canonical world of the second row has exactly the classes of the word 5: payroll and wages
abbrev pub WordFive : Type 0
WordFive = (contexts : List Context) (clauses : List Clause) (w : World) (at : ℕ → Context)
    → Tabled rising finance_shared kept_payroll contexts clauses → Canonical rising finance_shared contexts clauses w at
    → (e : ℕ) → e < w.size → at e ≡ kept_payroll → (a : ℕ) → In w e a ↔ Has 5 a

-- and of the four classes, each such element of any world that obeys those axioms has exactly these
abbrev pub WordFiveAnywhere : Type 0
WordFiveAnywhere = (w : World) → Obeys w finance_shared → (e : ℕ) → e < w.size → Fits w e kept_payroll → (a : ℕ) → a < 4 → In w e a ↔ Has 5 a

-- a world of one element, in payroll alone
abbrev pub lone_payroll : World
lone_payroll = record { size = 1; is_in = λ e a. has 0b0001 a; links = λ p d e. false }

-- its element 0 breaks axiom 0 of the first row
abbrev pub LoneBreaks : Type 0
LoneBreaks = Breaks lone_payroll 0 (slice_index_or both_shared 0 blank)

abbrev pub Examples : Type 0
Examples = RowsRight × FiveSlotsShort × WordFive × WordFiveAnywhere × LoneBreaks
