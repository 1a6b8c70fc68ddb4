-- How an axiom reads as a line of text.
use Rattle.std.specs.Prelude.{◌≡◌, ℕ, zero, suc, cond, List, [], ◌∷◌, ◌++◌, codes, ◌==◌, slice_index_or}
use Rattle.terms.specs.Sets.{has, count_below}
use Rattle.terms.specs.declared.axioms.Axiom.{Axiom}
use Rattle.terms.specs.declared.axioms.Axiom.TheVariants.{Inclusion, Exists, ExistsLower, Forall, RoleInclusion}
use Rattle.sheets.specs.Sheets.{Contents}

-- a buffer that held u holds v now: a was written behind it
pub record Wrote (u a v : List ℕ) : Type 0 where
  pub is : v ≡ u ++ a

abbrev pub class_name : Contents → ℕ → List ℕ
class_name c a = slice_index_or c.classes a []

abbrev pub role_name : Contents → ℕ → List ℕ
role_name c p = slice_index_or c.roles p []

-- what stands before a name that comes after n others: the joint, unless it is the first
abbrev pub before : List ℕ → ℕ → List ℕ
before joint n = cond (n == 0) [] joint

-- the names of the classes of s below k, rising, with the joint between them
abbrev pub joined_below : Contents → List ℕ → ℕ → ℕ → List ℕ
joined_below c joint s zero = []
joined_below c joint s (suc k) = joined_below c joint s k ++ cond (has s k) (before joint (count_below s k) ++ class_name c k) []

-- the names of the classes of s, or a word for none
abbrev pub listed : Contents → List ℕ → List ℕ → ℕ → List ℕ
listed c joint none s = cond (s == 0) none (joined_below c joint s 64)

abbrev pub restriction : Contents → ℕ → List ℕ → ℕ → ℕ → List ℕ
restriction c a word p b = class_name c a ++ (word ++ (role_name c p ++ (codes " in " ++ class_name c b)))

-- an axiom in words, by the names of the sheet
abbrev pub sentence : Contents → Axiom → List ℕ
sentence c (Inclusion lower upper) = listed c (codes " and ") (codes "anything") lower.bits ++ (codes " under " ++ listed c (codes " or ") (codes "nothing") upper.bits)
sentence c (Exists lower role filler) = restriction c lower (codes " has some ") role filler
sentence c (ExistsLower role filler upper) = codes "anything with some " ++ (role_name c role ++ (codes " in " ++ (class_name c filler ++ (codes " under " ++ class_name c upper))))
sentence c (Forall lower role filler) = restriction c lower (codes " has every ") role filler
sentence c (RoleInclusion sub sup) = codes "role " ++ (role_name c sub ++ (codes " under " ++ role_name c sup))

-- a line feed
abbrev pub feed : List ℕ
feed = 10 ∷ []
