-- How a sheet is written, and what opening one tells.
use Rattle.std.specs.Prelude.{◌≡◌, ℕ, zero, suc, ◌/◌, ◌%◌, ◌^◌, ◌<◌, ◌≤◌, ◌⊎◌, List, [], ◌∷◌, ◌++◌, length, ◌≢◌}
use Rattle.std.specs.List.{ContainsAt, AllByRecursion}
use Rattle.terms.specs.declared.axioms.Axiom.{Axiom}
use Rattle.terms.specs.declared.axioms.Axiom.TheVariants.{Inclusion, Exists, ExistsLower, Forall, RoleInclusion}
use Rattle.terms.specs.declared.refusals.Layer.{Layer}
use Rattle.terms.specs.declared.refusals.Layer.TheVariants.{Sheet}
use Rattle.terms.specs.Axioms.{axiom_checks}
use Rattle.terms.specs.Refusals.{Told, done, refused, Checks, end, check, Passes, FirstFailing}
use Rattle.sources.specs.Meanings.{Meaning}

abbrev pub in_sheet : Layer
in_sheet = Sheet

-- ---- how a sheet is written

-- x in n bytes, high byte first
abbrev pub bytes_of : ℕ → ℕ → List ℕ
bytes_of zero x = []
bytes_of (suc n) x = x / 256 ^ n ∷ bytes_of n (x % 256 ^ n)

-- a field: a tag, the length of its body in two bytes, and the body
abbrev pub field_of : ℕ → List ℕ → List ℕ
field_of t b = t ∷ bytes_of 2 (length b) ++ b

-- what a field can say: the name of the next class, that of the next role, or an axiom
pub data Entry : Type 0 where
  a_class : List ℕ → Entry
  a_role : List ℕ → Entry
  an_axiom : Axiom → Entry

abbrev pub tag : Entry → ℕ
tag (a_class n) = 1
tag (a_role n) = 2
tag (an_axiom (Inclusion lower upper)) = 3
tag (an_axiom (Exists lower role filler)) = 4
tag (an_axiom (ExistsLower role filler upper)) = 5
tag (an_axiom (Forall lower role filler)) = 6
tag (an_axiom (RoleInclusion sub sup)) = 7

abbrev pub body : Entry → List ℕ
body (a_class n) = n
body (a_role n) = n
body (an_axiom (Inclusion lower upper)) = bytes_of 8 lower.bits ++ bytes_of 8 upper.bits
body (an_axiom (Exists lower role filler)) = lower ∷ role ∷ filler ∷ []
body (an_axiom (ExistsLower role filler upper)) = role ∷ filler ∷ upper ∷ []
body (an_axiom (Forall lower role filler)) = lower ∷ role ∷ filler ∷ []
body (an_axiom (RoleInclusion sub sup)) = sub ∷ sup ∷ []

abbrev pub written : List Entry → List ℕ
written [] = []
written (e ∷ es) = field_of (tag e) (body e) ++ written es

-- ---- what a sheet holds

-- the names of the classes and of the roles, and the axioms, each in the order of the sheet
pub record Contents : Type 0 where
  pub classes : List (List ℕ)
  pub roles : List (List ℕ)
  pub axioms : List Axiom

abbrev pub nothing : Contents
nothing = record { classes = []; roles = []; axioms = [] }

-- c with one more entry
abbrev pub more : Contents → Entry → Contents
more c (a_class n) = record { classes = c.classes ++ n ∷ []; roles = c.roles; axioms = c.axioms }
more c (a_role n) = record { classes = c.classes; roles = c.roles ++ n ∷ []; axioms = c.axioms }
more c (an_axiom a) = record { classes = c.classes; roles = c.roles; axioms = c.axioms ++ a ∷ [] }

abbrev pub after : Contents → List Entry → Contents
after c [] = c
after c (e ∷ es) = after (more c e) es

-- a sheet as a source of axioms
abbrev pub meaning_of : Contents → Meaning
meaning_of c = record { classes = length c.classes; roles = length c.roles; names = c.classes; axioms = c.axioms }

-- ---- the checks

abbrev pub Known : ℕ → Type 0
Known t = (1 ≤ t) × (t ≤ 7)

-- the lengths that a field may have, by its tag
abbrev pub RightLength : ℕ → ℕ → Type 0
RightLength t n = (t ≤ 2 → (1 ≤ n) × (n ≤ 40)) × (t ≡ 3 → n ≡ 16) × (4 ≤ t → t ≤ 6 → n ≡ 3) × (t ≡ 7 → n ≡ 2)

-- the checks of a field with tag t and body b, whatever stands before it
abbrev pub field_checks : ℕ → List ℕ → Checks
field_checks t b = check 3 (Known t) (check 4 (RightLength t (length b)) end)

-- a byte that names may have
abbrev pub Printed : ℕ → Type 0
Printed b = (33 ≤ b) × (b ≤ 126)

-- the checks of a name after these, of which there may be so many
abbrev pub name_checks : List (List ℕ) → ℕ → List ℕ → Checks
name_checks names most n = check 5 (AllByRecursion Printed n) (check 6 (ContainsAt names n → ⊥) (check 9 (length names < most) end))

-- the checks of an entry after what c holds
abbrev pub entry_checks : Contents → Entry → Checks
entry_checks c (a_class n) = name_checks c.classes 64 n
entry_checks c (a_role n) = name_checks c.roles 16 n
entry_checks c (an_axiom a) = axiom_checks (length c.classes) (length c.roles) a (check 9 (length c.axioms < 1024) end)

-- an entry that may stand after what c holds
abbrev pub Fits : Contents → Entry → Type 0
Fits c e = Passes (field_checks (tag e) (body e)) × Passes (entry_checks c e)

-- each entry may stand after those before it
abbrev pub Formed : Contents → List Entry → Type 0
Formed c [] = Unit {0}
Formed c (e ∷ es) = Fits c e × Formed (more c e) es

-- ---- what opening a text tells

-- the field says the entry e
abbrev pub Says : ℕ → List ℕ → Entry → Type 0
Says t b e = (t ≡ tag e) × (b ≡ body e)

-- n is the first check that the field fails after what c holds
abbrev pub Fails : Contents → ℕ → List ℕ → ℕ → Type 0
Fails c t b n = FirstFailing (field_checks t b) n ⊎ ((e : Entry) × Says t b e × Passes (field_checks t b) × FirstFailing (entry_checks c e) n)

-- the bytes do not begin with a whole field
abbrev pub Short : List ℕ → Type 0
Short bs = (t : ℕ) (b rest : List ℕ) → bs ≢ field_of t b ++ rest

-- the field at the front of the bytes is refused with n after what c holds
abbrev pub Rejects : Contents → List ℕ → ℕ → Type 0
Rejects c bs n = ((n ≡ 2) × Short bs) ⊎ ((t : ℕ) × (b : List ℕ) × (rest : List ℕ) × (bs ≡ field_of t b ++ rest) × Fails c t b n)

-- the text is a sheet that holds c
pub record Opens (text : List ℕ) (c : Contents) : Type 0 where
  pub entries : List Entry
  pub short : length text ≤ 60000
  pub whole : text ≡ written entries
  pub formed : Formed nothing entries
  pub holds : c ≡ after nothing entries

-- the text is a sheet up to the place, and the field there is refused with n
pub record Stops (text : List ℕ) (n place : ℕ) : Type 0 where
  pub good : List Entry
  pub rest : List ℕ
  pub short : length text ≤ 60000
  pub whole : text ≡ written good ++ rest
  pub formed : Formed nothing good
  pub there : place ≡ length (written good)
  pub some : 0 < length rest
  pub rejects : Rejects (after nothing good) rest n

abbrev pub Gives : List ℕ → Told Contents → Type 0
Gives text (done c) = Opens text c
Gives text (refused n p y) = (y ≡ in_sheet) × (((n ≡ 1) × (p ≡ 0) × (60000 < length text)) ⊎ Stops text n p)

-- what a call told, after which the sheet holds c
abbrev pub outcome : Told (Unit {0}) → Contents → Told Contents
outcome (done u) c = done c
outcome (refused n p y) c = refused n p y
