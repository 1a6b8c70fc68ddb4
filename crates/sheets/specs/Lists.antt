-- What the lists of a sheet in memory say.
use Rattle.std.specs.Prelude.{ℕ, List, map}
use Rattle.arrayvec.specs.ArrayVec.{ArrayVec}
use Rattle.terms.specs.declared.axioms.Axiom.{Axiom}
use Rattle.sheets.specs.Sheets.{Contents}

-- the bytes of each name
abbrev pub spelled : List (ArrayVec ℕ) → List (List ℕ)
spelled names = map (λ n. n.items) names

-- the names of classes and of roles, and axioms, as what a sheet holds
abbrev pub contents_of : List (ArrayVec ℕ) → List (ArrayVec ℕ) → List Axiom → Contents
contents_of classes roles axioms = record { classes = spelled classes; roles = spelled roles; axioms = axioms }
