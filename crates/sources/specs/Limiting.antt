-- That a source keeps its limits is one fact, however it was shown: a type that keeps them can hold it.
use Rattle.std.specs.Prelude.{◌≤◌, length}
use Rattle.std.specs.Coded.{le_prop, Coded-set, coded_ℕ}
use Rattle.std.specs.List.{AllByRecursion-prop}
use Rattle.terms.specs.Axioms.{WellFormed}
use Rattle.terms.specs.Formed.{formed_prop}
use Rattle.sources.specs.Meanings.{Meaning, Limits}

pub limits_prop : (m : Meaning) → IsProp (Limits m)
limits_prop m x y = λ i. record {
  few_classes = le_prop x.few_classes y.few_classes i;
  few_roles = le_prop x.few_roles y.few_roles i;
  few_axioms = le_prop x.few_axioms y.few_axioms i;
  formed = AllByRecursion-prop (WellFormed m.classes m.roles) (formed_prop m.classes m.roles) m.axioms x.formed y.formed i;
  each_named = Coded-set coded_ℕ _ _ x.each_named y.each_named i;
  short_names = AllByRecursion-prop (λ n. length n ≤ 40) (λ n. le_prop) m.names x.short_names y.short_names i;
}
