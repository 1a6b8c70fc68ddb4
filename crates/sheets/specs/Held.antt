-- What a sheet in memory holds.
use Rattle.sheets.specs.declared.contents.Sheet.{Sheet}
use Rattle.sheets.specs.declared.item.Item.{Item}
use Rattle.sheets.specs.declared.item.Item.TheVariants.{Class, Role, Axiom}
use Rattle.sheets.specs.Sheets.{Contents, Entry, a_class, a_role, an_axiom}
use Rattle.sheets.specs.Lists.{contents_of}

abbrev pub held : Sheet → Contents
held s = contents_of s.classes.items s.roles.items s.axioms.items

abbrev pub entry_of : Item → Entry
entry_of (Class n) = a_class n.items
entry_of (Role n) = a_role n.items
entry_of (Axiom a) = an_axiom a
