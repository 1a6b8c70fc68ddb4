use Rattle.sources.specs.Names.{NoneBelow}
use Rattle.sources.proofs.names.find_class.Given as goal

abbrev pub invariant-loop-class : goal.invariant-loop-class
invariant-loop-class g l = NoneBelow (g.S.Source.meaning l.source) l.name l.class
