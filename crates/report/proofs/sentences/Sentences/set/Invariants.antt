use Rattle.report.proofs.Joints.{Joined}
use Rattle.report.proofs.sentences.Sentences.set.Given as goal

abbrev pub invariant-loop-class : goal.invariant-loop-class
invariant-loop-class l = Joined l.joint l.fn.set.bits l.class-iterator.rest.bits l.fn.self l.self
