use Rattle.std.proofs.Common.{◌≡◌, Some, None, get_or, subst, rules, arith, below_more}
use Rattle.terms.specs.Axioms.{blank}
use Rattle.worlds.specs.Worlds.{Holds}
use Rattle.worlds.specs.Audits.{Audited}
use Rattle.worlds.proofs.Findings.{obeys_each, one_finding}
use Rattle.worlds.proofs.audit.audit.Goals as goal

pub returns-in-Some : goal.returns-in-Some
returns-in-Some g c =
    let xs = (g.S.Source.meaning c.args.source.now).axioms in
    let w = g.W.World.meaning c.args.world.now in
    let found : Audited xs w (Some (record { number = c.loop-number.number; element = c.in-Some.element })) = search rules in
    record { gives = found; only = λ a q. one_finding xs w a _ q found }

pub loop-number-preserved : goal.loop-number-preserved
loop-number-preserved g c =
    let xs = (g.S.Source.meaning c.args.source.now).axioms in
    let w = g.W.World.meaning c.args.world.now in
    let there : c.unwrap-axiom.result ≡ get_or xs c.loop-number.number blank = search rules in
    below_more (λ j. Holds w (get_or xs j blank)) c.loop-number.number c.loop-number.invariant (subst (Holds w) there c.in_default.ensures)

pub returns : goal.returns
returns g c =
    let xs = (g.S.Source.meaning c.args.source.now).axioms in
    let w = g.W.World.meaning c.args.world.now in
    let all = obeys_each w xs (λ j l. c.loop-number.invariant j (omega (arith, c.axiom_count-number-end.ensures))) in
    record { gives = all; only = λ a q. one_finding xs w a None q all }
