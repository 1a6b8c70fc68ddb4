use Rattle.std.proofs.Common.{length, refl, sym, subst}
use Rattle.tables.specs.Tables.{PartCites}
use Rattle.models.specs.Targets.{Beats}
use Rattle.models.proofs.Marking.{wishes_one}
use Rattle.models.proofs.elements.Elements.is_outdone.Goals as goal

pub beats-requires : goal.beats-requires
beats-requires c =
    let w = (c.in-Some.ensures c.in-Some.other).0 refl in (subst (PartCites (length c.args.self.now.contexts.now)) w.is_part c.requires.cited, c.requires.below)

pub returns-in-Some : goal.returns-in-Some
returns-in-Some c =
    let w = (c.in-Some.ensures c.in-Some.other).0 refl in (
      λ e. record { better = c.in-Some.other; wishes = w; beats = c.beats.ensures.0 e },
      λ o. c.beats.ensures.1 (subst (λ q. Beats c.args.self.now.contexts.now q c.args.part) (sym (wishes_one _ _ _ _ _ w o.wishes)) o.beats),
    )

pub returns-in-None : goal.returns-in-None
returns-in-None c = (λ e. cc, λ o. let h = (c.wish.ensures o.better).1 o.wishes in cc)
