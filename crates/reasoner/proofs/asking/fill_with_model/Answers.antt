use Rattle.std.proofs.Common.{None}
use Rattle.reasoner.proofs.Showing.{ready, shown, shown_of, formed_of, some_right, some_filled}
use Rattle.reasoner.proofs.asking.fill_with_model.Goals as goal

pub write_model-elements-requires-clause-ready : goal.write_model-elements-requires-clause-ready
write_model-elements-requires-clause-ready c =
    let f = some_filled c.in-Something.is _ _ _ _ c.in_ok-counts.ensures.after in
    let r = some_right c.in-Something.is c.in_ok-counts.ensures.gives.1.0 None in
    ready f r.verdict c.requires.formed c.requires.room.0 c.requires.low.0 c.requires.low.1 c.requires.few

pub returns-in-Something : goal.returns-in-Something
returns-in-Something c =
    let g = c.in_ok-counts.ensures.gives in
    let f = some_filled c.in-Something.is _ _ _ _ c.in_ok-counts.ensures.after in
    record {
      gives = (g.0, (some_right c.in-Something.is g.1.0 _, tt));
      after = f;
      shows = λ m r a formed held denied. shown_of m r a (shown f m.classes c.of-reach.ensures (formed_of m r a formed) c.write_model-elements.ensures held denied);
    }
