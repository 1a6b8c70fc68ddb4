use Rattle.std.proofs.Common.{arith, rules}
use Rattle.std.proofs.lemmas.List.{length-take-le, places}
use Rattle.std.proofs.lemmas.Grind.{common_steps}
use Rattle.book.proofs.Keeping.{limits_strike}
use Rattle.book.proofs.Slots.{take_struck}
use Rattle.book.proofs.book.Book.strike.Goals as goal

pub invariant_of-self : goal.invariant_of-self
invariant_of-self g c =
    let size = length-take-le c.args.self.now.count c.args.self.now.own (omega arith) in
    record {
      few = omega arith;
      whole = search (rules, places);
      limits = rw (take_struck c.args.self.now.own c.rotate_left.new.self c.args.number c.args.self.now.count (omega arith) (omega arith) c.rotate_left.ensures.after)
          (limits_strike _ _ c.args.self.now.limits c.args.number (omega arith));
    }

-- `size` is a lemma of std at the book's slots, which a lemma of the book would only name anew.
pub returns-clause-plain : goal.returns-clause-plain
returns-clause-plain g c =
    let size = length-take-le c.args.self.now.count c.args.self.now.own (omega arith) in
    rw (take_struck c.args.self.now.own c.rotate_left.new.self c.args.number c.args.self.now.count (omega arith) (omega arith) c.rotate_left.ensures.after) (grind (arith, common_steps))
