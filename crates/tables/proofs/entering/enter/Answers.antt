use Rattle.std.proofs.Common.{◌<◌, length, set, refl, inl, inr, arith, get_or-set_same}
use Rattle.tables.proofs.Finding.{found, not_found}
use Rattle.tables.proofs.entering.enter.Goals as goal

pub returns-in-Some : goal.returns-in-Some
returns-in-Some g c =
    let f = found c.requires c.in-Some.ensures in
    record { below = f.0; there = f.1; way = inl (record { no_more = refl; same = refl }) }

pub returns-then-used-table : goal.returns-then-used-table
returns-then-used-table g c =
    record { same = refl; full = c.if-used-table.true; absent = not_found c.requires c.in_default.ensures }

pub returns : goal.returns
returns g c =
    let lt : c.args.used < length c.args.table.now = omega arith in
    record {
      below = omega arith;
      there = record { is = λ d. get_or-set_same _ _ _ _ lt };
      way = inr (record {
        absent = not_found c.requires c.in_default.ensures;
        free = lt;
        next = refl;
        one_more = refl;
        written = refl {a = set c.args.table.now c.args.used c.args.record};
      });
    }
