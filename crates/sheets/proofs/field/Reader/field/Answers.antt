use Rattle.std.proofs.Common.{◌≡◌, ◌+◌, ◌*◌, ◌<◌, ◌≤◌, length, get_or, sym, refl, ap, ◌∙◌, arith, rules}
use Rattle.std.proofs.lemmas.List.{take_rest}
use Rattle.sheets.proofs.Fields.{whole, cut}
use Rattle.sheets.proofs.field.Reader.field.Goals as goal

pub returns-then-after-len : goal.returns-then-after-len
returns-then-after-len c =
    let bs = c.args.self.now.rest.now in
    (c.at-then-after-len.ensures, cut bs c.from-len.result (omega arith) (omega (arith, ap length (take_rest bs 3))))

pub returns : goal.returns
returns c =
    let bs = c.args.self.now.rest.now in
    let len : length c.split_at.result.0.now ≡ c.from-len.result = c.split_at.ensures.front_len in
    let long : 3 ≤ length bs = search rules in
    let low : get_or bs 2 0 < 256 = omega arith in
    let size : get_or bs 1 0 * 256 + get_or bs 2 0 ≡ length c.split_at.result.0.now = omega arith in
    (whole bs _ _ long size low (sym (take_rest bs 3) ∙ c.split_at.ensures.by_index.0), refl, omega arith)
