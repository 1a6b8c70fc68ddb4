use Rattle.std.proofs.Common.{refl, inl, inr, ⊎_elim, arith}
use Rattle.std.proofs.lemmas.Bool.Decides.{not_from_Decides}
use Rattle.tables.specs.Lent.{lent}
use Rattle.tables.proofs.Slots.{holds_get_or, among_upto}
use Rattle.tables.proofs.Meanings.{cites_upto}
use Rattle.tables.proofs.Lending.{same_then}
use Rattle.tables.proofs.Additions.{adds_then, ends_stuck, stuck_as, stuck_then, below_none, below_skip, below_more, below_stuck, below_end, grows_refl}
use Rattle.saturation.specs.Choices.{given_record}
use Rattle.saturation.proofs.Givens.{given_cited, given_any, other_among, among_then, means_on, facing, other_held, both_cite, given_means, other_means, pairs_adds, pairs_stuck}
use Rattle.saturation.proofs.Partners.{unshared_none}
use Rattle.saturation.proofs.turns.turn.Goals as goal

pub loop-j-init : goal.loop-j-init
loop-j-init c =
    let good = c.args.tables.now.good in
    let a = given_any (lent c.args.tables.now) c.args.slot good c.requires.used in
    let w = (c.in_ok-alone.ensures.gives _ a.0 a.1).grows in (
      λ d is. below_none w.good,
      omega (arith, c.requires.used, w.clauses.more),
      cites_upto w.contexts.more (given_record c.args.tables.now.clauses.now c.args.slot) (given_cited good c.requires.used),
      c.requires.roles (given_record c.args.tables.now.clauses.now c.args.slot) (record { slot = c.args.slot; below = omega arith; holds = holds_get_or c.args.tables.now.clauses.now c.args.slot _ (omega (arith, c.requires.used, good.clauses_fit)) }),
      λ x b. let o = among_then good w c.requires.used b in (c.requires.roles x o, cites_upto w.contexts.more x (good.cited x (among_upto (omega (arith, c.requires.used)) o))),
      c.in_ok-alone.ensures.same,
    )

pub pair-requires-clause-cited : goal.pair-requires-clause-cited
pair-requires-clause-cited c =
    let i = c.loop-j.invariant in
    let w = (i.0 _ refl).grows in
    both_cite (facing (given_record c.args.tables.now.clauses.now c.args.slot) c.alone.new.tables.good w i.1 i.2 i.4 c.loop-j-test.true) (grows_refl w.good)

pub pair-requires-in-loop-j-clause-cited : goal.pair-requires-in-loop-j-clause-cited
pair-requires-in-loop-j-clause-cited c =
    let i = c.loop-j.invariant in
    let b = both_cite (facing (given_record c.args.tables.now.clauses.now c.args.slot) c.alone.new.tables.good (i.0 _ refl).grows i.1 i.2 i.4 c.loop-j-test.true) (c.in_ok-pair.ensures.gives _ _ refl refl).grows in
    (b.1, b.0)

pub pair-requires-in-loop-j-clause-roles : goal.pair-requires-in-loop-j-clause-roles
pair-requires-in-loop-j-clause-roles c =
    let i = c.loop-j.invariant in
    (i.4 (given_record c.loop-j.tables.clauses.now c.loop-j.j) (other_among c.alone.new.tables.good (i.0 _ refl).grows i.1 c.loop-j-test.true)).0

pub loop-j-preserved : goal.loop-j-preserved
loop-j-preserved c =
    let i = c.loop-j.invariant in (
      λ d is.
          let p = i.0 d is in
          let f = facing (given_record c.args.tables.now.clauses.now c.args.slot) c.alone.new.tables.good p.grows i.1 i.2 i.4 c.loop-j-test.true in
          let here = grows_refl p.grows.good in
          let q = c.in_ok-pair.ensures.gives d _ (given_means f here is) (other_means f here) in
          let r = c.in_ok-pair-2.ensures.gives _ d (other_means f q.grows) (given_means f q.grows is) in
          below_more (other_held f) p (adds_then q r (λ m e. e) (λ m b. inl b) (λ m b. inr b)),
      i.1,
      i.2,
      i.3,
      i.4,
      same_then i.5 (same_then c.in_ok-pair.ensures.same c.in_ok-pair-2.ensures.same),
    )

pub loop-j-preserved-then-not-shares-2 : goal.loop-j-preserved-then-not-shares-2
loop-j-preserved-then-not-shares-2 c =
    let i = c.loop-j.invariant in (
      λ d is.
          let p = i.0 d is in
          let x = given_record c.args.tables.now.clauses.now c.args.slot in
          let y = given_record c.loop-j.tables.clauses.now c.loop-j.j in
          let f = facing x c.alone.new.tables.good p.grows i.1 i.2 i.4 c.loop-j-test.true in
          below_skip (other_held f) p (λ m e. ⊎_elim
          (unshared_none x y f.good f.given f.other is refl (not_from_Decides _ c.shares.ensures c.if-not-shares.true) m)
          (unshared_none y x f.good f.other f.given refl is (not_from_Decides _ c.shares-then-not-shares.ensures c.if-not-shares-2.true) m)
          e),
      i.1,
      i.2,
      i.3,
      i.4,
      i.5,
    )

pub returns-in_err-alone-clause-gives : goal.returns-in_err-alone-clause-gives
returns-in_err-alone-clause-gives c d Ts given = ends_stuck _ _ _ c.from_residual.result c.from_residual.ensures.1 (stuck_as (c.in_err-alone.ensures.gives d Ts given) (λ m o. inl o))

pub returns-in_err-pair-clause-gives : goal.returns-in_err-pair-clause-gives
returns-in_err-pair-clause-gives c d Ts given =
    let first = c.in_ok-alone.ensures.gives d Ts given in
    let i = c.loop-j.invariant in
    let x = given_record c.args.tables.now.clauses.now c.args.slot in
    let is = means_on first.grows x (given_cited c.args.tables.now.good c.requires.used) given.means in
    let p = i.0 d is in
    let f = facing x c.alone.new.tables.good p.grows i.1 i.2 i.4 c.loop-j-test.true in
    let here = grows_refl p.grows.good in
    let q = c.in_err-pair.ensures.gives d _ (given_means f here is) (other_means f here) in
    ends_stuck _ _ _ c.from_residual-in_err-pair.result c.from_residual-in_err-pair.ensures.1
    (stuck_then first (pairs_stuck c.args.tables.now.good first.grows c.requires.used (below_stuck c.loop-j-test.true (other_held f) p (stuck_as q (λ m b. inl b)))) (λ m b. inl b) (λ m b. inr b))

pub returns-in_err-pair-2-clause-gives : goal.returns-in_err-pair-2-clause-gives
returns-in_err-pair-2-clause-gives c d Ts given =
    let first = c.in_ok-alone.ensures.gives d Ts given in
    let i = c.loop-j.invariant in
    let x = given_record c.args.tables.now.clauses.now c.args.slot in
    let is = means_on first.grows x (given_cited c.args.tables.now.good c.requires.used) given.means in
    let p = i.0 d is in
    let f = facing x c.alone.new.tables.good p.grows i.1 i.2 i.4 c.loop-j-test.true in
    let here = grows_refl p.grows.good in
    let q = c.in_ok-pair.ensures.gives d _ (given_means f here is) (other_means f here) in
    let r = c.in_err-pair-2.ensures.gives _ d (other_means f q.grows) (given_means f q.grows is) in
    ends_stuck _ _ _ c.from_residual-in_err-pair-2.result c.from_residual-in_err-pair-2.ensures.1
    (stuck_then first (pairs_stuck c.args.tables.now.good first.grows c.requires.used (below_stuck c.loop-j-test.true (other_held f) p (stuck_then q r (λ m b. inl b) (λ m b. inr b)))) (λ m b. inl b) (λ m b. inr b))

pub returns-clause-gives : goal.returns-clause-gives
returns-clause-gives c d Ts given =
    let first = c.in_ok-alone.ensures.gives d Ts given in
    adds_then first (pairs_adds c.args.tables.now.good first.grows c.requires.used (below_end (omega arith) (omega arith) (c.loop-j.invariant.0 d (means_on first.grows (given_record c.args.tables.now.clauses.now c.args.slot) (given_cited c.args.tables.now.good c.requires.used) given.means))))
    (λ m o. o) (λ m b. inl b) (λ m b. inr b)
