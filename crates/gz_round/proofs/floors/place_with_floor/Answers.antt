use Rattle.std.proofs.Common.{length, refl, sym, ◌∙◌, arith}
use Rattle.std.proofs.lemmas.Option.{slice_get_read, slice_get_within}
use Rattle.gz_round.proofs.HeardFloors.{floor_at, floorless_more}
use Rattle.gz_round.proofs.floors.place_with_floor.Goals as goal

pub loop-at-preserved : goal.loop-at-preserved
loop-at-preserved c =
    let there = slice_get_read c.args.rows.now (length c.args.rows.now) c.loop-at.at c.index-rows-at.result refl (omega arith) c.index-rows-at.is in
    floorless_more c.args.rows.now c.args.floor c.loop-at.at c.index-rows-at.result there (sym c.has_floor.ensures.same ∙ c.if-has_floor.false) c.loop-at.invariant

pub returns-then-has_floor : goal.returns-then-has_floor
returns-then-has_floor c =
    let there = slice_get_read c.args.rows.now (length c.args.rows.now) c.loop-at.at c.index-rows-at.result refl (omega arith) c.index-rows-at.is in
    (floor_at c.args.rows.now c.args.floor c.loop-at.at c.index-rows-at.result there c.has_floor.ensures.row (sym c.has_floor.ensures.same ∙ c.if-has_floor.true) c.requires.floor, c.loop-at.invariant)

pub returns : goal.returns
returns c = λ s row e. c.loop-at.invariant s row (omega (arith, slice_get_within c.args.rows.now s _ e)) e
