use Rattle.std.proofs.Common.{◌≡◌, ◌+◌, length, max, refl, sym, subst, arith}
use Rattle.std.specs.Prelude.{drop}
use Rattle.std.proofs.lemmas.Option.{slice_get_read, slice_get_within}
use Rattle.gz_round.specs.Floors.{top_floor_of}
use Rattle.gz_round.proofs.HeardFloors.{top_floor_more, rows_more}
use Rattle.gz_round.proofs.floors.top_floor.Goals as goal

pub loop-row-preserved : goal.loop-row-preserved
loop-row-preserved c =
    let there = slice_get_read c.args.rows.now (length c.args.rows.now) c.loop-row.row-index c.row-item.result refl (omega arith) c.row-item.is in
    record {
      top = subst (λ t. top_floor_of c.args.rows.now ≡ max t (top_floor_of (drop (c.loop-row.row-index + 1) c.args.rows.now))) (sym c.later_of-top.ensures) (top_floor_more c.args.rows.now c.loop-row.row-index c.loop-row.top c.floor_of.result c.row-item.result there c.floor_of.ensures.top c.loop-row.invariant.top);
      rows = rows_more c.args.rows.now c.loop-row.row-index c.row-item.result there c.floor_of.ensures.row c.loop-row.invariant.rows;
    }

pub returns-clause-rows : goal.returns-clause-rows
returns-clause-rows c = λ s row e. c.loop-row.invariant.rows s row (omega (arith, slice_get_within c.args.rows.now s _ e)) e
