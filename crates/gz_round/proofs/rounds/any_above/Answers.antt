use Rattle.std.proofs.Common.{length, refl, sym, ◌∙◌, arith}
use Rattle.std.proofs.lemmas.Option.{slice_get_read}
use Rattle.gz_round.specs.Rounds.{above_known}
use Rattle.gz_round.proofs.Lists.{any_skip, any_told, any_whole}
use Rattle.gz_round.proofs.rounds.any_above.Goals as goal

pub loop-row-preserved : goal.loop-row-preserved
loop-row-preserved c = any_skip (above_known c.args.version c.args.ballot) c.args.rows.now c.loop-row.row-index c.row-item.result (slice_get_read c.args.rows.now (length c.args.rows.now) c.loop-row.row-index c.row-item.result refl (omega arith) c.row-item.is) (sym c.is_above.ensures ∙ c.if-is_above.false) c.loop-row.invariant

pub returns-then-is_above : goal.returns-then-is_above
returns-then-is_above c = sym (any_told (above_known c.args.version c.args.ballot) c.args.rows.now c.loop-row.row-index c.row-item.result (slice_get_read c.args.rows.now (length c.args.rows.now) c.loop-row.row-index c.row-item.result refl (omega arith) c.row-item.is) (sym c.is_above.ensures ∙ c.if-is_above.true))

pub returns : goal.returns
returns c = sym c.loop-row.invariant ∙ any_whole (above_known c.args.version c.args.ballot) c.args.rows.now c.loop-row.row-index (omega arith)
