use Rattle.std.proofs.Common.{length, refl, sym, ◌∙◌, arith}
use Rattle.std.proofs.lemmas.Option.{slice_get_read}
use Rattle.gz_round.specs.Awaiting.{has_number}
use Rattle.gz_round.proofs.Lists.{any_skip, any_told, any_whole}
use Rattle.gz_client.proofs.client.live.any_mark_awaits.Goals as goal

pub loop-mark-preserved : goal.loop-mark-preserved
loop-mark-preserved c = any_skip (has_number c.args.n) c.args.marks.now c.loop-mark.mark-index c.mark-item.result (slice_get_read c.args.marks.now (length c.args.marks.now) c.loop-mark.mark-index c.mark-item.result refl (omega arith) c.mark-item.is) (sym c.has_number.ensures ∙ c.if-has_number.false) c.loop-mark.invariant

pub returns-then-has_number : goal.returns-then-has_number
returns-then-has_number c = sym (any_told (has_number c.args.n) c.args.marks.now c.loop-mark.mark-index c.mark-item.result (slice_get_read c.args.marks.now (length c.args.marks.now) c.loop-mark.mark-index c.mark-item.result refl (omega arith) c.mark-item.is) (sym c.has_number.ensures ∙ c.if-has_number.true))

pub returns : goal.returns
returns c = sym c.loop-mark.invariant ∙ any_whole (has_number c.args.n) c.args.marks.now c.loop-mark.mark-index (omega arith)
