use Rattle.std.proofs.Common.{length, refl, sym, ◌∙◌, arith}
use Rattle.std.proofs.lemmas.Option.{slice_get_read}
use Rattle.gz_round.specs.Awaiting.{is_mark_live}
use Rattle.gz_round.proofs.Lists.{count_more, count_skip, count_within, count_whole}
use Rattle.gz_round.proofs.awaiting.count_live.Goals.{then-is_some, else-is_some}
use Rattle.gz_round.proofs.awaiting.count_live.Goals as goal

pub overflow_add-count : goal.overflow_add-count
overflow_add-count c = omega (arith, c.loop-mark.invariant, count_within is_mark_live c.args.marks.now c.loop-mark.mark-index (omega arith))

pub loop-mark-preserved : goal.loop-mark-preserved
loop-mark-preserved c =
    elim c.if-is_some.branch [
      | then-is_some w ↦ omega (arith, w.count-is, c.loop-mark.invariant, count_more is_mark_live c.args.marks.now c.loop-mark.mark-index c.mark-item.result (slice_get_read c.args.marks.now (length c.args.marks.now) c.loop-mark.mark-index c.mark-item.result refl (omega arith) c.mark-item.is) (sym c.is_some.ensures ∙ w.if-is_some.true))
      | else-is_some w ↦ omega (arith, w.count-is, c.loop-mark.invariant, count_skip is_mark_live c.args.marks.now c.loop-mark.mark-index c.mark-item.result (slice_get_read c.args.marks.now (length c.args.marks.now) c.loop-mark.mark-index c.mark-item.result refl (omega arith) c.mark-item.is) (sym c.is_some.ensures ∙ w.if-is_some.false))
    ]

pub returns : goal.returns
returns c = c.loop-mark.invariant ∙ count_whole is_mark_live c.args.marks.now c.loop-mark.mark-index (omega arith)
