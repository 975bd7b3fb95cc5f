use Rattle.std.proofs.Common.{length, refl, ◌∙◌, arith}
use Rattle.std.proofs.lemmas.Option.{slice_get_read}
use Rattle.gz_round.specs.declared.run.Mark.{Mark}
use Rattle.gz_round.proofs.Lists.{count_more, count_skip, count_within, count_whole}
use Rattle.gz_round.proofs.counts.count_out.Goals.{then-mark, else-mark}
use Rattle.gz_round.proofs.counts.count_out.Goals as goal

pub overflow_add-count : goal.overflow_add-count
overflow_add-count c = omega (arith, c.loop-mark.invariant, count_within (λ (mark : Mark). mark.out) c.args.marks.now c.loop-mark.mark-index (omega arith))

pub loop-mark-preserved : goal.loop-mark-preserved
loop-mark-preserved c =
    elim c.if-mark.branch [
      | then-mark w ↦ omega (arith, w.count-is, c.loop-mark.invariant, count_more (λ (mark : Mark). mark.out) c.args.marks.now c.loop-mark.mark-index c.mark-item.result (slice_get_read c.args.marks.now (length c.args.marks.now) c.loop-mark.mark-index c.mark-item.result refl (omega arith) c.mark-item.is) (w.if-mark.true))
      | else-mark w ↦ omega (arith, w.count-is, c.loop-mark.invariant, count_skip (λ (mark : Mark). mark.out) c.args.marks.now c.loop-mark.mark-index c.mark-item.result (slice_get_read c.args.marks.now (length c.args.marks.now) c.loop-mark.mark-index c.mark-item.result refl (omega arith) c.mark-item.is) (w.if-mark.false))
    ]

pub returns : goal.returns
returns c = c.loop-mark.invariant ∙ count_whole (λ (mark : Mark). mark.out) c.args.marks.now c.loop-mark.mark-index (omega arith)
