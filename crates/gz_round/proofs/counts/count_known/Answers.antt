use Rattle.std.proofs.Common.{length, refl, sym, ◌∙◌, arith, is_some}
use Rattle.std.proofs.lemmas.Option.{slice_get_read}
use Rattle.gz_round.proofs.Lists.{count_more, count_skip, count_within, count_whole}
use Rattle.gz_round.proofs.counts.count_known.Goals.{then-is_some, else-is_some}
use Rattle.gz_round.proofs.counts.count_known.Goals as goal

pub overflow_add-count : goal.overflow_add-count
overflow_add-count c = omega (arith, c.loop-row.invariant, count_within (λ row. is_some row) c.args.rows.now c.loop-row.row-index (omega arith))

pub loop-row-preserved : goal.loop-row-preserved
loop-row-preserved c =
    elim c.if-is_some.branch [
      | then-is_some w ↦ omega (arith, w.count-is, c.loop-row.invariant, count_more (λ row. is_some row) c.args.rows.now c.loop-row.row-index c.row-item.result (slice_get_read c.args.rows.now (length c.args.rows.now) c.loop-row.row-index c.row-item.result refl (omega arith) c.row-item.is) (sym c.is_some.ensures ∙ w.if-is_some.true))
      | else-is_some w ↦ omega (arith, w.count-is, c.loop-row.invariant, count_skip (λ row. is_some row) c.args.rows.now c.loop-row.row-index c.row-item.result (slice_get_read c.args.rows.now (length c.args.rows.now) c.loop-row.row-index c.row-item.result refl (omega arith) c.row-item.is) (sym c.is_some.ensures ∙ w.if-is_some.false))
    ]

pub returns : goal.returns
returns c = c.loop-row.invariant ∙ count_whole (λ row. is_some row) c.args.rows.now c.loop-row.row-index (omega arith)
