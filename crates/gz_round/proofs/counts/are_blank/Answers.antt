use Rattle.std.proofs.Common.{length, refl, sym, ◌∙◌, arith}
use Rattle.std.proofs.lemmas.Option.{slice_get_read}
use Rattle.gz_round.specs.Following.{is_blank_known, is_topless}
use Rattle.gz_round.proofs.Lists.{all_more, all_broken, all_whole}
use Rattle.gz_round.proofs.counts.are_blank.Goals as goal

pub loop-row-preserved : goal.loop-row-preserved
loop-row-preserved c =
    let there = (slice_get_read c.args.rows.now (length c.args.rows.now) c.loop-row.row-index c.row-item.result refl (omega arith) c.row-item.is) in
    (all_more is_blank_known c.args.rows.now c.loop-row.row-index c.row-item.result there (sym c.is_blank.ensures.blank ∙ c.if-not-is_blank.false) c.loop-row.invariant.0, all_more is_topless c.args.rows.now c.loop-row.row-index c.row-item.result there (sym c.is_blank.ensures.top ∙ c.if-not-is_blank.false) c.loop-row.invariant.1)

pub returns-then-not-is_blank-clause-blank : goal.returns-then-not-is_blank-clause-blank
returns-then-not-is_blank-clause-blank c = sym (all_broken is_blank_known c.args.rows.now c.loop-row.row-index c.row-item.result (slice_get_read c.args.rows.now (length c.args.rows.now) c.loop-row.row-index c.row-item.result refl (omega arith) c.row-item.is) (sym c.is_blank.ensures.blank ∙ c.if-not-is_blank.true))

pub returns-clause-blank : goal.returns-clause-blank
returns-clause-blank c = sym c.loop-row.invariant.0 ∙ all_whole is_blank_known c.args.rows.now c.loop-row.row-index (omega arith)

pub returns-then-not-is_blank-clause-top : goal.returns-then-not-is_blank-clause-top
returns-then-not-is_blank-clause-top c = sym (all_broken is_topless c.args.rows.now c.loop-row.row-index c.row-item.result (slice_get_read c.args.rows.now (length c.args.rows.now) c.loop-row.row-index c.row-item.result refl (omega arith) c.row-item.is) (sym c.is_blank.ensures.top ∙ c.if-not-is_blank.true))

pub returns-clause-top : goal.returns-clause-top
returns-clause-top c = sym c.loop-row.invariant.1 ∙ all_whole is_topless c.args.rows.now c.loop-row.row-index (omega arith)
