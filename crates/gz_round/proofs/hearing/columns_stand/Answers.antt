use Rattle.std.proofs.Common.{length, refl, sym, ◌∙◌, arith}
use Rattle.std.proofs.lemmas.Option.{slice_get_read}
use Rattle.gz_round.specs.Sites.{entry_stands}
use Rattle.gz_round.proofs.Lists.{all_more, all_broken, all_whole}
use Rattle.gz_round.proofs.hearing.columns_stand.Goals as goal

pub loop-entry-preserved : goal.loop-entry-preserved
loop-entry-preserved c = all_more (entry_stands c.args.n) c.args.columns.now c.loop-entry.entry-index c.entry-item.result (slice_get_read c.args.columns.now (length c.args.columns.now) c.loop-entry.entry-index c.entry-item.result refl (omega arith) c.entry-item.is) (sym c.entry_stands.ensures ∙ c.if-not-entry_stands.false) c.loop-entry.invariant

pub returns-then-not-entry_stands : goal.returns-then-not-entry_stands
returns-then-not-entry_stands c = sym (all_broken (entry_stands c.args.n) c.args.columns.now c.loop-entry.entry-index c.entry-item.result (slice_get_read c.args.columns.now (length c.args.columns.now) c.loop-entry.entry-index c.entry-item.result refl (omega arith) c.entry-item.is) (sym c.entry_stands.ensures ∙ c.if-not-entry_stands.true))

pub returns : goal.returns
returns c = sym c.loop-entry.invariant ∙ all_whole (entry_stands c.args.n) c.args.columns.now c.loop-entry.entry-index (omega arith)
