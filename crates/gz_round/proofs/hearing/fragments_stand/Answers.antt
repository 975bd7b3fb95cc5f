use Rattle.std.proofs.Common.{length, refl, sym, ◌∙◌, arith}
use Rattle.std.proofs.lemmas.Option.{slice_get_read}
use Rattle.gz_round.specs.Sites.{fragment_stands}
use Rattle.gz_round.proofs.Lists.{all_more, all_broken, all_whole}
use Rattle.gz_round.proofs.hearing.fragments_stand.Goals as goal

pub loop-fragment-preserved : goal.loop-fragment-preserved
loop-fragment-preserved c = all_more (fragment_stands c.args.n) c.args.fragments.now c.loop-fragment.fragment-index c.fragment-item.result (slice_get_read c.args.fragments.now (length c.args.fragments.now) c.loop-fragment.fragment-index c.fragment-item.result refl (omega arith) c.fragment-item.is) (sym c.fragment_stands.ensures ∙ c.if-not-fragment_stands.false) c.loop-fragment.invariant

pub returns-then-not-fragment_stands : goal.returns-then-not-fragment_stands
returns-then-not-fragment_stands c = sym (all_broken (fragment_stands c.args.n) c.args.fragments.now c.loop-fragment.fragment-index c.fragment-item.result (slice_get_read c.args.fragments.now (length c.args.fragments.now) c.loop-fragment.fragment-index c.fragment-item.result refl (omega arith) c.fragment-item.is) (sym c.fragment_stands.ensures ∙ c.if-not-fragment_stands.true))

pub returns : goal.returns
returns c = sym c.loop-fragment.invariant ∙ all_whole (fragment_stands c.args.n) c.args.fragments.now c.loop-fragment.fragment-index (omega arith)
