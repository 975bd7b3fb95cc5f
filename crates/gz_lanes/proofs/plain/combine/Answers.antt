use Rattle.std.proofs.Common.{arith, ◌≡◌, ◌<◌, length, get_or, sym, ◌∙◌, ap}
use Rattle.std.proofs.lemmas.List.{get_or-replicate}
use Rattle.gz_lanes.specs.Combination.{combination}
use Rattle.gz_lanes.proofs.Columns.{source_holds, combination_more}
use Rattle.gz_lanes.proofs.plain.combine.Goals as goal

pub loop-j-init : goal.loop-j-init
unfolding combination
loop-j-init c place l =
    let zeros = c.fill.ensures.after (λ y same. same) in
    let within : place < length c.args.sum.now = omega (arith, c.fill.ensures.len) in
    ap (λ s. get_or s place 0) zeros ∙ get_or-replicate (length c.args.sum.now) place 0 0 within

pub add_multiple-requires : goal.add_multiple-requires
add_multiple-requires c =
    source_holds (λ s. length s ≡ length c.args.sum.now) c.args.sources.now c.loop-j.j (omega (arith, c.requires.paired)) c.requires.widths
    ∙ sym (c.loop-j.auto.sum ∙ c.fill.ensures.len)

pub loop-j-preserved : goal.loop-j-preserved
loop-j-preserved c place l =
    combination_more c.loop-j.j c.args.coefficients.now c.args.sources.now place _ _ (c.loop-j.invariant place (omega arith)) (c.add_multiple.ensures.below place (omega arith))
