use Rattle.std.proofs.Common.{◌≡◌, ℕ, ◌+◌, ◌*◌, ◌∙◌, map, subst, arith}
use Rattle.gz_lanes.specs.Combination.{contents, AreCombined}
use Rattle.gz_lanes.proofs.pieces.combined_fours.Goals as goal

pub add_four-requires-clause-four : goal.add_four-requires-clause-four
add_four-requires-clause-four c = omega (arith, c.loop-four-test.true)

pub loop-four-preserved : goal.loop-four-preserved
loop-four-preserved c =
    let made = c.in_ok-add_four.ensures in
    let next : c.loop-four.four * 4 + 4 ≡ (c.loop-four.four + 1) * 4 = omega arith in (
      subst (λ (n : ℕ). AreCombined c.args.rows.now (contents c.args.sources.now) c.args.width n (map (λ piece. piece.items) c.add_four.new.pieces.items)) next made.pieces,
      made.copies.0,
      made.copies.1 ∙ c.loop-four.invariant.2,
      made.copies.2,
    )
