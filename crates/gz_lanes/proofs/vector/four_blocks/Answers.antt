use Rattle.std.proofs.Common.{◌≡◌, ◌+◌, ◌*◌, ℕ, subst, arith}
use Rattle.gz_lanes.specs.Combination.{contents, HasSums}
use Rattle.gz_lanes.proofs.vector.four_blocks.Goals as goal

pub put-requires-clause-sums_are : goal.put-requires-clause-sums_are
put-requires-clause-sums_are c = c.sums_of_four.ensures.first

pub put-requires-in-loop-i-clause-sums_are : goal.put-requires-in-loop-i-clause-sums_are
put-requires-in-loop-i-clause-sums_are c = c.sums_of_four.ensures.second

pub put-requires-in-loop-i-2-clause-sums_are : goal.put-requires-in-loop-i-2-clause-sums_are
put-requires-in-loop-i-2-clause-sums_are c = c.sums_of_four.ensures.third

pub put-requires-in-loop-i-3-clause-sums_are : goal.put-requires-in-loop-i-3-clause-sums_are
put-requires-in-loop-i-3-clause-sums_are c = c.sums_of_four.ensures.fourth

pub loop-i-preserved : goal.loop-i-preserved
loop-i-preserved c =
    let sources = contents c.args.sources.now in
    let at = c.args.at in
    let rows = c.args.rows in
    let next : c.loop-i.i * 16 + 16 ≡ (c.loop-i.i + 1) * 16 = omega arith in (
      subst (λ (n : ℕ). HasSums rows.0.now sources at n c.put.new.block) next (c.put.ensures c.loop-i.invariant.0),
      subst (λ (n : ℕ). HasSums rows.1.now sources at n c.put-in-loop-i.new.block) next (c.put-in-loop-i.ensures c.loop-i.invariant.1),
      subst (λ (n : ℕ). HasSums rows.2.now sources at n c.put-in-loop-i-2.new.block) next (c.put-in-loop-i-2.ensures c.loop-i.invariant.2),
      subst (λ (n : ℕ). HasSums rows.3.now sources at n c.put-in-loop-i-3.new.block) next (c.put-in-loop-i-3.ensures c.loop-i.invariant.3),
    )
