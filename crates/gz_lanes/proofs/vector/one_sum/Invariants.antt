use Rattle.std.proofs.Common.{◌+◌}
use Rattle.gz_lanes.specs.Combination.{column, contents, combined_below}
use Rattle.gz_lanes.specs.Lanes.{HasLanes}
use Rattle.gz_lanes.proofs.vector.one_sum.Given as goal

abbrev pub invariant-loop-j : goal.invariant-loop-j
invariant-loop-j l = HasLanes l.total (λ k. combined_below l.j l.row (column (contents l.sources) (l.at + k)))
