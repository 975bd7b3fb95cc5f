use Rattle.std.proofs.Common.{◌≡◌, slice_index}
use Rattle.gz_lanes.specs.Combination.{sum_below}
use Rattle.gz_lanes.proofs.rows.total_of.Given as goal

abbrev pub invariant-loop-coefficient : goal.invariant-loop-coefficient
invariant-loop-coefficient l = l.total ≡ sum_below l.coefficient-index (slice_index l.coefficients)
