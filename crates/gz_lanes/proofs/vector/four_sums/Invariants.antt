use Rattle.std.proofs.Common.{◌+◌, slice_index}
use Rattle.gz_lanes.specs.Combination.{combination, column, contents}
use Rattle.gz_lanes.specs.Lanes.{HasLanes}
use Rattle.gz_lanes.proofs.vector.four_sums.Given as goal

abbrev pub invariant-loop-j : goal.invariant-loop-j
invariant-loop-j l =
    HasLanes l.of_a (λ k. combination l.j (slice_index l.a) (column (contents l.sources) (l.at + k)))
    × HasLanes l.of_b (λ k. combination l.j (slice_index l.b) (column (contents l.sources) (l.at + k)))
    × HasLanes l.of_c (λ k. combination l.j (slice_index l.c) (column (contents l.sources) (l.at + k)))
    × HasLanes l.of_d (λ k. combination l.j (slice_index l.d) (column (contents l.sources) (l.at + k)))
