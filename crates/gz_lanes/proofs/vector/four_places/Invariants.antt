use Rattle.std.proofs.Common.{◌+◌}
use Rattle.gz_lanes.specs.Combination.{column, contents, combined_below}
use Rattle.gz_lanes.specs.Lanes.{HasLanes}
use Rattle.gz_lanes.proofs.vector.four_places.Given as goal

abbrev pub invariant-loop-j : goal.invariant-loop-j
invariant-loop-j l =
    HasLanes l.first (λ k. combined_below l.j l.row (column (contents l.sources) (l.at + k)))
    × HasLanes l.second (λ k. combined_below l.j l.row (column (contents l.sources) (l.at + 16 + k)))
    × HasLanes l.third (λ k. combined_below l.j l.row (column (contents l.sources) (l.at + 32 + k)))
    × HasLanes l.fourth (λ k. combined_below l.j l.row (column (contents l.sources) (l.at + 48 + k)))
