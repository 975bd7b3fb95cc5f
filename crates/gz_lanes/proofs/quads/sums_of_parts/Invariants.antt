use Rattle.std.proofs.Common.{ℕ, ◌+◌, ◌*◌, ◌<◌}
use Rattle.gz_lanes.specs.Combination.{combination, column, contents}
use Rattle.gz_lanes.specs.Lanes.{HasLanes}
use Rattle.gz_lanes.specs.Quads.{in_first, in_second, in_third, in_fourth}
use Rattle.gz_lanes.proofs.quads.sums_of_parts.Given as goal

abbrev pub invariant-loop-q : goal.invariant-loop-q
invariant-loop-q l =
    HasLanes l.first (λ k. combination (l.q * 4) (in_first l.constants) (column (contents l.sources) (l.at + k)))
    × HasLanes l.second (λ k. combination (l.q * 4) (in_second l.constants) (column (contents l.sources) (l.at + k)))
    × HasLanes l.third (λ k. combination (l.q * 4) (in_third l.constants) (column (contents l.sources) (l.at + k)))
    × HasLanes l.fourth (λ k. combination (l.q * 4) in_fourth (column (contents l.sources) (l.at + k)))
    × ((k j : ℕ) → k < 16 → j < l.q * 4 → column (contents l.sources) (l.at + k) j < 256)
