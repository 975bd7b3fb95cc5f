use Rattle.std.proofs.Common.{◌≡◌, ℕ, ◌<◌, length, slice_index}
use Rattle.gz_lanes.specs.Combination.{combination, column, contents}
use Rattle.gz_lanes.proofs.plain.combine.Given as goal

abbrev pub invariant-loop-j : goal.invariant-loop-j
invariant-loop-j l = (place : ℕ) → place < length l.sum → slice_index l.sum place ≡ combination l.j (slice_index l.coefficients) (column (contents l.sources) place)
