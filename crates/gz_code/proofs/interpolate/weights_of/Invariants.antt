use Rattle.std.proofs.Common.{◌≡◌, ℕ, ◌<◌, length, slice_index}
use Rattle.gz_code.proofs.Interpolation.{weight}
use Rattle.gz_code.proofs.interpolate.weights_of.Given as goal

-- the weights so far
abbrev pub invariant-loop-j : goal.invariant-loop-j
invariant-loop-j l =
    (length l.weights.items ≡ l.j)
    × ((i : ℕ) → i < l.j → slice_index l.weights.items i ≡ weight (slice_index l.points) (length l.points) l.target i)
