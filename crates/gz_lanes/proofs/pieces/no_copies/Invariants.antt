use Rattle.std.proofs.Common.{◌≡◌, ℕ, ◌<◌, [], length, map, slice_index_or}
use Rattle.gz_lanes.proofs.pieces.no_copies.Given as goal

abbrev pub invariant-loop-copy : goal.invariant-loop-copy
invariant-loop-copy l = (length l.pieces.items ≡ l._copy) × ((j : ℕ) → j < l._copy → slice_index_or (map (λ piece. piece.items) l.pieces.items) j [] ≡ [])
