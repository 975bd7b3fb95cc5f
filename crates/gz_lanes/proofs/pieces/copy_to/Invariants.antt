use Rattle.std.proofs.Common.{◌≡◌, ℕ, ◌<◌, ◌≤◌, [], length, map, slice_index_or, take}
use Rattle.gz_lanes.specs.Combination.{contents}
use Rattle.gz_lanes.proofs.pieces.copy_to.Given as goal

abbrev pub invariant-loop-j : goal.invariant-loop-j
invariant-loop-j l =
    (length l.copies.pieces.items ≡ length l.initial.copies.pieces.items)
    × ((i : ℕ) → i < l.j → slice_index_or (map (λ piece. piece.items) l.copies.pieces.items) i [] ≡ take l.end (slice_index_or (contents l.sources) i []))
    × ((i : ℕ) → l.j ≤ i → i < length l.copies.pieces.items → slice_index_or (map (λ piece. piece.items) l.copies.pieces.items) i [] ≡ take l.from (slice_index_or (contents l.sources) i []))
