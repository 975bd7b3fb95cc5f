use Rattle.std.proofs.Common.{◌≡◌, ◌≤◌, length, map}
use Rattle.gz_lanes.specs.Combination.{contents, AreCombined, AreCopies}
use Rattle.gz_lanes.proofs.pieces.combined_rows.Given as goal

abbrev pub invariant-loop-at : goal.invariant-loop-at
invariant-loop-at l =
    AreCombined l.rows (contents l.sources) l.width l.at (map (λ piece. piece.items) l.pieces.items)
    × (l.copies.end ≤ l.width)
    × (length l.copies.pieces.items ≡ length l.initial.copies.pieces.items)
    × AreCopies (contents l.sources) l.copies.end (map (λ piece. piece.items) l.copies.pieces.items)
