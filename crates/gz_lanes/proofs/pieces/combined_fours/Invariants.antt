use Rattle.std.proofs.Common.{◌≡◌, ◌≤◌, ◌*◌, length, map}
use Rattle.gz_lanes.specs.Combination.{contents, AreCombined, AreCopies}
use Rattle.gz_lanes.proofs.pieces.combined_fours.Given as goal

abbrev pub invariant-loop-four : goal.invariant-loop-four
invariant-loop-four l =
    AreCombined l.rows (contents l.sources) l.width (l.four * 4) (map (λ piece. piece.items) l.pieces.items)
    × (l.copies.end ≤ l.width)
    × (length l.copies.pieces.items ≡ length l.initial.copies.pieces.items)
    × AreCopies (contents l.sources) l.copies.end (map (λ piece. piece.items) l.copies.pieces.items)
