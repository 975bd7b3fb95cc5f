use Rattle.std.proofs.Common.{◌≡◌, ◌≤◌, ◌*◌, length, map, min}
use Rattle.gz_lanes.specs.Combination.{contents, IsPiece, AreCopies}
use Rattle.gz_lanes.proofs.pieces.combined.Given as goal

abbrev pub invariant-loop-block : goal.invariant-loop-block
invariant-loop-block l =
    IsPiece l.row (contents l.sources) (min (l.block * 1024) l.width) l.piece.items
    × (l.copies.end ≤ l.width)
    × (length l.copies.pieces.items ≡ length l.initial.copies.pieces.items)
    × AreCopies (contents l.sources) l.copies.end (map (λ piece. piece.items) l.copies.pieces.items)
