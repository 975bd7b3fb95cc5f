use Rattle.std.proofs.Common.{◌≡◌, ◌≤◌, ◌*◌, length, map, min}
use Rattle.gz_lanes.specs.Combination.{contents, AreFour, AreCopies}
use Rattle.gz_lanes.proofs.pieces.fill_four.Given as goal

abbrev pub invariant-loop-block : goal.invariant-loop-block
invariant-loop-block l =
    AreFour l.rows.0.now l.rows.1.now l.rows.2.now l.rows.3.now (contents l.sources) (min (l.block * 1024) l.width) l.pieces.a.items l.pieces.b.items l.pieces.c.items l.pieces.d.items
    × (l.copies.end ≤ l.width)
    × (length l.copies.pieces.items ≡ length l.initial.copies.pieces.items)
    × AreCopies (contents l.sources) l.copies.end (map (λ piece. piece.items) l.copies.pieces.items)
