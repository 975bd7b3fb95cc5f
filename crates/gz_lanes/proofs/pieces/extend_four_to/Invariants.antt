use Rattle.std.proofs.Common.{◌≡◌, ◌+◌, ◌*◌, length, min}
use Rattle.gz_lanes.specs.Combination.{contents, AreFour}
use Rattle.gz_lanes.proofs.pieces.extend_four_to.Given as goal

abbrev pub invariant-loop-block : goal.invariant-loop-block
invariant-loop-block l = (length l.pieces.a.items ≡ min (length l.initial.pieces.a.items + l._block * 16) l.end) × AreFour l.rows.0.now l.rows.1.now l.rows.2.now l.rows.3.now (contents l.sources) (length l.pieces.a.items) l.pieces.a.items l.pieces.b.items l.pieces.c.items l.pieces.d.items
