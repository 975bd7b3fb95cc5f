use Rattle.std.proofs.Common.{◌≡◌, ◌+◌, ◌*◌, length, min}
use Rattle.gz_lanes.specs.Combination.{contents, IsCombined}
use Rattle.gz_lanes.proofs.pieces.extend_to.Given as goal

abbrev pub invariant-loop-block : goal.invariant-loop-block
invariant-loop-block l = (length l.piece.items ≡ min (length l.initial.piece.items + l._block * 16) l.end) × IsCombined l.row (contents l.sources) l.piece.items (length l.piece.items)
