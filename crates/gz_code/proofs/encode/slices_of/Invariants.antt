use Rattle.std.proofs.Common.{◌≡◌, map, take}
use Rattle.gz_lanes.specs.Combination.{contents}
use Rattle.gz_code.proofs.encode.slices_of.Given as goal

abbrev pub invariant-loop-piece : goal.invariant-loop-piece
invariant-loop-piece l = contents l.slices.items ≡ map (λ piece. piece.items) (take l.piece-index l.pieces)
