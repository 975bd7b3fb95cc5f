use Rattle.gz_lanes.specs.Combination.{contents}
use Rattle.gz_code.specs.Interpolation.{AreAllValues, rows}
use Rattle.gz_code.proofs.interpolate.plain_pieces_at.Given as goal

abbrev pub invariant-loop-target : goal.invariant-loop-target
invariant-loop-target l = AreAllValues l.points (contents l.sources) l.width l.targets l.target-index (rows l.pieces)
