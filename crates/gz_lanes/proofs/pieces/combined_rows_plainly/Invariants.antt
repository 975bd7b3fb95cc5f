use Rattle.std.proofs.Common.{map}
use Rattle.gz_lanes.specs.Combination.{contents, AreCombined}
use Rattle.gz_lanes.proofs.pieces.combined_rows_plainly.Given as goal

abbrev pub invariant-loop-at : goal.invariant-loop-at
invariant-loop-at l = AreCombined l.rows (contents l.sources) l.width l.at (map (λ piece. piece.items) l.pieces.items)
