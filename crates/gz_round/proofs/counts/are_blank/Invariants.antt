use Rattle.std.proofs.Common.{◌≡◌, take, true}
use Rattle.std.specs.List.{list_all}
use Rattle.gz_round.specs.Following.{is_blank_known, is_topless}
use Rattle.gz_round.proofs.counts.are_blank.Given as goal

abbrev pub invariant-loop-row : goal.invariant-loop-row
invariant-loop-row l = (list_all is_blank_known (take l.row-index l.rows) ≡ true) × (list_all is_topless (take l.row-index l.rows) ≡ true)
