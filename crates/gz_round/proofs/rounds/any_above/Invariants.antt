use Rattle.std.proofs.Common.{◌≡◌, take, false}
use Rattle.std.specs.List.{list_any}
use Rattle.gz_round.specs.Rounds.{above_known}
use Rattle.gz_round.proofs.rounds.any_above.Given as goal

abbrev pub invariant-loop-row : goal.invariant-loop-row
invariant-loop-row l = list_any (above_known l.version l.ballot) (take l.row-index l.rows) ≡ false
