use Rattle.std.proofs.Common.{◌≡◌, max}
use Rattle.std.specs.Prelude.{drop}
use Rattle.gz_round.specs.Acting.{round_in}
use Rattle.gz_round.proofs.rounds.top_round.Given as goal

abbrev pub invariant-loop-row : goal.invariant-loop-row
invariant-loop-row l = round_in l.version l.rows ≡ max l.top (round_in l.version (drop l.row-index l.rows))
