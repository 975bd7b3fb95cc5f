use Rattle.std.proofs.Common.{◌≡◌, ℕ, Option, None}
use Rattle.gz_core.specs.declared.values.Value.{Value}
use Rattle.gz_round.specs.LookBack.{lowest}
use Rattle.gz_round.specs.Choosing.{AreLastVotes}
use Rattle.gz_round.proofs.run.Run.lowest_vote.Given as goal

abbrev pub invariant-loop-at : goal.invariant-loop-at
invariant-loop-at l = (f : ℕ → Option Value) → AreLastVotes l.self l.version f → lowest l.at f ≡ None
