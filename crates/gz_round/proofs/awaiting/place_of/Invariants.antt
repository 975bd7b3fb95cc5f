use Rattle.std.proofs.Common.{◌<◌, ℕ}
use Rattle.gz_round.specs.Awaiting.{IsSiteOf}
use Rattle.gz_round.proofs.awaiting.place_of.Given as goal

abbrev pub invariant-loop-at : goal.invariant-loop-at
invariant-loop-at l = (s : ℕ) → s < l.at → IsSiteOf l.marks l.n s → ⊥
