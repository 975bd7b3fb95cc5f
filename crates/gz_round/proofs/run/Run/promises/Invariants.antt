use Rattle.gz_round.specs.Choosing.{AreHeardIn}
use Rattle.gz_round.proofs.run.Run.promises.Given as goal

abbrev pub invariant-loop-at : goal.invariant-loop-at
invariant-loop-at l = AreHeardIn l.config l.self.rows l.version l.ballot l.heard l.at
