use Rattle.gz_round.proofs.Passes.{Going}
use Rattle.gz_round.proofs.run.Run.ask_all.Given as goal

abbrev pub invariant-loop-at : goal.invariant-loop-at
invariant-loop-at l = Going l.config l.fn.self l.self l.step l.first l.fn.send l.send l.at
