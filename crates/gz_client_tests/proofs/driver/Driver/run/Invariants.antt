use Rattle.gz_client_tests.specs.Holding.{IsHeld}
use Rattle.gz_client_tests.proofs.driver.Driver.run.Given as goal

abbrev pub invariant-loop-next : goal.invariant-loop-next
invariant-loop-next l = IsHeld l.self.client l.self.calls l.self.first
