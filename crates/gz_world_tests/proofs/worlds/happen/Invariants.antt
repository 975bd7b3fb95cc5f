use Rattle.gz_world.specs.Fits.{IsFitting}
use Rattle.gz_world_tests.proofs.worlds.happen.Given as goal

abbrev pub invariant-loop-step : goal.invariant-loop-step
invariant-loop-step l = IsFitting l.world
