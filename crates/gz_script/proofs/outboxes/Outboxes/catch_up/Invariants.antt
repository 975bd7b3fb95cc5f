use Rattle.std.proofs.Common.{◌-◌, length, map}
use Rattle.gz_world.specs.States.{request_of}
use Rattle.gz_script.specs.Outboxes.{AreUnansweredListed}
use Rattle.gz_script.proofs.outboxes.Outboxes.catch_up.Given as goal

abbrev pub invariant-loop-self : goal.invariant-loop-self
invariant-loop-self l = AreUnansweredListed l.self (map request_of l.net)

abbrev pub decreases-loop-self : goal.decreases-loop-self
decreases-loop-self l = length l.net - l.self.seen
