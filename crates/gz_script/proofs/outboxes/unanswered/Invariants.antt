use Rattle.std.proofs.Common.{◌≡◌, take, map}
use Rattle.gz_world.specs.States.{request_of}
use Rattle.gz_script.specs.Plays.{unanswered}
use Rattle.gz_script.proofs.outboxes.unanswered.Given as goal

abbrev pub invariant-loop-n : goal.invariant-loop-n
invariant-loop-n l = l.found ≡ unanswered (map request_of l.net) (take l.n-index l.numbers)
