use Rattle.std.proofs.Common.{◌+◌, ◌-◌}
use Rattle.gz_pick.specs.Looks.{highest_of}
use Rattle.gz_round.proofs.run.Run.+after_chosen.Given as goal

abbrev pub decreases-after_chosen : goal.decreases-after_chosen
decreases-after_chosen l = highest_of l.self.now.rows + 1 - l.version
