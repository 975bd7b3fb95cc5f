use Rattle.std.proofs.Common.{subst}
use Rattle.gz_round.specs.Floors.{AreRows}
use Rattle.gz_round.proofs.run.Run.top_floor.Goals as goal

pub returns-clause-rows : goal.returns-clause-rows
returns-clause-rows c = subst AreRows c.as_slice.ensures c.top_floor.ensures.rows
