use Rattle.gz_laws.proofs.Running.{runs}
use Rattle.gz_laws.proofs.laws.object_runs.Goals as goal

pub returns : goal.returns
returns c = runs
