use Rattle.gz_laws.proofs.Collecting.{floors_due}
use Rattle.gz_laws.proofs.laws.floors_are_due.Goals as goal

pub returns : goal.returns
returns c = floors_due
