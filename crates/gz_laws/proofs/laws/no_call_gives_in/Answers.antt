use Rattle.gz_laws.proofs.GoingOn.{going_on}
use Rattle.gz_laws.proofs.laws.no_call_gives_in.Goals as goal

pub returns : goal.returns
returns c = going_on
