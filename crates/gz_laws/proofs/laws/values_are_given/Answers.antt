use Rattle.gz_laws.proofs.Valuing.{valued}
use Rattle.gz_laws.proofs.laws.values_are_given.Goals as goal

pub returns : goal.returns
returns c = valued
