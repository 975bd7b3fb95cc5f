use Rattle.gz_laws.proofs.Legality as legality
use Rattle.gz_laws.proofs.laws.legal.Goals as goal

pub returns : goal.returns
returns c = legality.legal
