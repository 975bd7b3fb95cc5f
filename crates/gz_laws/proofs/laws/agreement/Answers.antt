use Rattle.gz_laws.proofs.Agreement as agreements
use Rattle.gz_laws.proofs.laws.agreement.Goals as goal

pub returns : goal.returns
returns c = agreements.agreement
