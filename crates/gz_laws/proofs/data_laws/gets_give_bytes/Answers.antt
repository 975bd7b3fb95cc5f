use Rattle.gz_laws.proofs.GivenBack.{given_back}
use Rattle.gz_laws.proofs.data_laws.gets_give_bytes.Goals as goal

pub returns : goal.returns
returns c = given_back
