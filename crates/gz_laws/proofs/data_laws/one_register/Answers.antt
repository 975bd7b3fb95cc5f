use Rattle.gz_laws.proofs.OneRegister.{one_register}
use Rattle.gz_laws.proofs.data_laws.one_register.Goals as goal

pub returns : goal.returns
returns c = one_register
