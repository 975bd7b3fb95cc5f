use Rattle.gz_code.proofs.OneSplit.{one_split}
use Rattle.gz_code.proofs.split_is_one.Goals as goal

pub returns : goal.returns
returns c k m object first second fits one other = one_split k m object first second fits one other
