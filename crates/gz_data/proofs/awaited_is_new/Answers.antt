use Rattle.gz_data.proofs.Fresh.{awaited_is_new}
use Rattle.gz_data.proofs.awaited_is_new.Goals as goal

pub returns : goal.returns
returns c = awaited_is_new
