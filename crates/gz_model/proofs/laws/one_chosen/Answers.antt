use Rattle.gz_model.proofs.Choices.{one_value}
use Rattle.gz_model.proofs.laws.one_chosen.Goals as goal

pub returns : goal.returns
returns c = one_value
