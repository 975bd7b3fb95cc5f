use Rattle.gz_model.proofs.Choices.{allowed_safe}
use Rattle.gz_model.proofs.laws.allowed_is_safe.Goals as goal

pub returns : goal.returns
returns c = allowed_safe
