use Rattle.gz_data.proofs.Blobs.{asked_comes}
use Rattle.gz_data.proofs.asked_comes.Goals as goal

pub returns : goal.returns
returns c = asked_comes
