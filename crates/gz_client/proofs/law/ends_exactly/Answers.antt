use Rattle.gz_client.proofs.Exactly.{exactly}
use Rattle.gz_client.proofs.law.ends_exactly.Goals as goal

pub returns : goal.returns
returns c = exactly
