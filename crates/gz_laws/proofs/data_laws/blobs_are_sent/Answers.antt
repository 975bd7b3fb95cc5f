use Rattle.gz_laws.proofs.BlobsSent.{blobs_sent}
use Rattle.gz_laws.proofs.data_laws.blobs_are_sent.Goals as goal

pub returns : goal.returns
returns c = blobs_sent
