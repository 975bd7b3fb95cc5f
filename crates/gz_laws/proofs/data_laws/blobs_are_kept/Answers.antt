use Rattle.gz_laws.proofs.BlobsKept.{blobs_kept, blobs_stay}
use Rattle.gz_laws.proofs.data_laws.blobs_are_kept.Goals as goal

pub returns-clause-stored : goal.returns-clause-stored
returns-clause-stored c = blobs_kept

pub returns-clause-stay : goal.returns-clause-stay
returns-clause-stay c = blobs_stay
