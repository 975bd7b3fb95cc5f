use Rattle.gz_data.proofs.Digests.{digest_of_record}
use Rattle.gz_data.proofs.record_has_digest.Goals as goal

pub returns : goal.returns
returns c = digest_of_record
