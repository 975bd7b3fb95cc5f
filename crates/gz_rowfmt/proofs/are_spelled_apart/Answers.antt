use Rattle.gz_rowfmt.proofs.Records.{spelled_apart}
use Rattle.gz_rowfmt.proofs.are_spelled_apart.Goals as goal

pub returns : goal.returns
returns c = spelled_apart
