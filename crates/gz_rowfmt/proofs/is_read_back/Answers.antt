use Rattle.gz_rowfmt.proofs.Records.{row_again}
use Rattle.gz_rowfmt.proofs.is_read_back.Goals as goal

pub returns : goal.returns
returns c = row_again
