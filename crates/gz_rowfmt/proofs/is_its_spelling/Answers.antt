use Rattle.gz_rowfmt.proofs.Records.{row_takes}
use Rattle.gz_rowfmt.proofs.is_its_spelling.Goals as goal

pub returns : goal.returns
returns c = λ bytes row fits read. row_takes bytes row fits read
