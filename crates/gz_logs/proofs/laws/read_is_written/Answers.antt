use Rattle.gz_logs.proofs.Tidied.{read_is_written}
use Rattle.gz_logs.proofs.laws.read_is_written.Goals as goal

pub returns : goal.returns
returns c = read_is_written
