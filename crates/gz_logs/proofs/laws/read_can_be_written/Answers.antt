use Rattle.gz_logs.proofs.ReadFits.{read_can_be_written}
use Rattle.gz_logs.proofs.laws.read_can_be_written.Goals as goal

pub returns : goal.returns
returns c = read_can_be_written
