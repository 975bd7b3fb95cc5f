use Rattle.gz_data.proofs.Blobs.{puts_counted}
use Rattle.gz_data.proofs.puts_counted.Goals as goal

pub returns : goal.returns
returns c = puts_counted
