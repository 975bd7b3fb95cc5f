use Rattle.gz_laws.proofs.Overtaking.{overtaken}
use Rattle.gz_laws.proofs.laws.overtaken_only_by_writes.Goals as goal

pub returns : goal.returns
returns c = overtaken
