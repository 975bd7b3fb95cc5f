use Rattle.gz_ledger.proofs.More as more
use Rattle.gz_ledger.proofs.may_more.Goals as goal

pub returns : goal.returns
returns c = more.may_more
