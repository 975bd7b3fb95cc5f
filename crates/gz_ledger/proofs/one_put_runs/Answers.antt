use Rattle.gz_ledger.proofs.OnePut as put
use Rattle.gz_ledger.proofs.one_put_runs.Goals as goal

pub returns : goal.returns
returns c = put.one_put_runs
