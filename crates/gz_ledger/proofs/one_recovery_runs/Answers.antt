use Rattle.gz_ledger.proofs.OneRecovery as recovery
use Rattle.gz_ledger.proofs.one_recovery_runs.Goals as goal

pub returns : goal.returns
returns c = recovery.one_recovery_runs
