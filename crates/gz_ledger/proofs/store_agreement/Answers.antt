use Rattle.gz_ledger.proofs.Forced.{store_forced}
use Rattle.gz_ledger.proofs.Stores.{store_agreed, store_latest, store_above}
use Rattle.gz_ledger.proofs.store_agreement.Goals as goal

pub returns-clause-agreed : goal.returns-clause-agreed
returns-clause-agreed c = store_agreed

pub returns-clause-latest : goal.returns-clause-latest
returns-clause-latest c = store_latest

pub returns-clause-above : goal.returns-clause-above
returns-clause-above c = store_above

pub returns-clause-forced : goal.returns-clause-forced
returns-clause-forced c = store_forced
