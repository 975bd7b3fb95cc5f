use Rattle.gz_ledger.proofs.Orders as orders
use Rattle.gz_ledger.proofs.agreement.Goals as goal

pub returns-clause-agreed : goal.returns-clause-agreed
returns-clause-agreed c = orders.agreement

pub returns-clause-latest : goal.returns-clause-latest
returns-clause-latest c = orders.latest

pub returns-clause-above : goal.returns-clause-above
returns-clause-above c = orders.above
