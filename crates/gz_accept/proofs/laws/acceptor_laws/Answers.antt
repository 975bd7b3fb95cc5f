use Rattle.gz_accept.proofs.Forward.{promises_rise, votes_rise, decisions_stay, collected_stays}
use Rattle.gz_accept.proofs.laws.acceptor_laws.Goals as goal

pub returns-clause-promises : goal.returns-clause-promises
returns-clause-promises c = promises_rise

pub returns-clause-votes : goal.returns-clause-votes
returns-clause-votes c = votes_rise

pub returns-clause-decisions : goal.returns-clause-decisions
returns-clause-decisions c = decisions_stay

pub returns-clause-collected : goal.returns-clause-collected
returns-clause-collected c = collected_stays
