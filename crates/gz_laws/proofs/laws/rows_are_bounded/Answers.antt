use Rattle.gz_laws.proofs.WorldBounds.{by_requests, by_events, can_stand_all}
use Rattle.gz_laws.proofs.laws.rows_are_bounded.Goals as goal

pub returns-clause-requests : goal.returns-clause-requests
returns-clause-requests c = by_requests

pub returns-clause-events : goal.returns-clause-events
returns-clause-events c = by_events

pub returns-clause-stand : goal.returns-clause-stand
returns-clause-stand c = can_stand_all
