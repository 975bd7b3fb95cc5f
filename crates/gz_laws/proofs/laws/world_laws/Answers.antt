use Rattle.gz_laws.proofs.Listing.{listed}
use Rattle.gz_laws.proofs.Carrying.{carried}
use Rattle.gz_laws.proofs.Placing.{placed, history}
use Rattle.gz_laws.proofs.Exchanging.{exchanged}
use Rattle.gz_laws.proofs.Recording.{recorded}
use Rattle.gz_laws.proofs.laws.world_laws.Goals as goal

pub returns-clause-listed : goal.returns-clause-listed
returns-clause-listed c = listed

pub returns-clause-carried : goal.returns-clause-carried
returns-clause-carried c = carried

pub returns-clause-placed : goal.returns-clause-placed
returns-clause-placed c = placed

pub returns-clause-recorded : goal.returns-clause-recorded
returns-clause-recorded c = recorded

pub returns-clause-exchanged : goal.returns-clause-exchanged
returns-clause-exchanged c = exchanged

pub returns-clause-history : goal.returns-clause-history
returns-clause-history c = history
