use Rattle.std.proofs.Common.{rules}
use Rattle.gz_core.specs.Slots.{VotesFast}
use Rattle.gz_core.specs.Values.{name_of}
use Rattle.gz_accept.specs.Steps.{fast_voted}
use Rattle.gz_accept.proofs.Making.{made, makes_fast}
use Rattle.gz_accept.proofs.steps.fast_vote.Goals as goal

pub returns-in_ok-cast-in-Done-clause-makes : goal.returns-in_ok-cast-in-Done-clause-makes
returns-in_ok-cast-in-Done-clause-makes c =
    made (VotesFast c.args.v (name_of c.args.x.now)) c.args.row.now c.cast.new.row (fast_voted c.args.row.now c.args.v c.args.x.now) (makes_fast c.args.row.now c.args.v c.args.x.now (search rules)) (search rules)
