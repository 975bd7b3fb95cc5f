use Rattle.std.proofs.Common.{rules}
use Rattle.gz_core.specs.Slots.{VotesClassic}
use Rattle.gz_core.specs.Values.{name_of}
use Rattle.gz_accept.specs.Steps.{classic_voted}
use Rattle.gz_accept.proofs.Making.{made, makes_classic}
use Rattle.gz_accept.proofs.steps.classic_vote.Goals as goal

pub returns-in_ok-cast-in-Done-clause-makes : goal.returns-in_ok-cast-in-Done-clause-makes
returns-in_ok-cast-in-Done-clause-makes c =
    made (VotesClassic c.args.v c.args.b (name_of c.args.x.now)) c.args.row.now c.cast.new.row (classic_voted c.args.row.now c.args.v c.args.b c.args.x.now) (makes_classic c.args.row.now c.args.v c.args.b c.args.x.now (search rules)) (search rules)
