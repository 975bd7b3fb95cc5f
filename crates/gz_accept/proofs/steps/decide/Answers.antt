use Rattle.std.proofs.Common.{rules}
use Rattle.gz_core.specs.Slots.{Decides}
use Rattle.gz_core.specs.Values.{name_of}
use Rattle.gz_accept.specs.Steps.{decided}
use Rattle.gz_accept.proofs.Making.{made, makes_decision}
use Rattle.gz_accept.proofs.steps.decide.Goals as goal

pub returns-in_ok-put_column-in-Done-clause-makes : goal.returns-in_ok-put_column-in-Done-clause-makes
returns-in_ok-put_column-in-Done-clause-makes c =
    made (Decides c.args.v (name_of c.args.x.now)) c.args.row.now c.put_column.new.row (decided c.args.row.now c.args.v c.args.x.now) (makes_decision c.args.row.now c.args.v c.args.x.now (search rules)) (search (rules, c.in_ok-column-in-Done.ensures))
