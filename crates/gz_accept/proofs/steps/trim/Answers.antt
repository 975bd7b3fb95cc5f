use Rattle.std.proofs.Common.{rules}
use Rattle.gz_core.specs.Slots.{Trims}
use Rattle.gz_core.specs.Values.{name_of}
use Rattle.gz_accept.specs.Steps.{trimmed_to}
use Rattle.gz_accept.proofs.Making.{made, makes_trim}
use Rattle.gz_accept.proofs.steps.trim.Goals as goal

pub returns-in_ok-collect-in-Done-clause-makes : goal.returns-in_ok-collect-in-Done-clause-makes
returns-in_ok-collect-in-Done-clause-makes c =
    made (Trims c.args.to (name_of c.args.x.now)) c.args.row.now c.collect.new.row (trimmed_to c.args.row.now c.args.to c.args.x.now) (makes_trim c.args.row.now c.args.to c.args.x.now (search rules)) (search rules)
