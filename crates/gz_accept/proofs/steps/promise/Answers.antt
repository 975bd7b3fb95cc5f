use Rattle.std.proofs.Common.{rules}
use Rattle.gz_core.specs.Slots.{Promises}
use Rattle.gz_accept.specs.Steps.{promised}
use Rattle.gz_accept.proofs.Making.{made, makes_promise, promise_rule}
use Rattle.gz_accept.proofs.steps.promise.Goals as goal

pub returns-in_ok-put_column-in-Done-clause-makes : goal.returns-in_ok-put_column-in-Done-clause-makes
returns-in_ok-put_column-in-Done-clause-makes c =
    made (Promises c.args.v c.args.b) c.args.row.now c.put_column.new.row (promised c.args.row.now c.args.v c.args.b) (makes_promise c.args.row.now c.args.v c.args.b (search rules)) (search rules)

pub put_column-requires-clause-rule : goal.put_column-requires-clause-rule
put_column-requires-clause-rule c = promise_rule c.args.row.now c.args.v c.args.b c.in_ok-vote-in-Done.vote (search rules) c.requires.ballot (search rules) (search rules)
