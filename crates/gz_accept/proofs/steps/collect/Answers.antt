use Rattle.std.proofs.Common.{rules}
use Rattle.gz_accept.proofs.Rising.{row_collected}
use Rattle.gz_accept.proofs.steps.collect.Goals as goal

pub invariant_of-row-2 : goal.invariant_of-row-2
invariant_of-row-2 c =
    row_collected c.args.row.now c.args.to c.args.x.now c.row.inside.floor c.row.inside.columns c.keep_above.new.columns c.row.view_is c.row.invariant c.requires.above (search (rules, c.in_ok-column.ensures, c.in_ok-put.ensures))
