use Rattle.gz_accept.proofs.Rising.{row_put}
use Rattle.gz_accept.proofs.columns.put_column.Goals as goal

pub invariant_of-row : goal.invariant_of-row
invariant_of-row c =
    row_put c.args.row.now c.args.v c.args.column c.row.inside.floor c.row.inside.columns c.put.new.columns c.put.result c.row.view_is c.row.invariant c.requires.version c.requires.rule c.requires.free c.put.ensures.ok c.put.ensures.err
