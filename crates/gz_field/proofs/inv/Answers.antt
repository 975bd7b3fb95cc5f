use Rattle.std.proofs.Common.{arith}
use Rattle.gz_field.proofs.inv.Goals as goal
use Rattle.gz_field.proofs.Entries.{inverse_at}

pub returns : goal.returns
returns c = rw c.from.ensures (inverse_at c.args.a (omega arith) (omega arith))
