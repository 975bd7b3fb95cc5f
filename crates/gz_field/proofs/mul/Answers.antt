use Rattle.std.proofs.Common.{arith, ◌∙◌}
use Rattle.gz_field.proofs.mul.Goals as goal
use Rattle.gz_field.proofs.Entries.{looked_up}

pub returns : goal.returns
returns c = c.add.ensures ∙ rw (c.from-row.ensures, c.from.ensures, c.from-2.ensures) (looked_up c.args.a c.args.b (omega arith) (omega arith))
