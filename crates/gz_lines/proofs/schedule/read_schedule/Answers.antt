use Rattle.gz_lines.proofs.Bounds.{reads_bounded}
use Rattle.gz_lines.proofs.Reading.{reads_few}
use Rattle.gz_lines.proofs.schedule.read_schedule.Goals as goal

pub returns-in-Ok-clause-few : goal.returns-in-Ok-clause-few
returns-in-Ok-clause-few c = reads_few c.args.bytes.now c.in-Ok.lines c.in-Ok.ensures

pub returns-in-Ok-clause-bounded : goal.returns-in-Ok-clause-bounded
returns-in-Ok-clause-bounded c = reads_bounded c.args.bytes.now c.in-Ok.lines c.in-Ok.ensures
