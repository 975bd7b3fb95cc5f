use Rattle.std.proofs.Common.{◌≡◌, take, filter_map}
use Rattle.gz_lines.specs.Schedule.{line_of, AreFaultless}
use Rattle.gz_lines.proofs.Reading.{all_of}
use Rattle.gz_lines.proofs.schedule.lines_read.Given as goal

abbrev pub invariant-loop-i : goal.invariant-loop-i
invariant-loop-i l = record {
  faultless : AreFaultless (all_of l.texts) l.i;
  exact : l.lines.items ≡ filter_map line_of (all_of (take l.i l.texts));
}
