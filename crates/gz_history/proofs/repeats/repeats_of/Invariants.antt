use Rattle.std.proofs.Common.{◌≡◌, length}
use Rattle.gz_history.specs.Index.{AreRepeats}
use Rattle.gz_history.proofs.repeats.repeats_of.Given as goal

abbrev pub invariant-loop-place : goal.invariant-loop-place
invariant-loop-place l = record {
  len : length l.repeats.items ≡ l.place;
  repeats : AreRepeats l.calls l.groups l.repeats.items;
}
