use Rattle.std.proofs.Common.{◌≡◌, ◌≤◌, take, count_by}
use Rattle.gz_cli.specs.Worlds.{is_skipped}
use Rattle.gz_cli.proofs.replay.skipped.Given as goal

abbrev pub invariant-loop-entry : goal.invariant-loop-entry
invariant-loop-entry l = record {
  counted : l.skipped ≡ count_by is_skipped (take l.entry-index l.journal);
  few : l.skipped ≤ l.entry-index;
}
