use Rattle.std.proofs.Common.{◌≡◌}
use Rattle.toml.specs.View.{table_view}
use Rattle.gz_settings.specs.Keys.{first_unknown}
use Rattle.gz_settings.proofs.Entries.{unknown_among}
use Rattle.gz_settings.proofs.read.first_unknown.Given as goal

abbrev pub invariant-loop-key : goal.invariant-loop-key
invariant-loop-key l = unknown_among l.key-iterator ≡ first_unknown (table_view l.table)
