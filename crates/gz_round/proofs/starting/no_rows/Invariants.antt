use Rattle.std.proofs.Common.{◌≡◌, ◌<◌, ℕ, length, Some, None}
use Rattle.std.specs.List.{slice_get}
use Rattle.gz_round.proofs.starting.no_rows.Given as goal

abbrev pub invariant-loop-site : goal.invariant-loop-site
invariant-loop-site l = (length l.rows ≡ l.site) × ((s : ℕ) → s < l.site → slice_get l.rows s ≡ Some None)
