use Rattle.std.proofs.Common.{◌≡◌, ◌<◌, ℕ, length, Some}
use Rattle.std.specs.List.{slice_get}
use Rattle.gz_round.specs.Starting.{fresh_mark}
use Rattle.gz_round.proofs.starting.fresh_marks.Given as goal

abbrev pub invariant-loop-site : goal.invariant-loop-site
invariant-loop-site l = (length l.marks ≡ l.site) × ((s : ℕ) → s < l.site → slice_get l.marks s ≡ Some fresh_mark)
