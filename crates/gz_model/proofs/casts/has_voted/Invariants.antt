use Rattle.std.proofs.Common.{◌≡◌, false, ℕ, ◌<◌, ◌==◌, ◌&&◌, get_or}
use Rattle.gz_model.specs.Casts.{is_vote}
use Rattle.gz_model.specs.declared.casts.Cast.{Cast}
use Rattle.gz_model.proofs.casts.has_voted.Given as goal

abbrev pub invariant-loop-other : goal.invariant-loop-other
invariant-loop-other l = (k : ℕ) (d : Cast) → k < l.other-index → (((get_or l.casts k d).site == l.site) && is_vote (get_or l.casts k d) l.cast.key l.cast.version l.cast.ballot l.cast.name) ≡ false
