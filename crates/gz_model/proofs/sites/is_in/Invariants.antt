use Rattle.std.proofs.Common.{◌≡◌, false, ℕ, ◌<◌, ◌==◌, get_or}
use Rattle.gz_model.proofs.sites.is_in.Given as goal

abbrev pub invariant-loop-other : goal.invariant-loop-other
invariant-loop-other l = (k : ℕ) → k < l.other-index → (get_or l.sites k 0 == l.site) ≡ false
