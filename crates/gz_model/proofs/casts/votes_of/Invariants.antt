use Rattle.std.proofs.Common.{◌≡◌, ◌≤◌}
use Rattle.gz_core.specs.Counts.{count_sites}
use Rattle.gz_model.specs.Casts.{has_cast}
use Rattle.gz_model.proofs.casts.votes_of.Given as goal

abbrev pub invariant-loop-site : goal.invariant-loop-site
invariant-loop-site l = (l.votes ≡ count_sites l.site (has_cast l.casts l.cast.key l.cast.version l.cast.ballot l.cast.name)) × (l.votes ≤ l.site)
