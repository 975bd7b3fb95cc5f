use Rattle.std.proofs.Common.{◌&&◌, take}
use Rattle.gz_model.specs.Sites.{has_site, IsLeastSite}
use Rattle.gz_model.proofs.sites.meet.Given as goal

abbrev pub invariant-loop-site : goal.invariant-loop-site
invariant-loop-site l = IsLeastSite (λ s. has_site (take l.site-index l.a) s && has_site l.b s) l.least
