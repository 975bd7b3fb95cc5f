use Rattle.std.proofs.Common.{◌+◌, None, length, ◌∙◌, ap}
use Rattle.std.specs.List.{slice_get}
use Rattle.std.proofs.lemmas.List.{length_push}
use Rattle.gz_round.proofs.Lists.{each_pushed}
use Rattle.gz_round.proofs.starting.no_rows.Goals as goal

pub loop-site-preserved : goal.loop-site-preserved
loop-site-preserved c = (
  ap length c.in_ok-push.ensures.ok ∙ (length_push c.loop-site.rows None ∙ ap (λ n. n + 1) c.loop-site.invariant.0),
  λ s l. ap (λ xs. slice_get xs s) c.in_ok-push.ensures.ok ∙ each_pushed c.loop-site.rows None c.loop-site.site c.loop-site.invariant.0 c.loop-site.invariant.1 s l,
)
