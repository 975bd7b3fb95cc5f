use Rattle.std.proofs.Common.{sym, subst}
use Rattle.gz_round.specs.Awaiting.{IsSiteOf}
use Rattle.gz_round.proofs.run.Run.site_of.Goals as goal

pub unreachable-requires : goal.unreachable-requires
unreachable-requires c = c.in-None.ensures c.requires.0 (subst (λ marks. IsSiteOf marks c.args.n c.requires.0) (sym c.as_slice.ensures) c.requires.1)
