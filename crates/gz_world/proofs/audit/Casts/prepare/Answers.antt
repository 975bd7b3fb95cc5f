use Rattle.std.proofs.Common.{◌∙◌, ap}
use Rattle.gz_world.specs.Audit.{with_casts, casts_of}
use Rattle.gz_world.proofs.Unlisted.{with_unlisted_casts}
use Rattle.gz_world.proofs.audit.Casts.prepare.Goals as goal

pub returns-clause-fresh : goal.returns-clause-fresh
returns-clause-fresh c = ap (with_casts c.args.self.now.list.items) c.in_ok-fresh.ensures.fresh ∙ with_unlisted_casts c.args.self.now.list.items (casts_of c.args.site c.args.key.now c.args.row.now)
