use Rattle.std.proofs.Common.{ap, ◌∙◌}
use Rattle.std.specs.Prelude.{nat_lt}
use Rattle.gz_round.specs.Awaiting.{is_mark_live}
use Rattle.gz_round.proofs.Lists.{any_counted}
use Rattle.gz_round.proofs.run.Run.waits.Goals as goal

pub returns : goal.returns
returns c = ap (nat_lt 0) c.live_count.ensures ∙ any_counted is_mark_live c.args.self.now.marks
