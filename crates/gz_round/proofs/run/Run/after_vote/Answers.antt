use Rattle.std.proofs.Common.{◌+◌, subst, arith}
use Rattle.gz_round.specs.Evidence.{NoneEvident}
use Rattle.gz_round.proofs.Follows.{pass_at}
use Rattle.gz_round.proofs.Phases.{at_onward}
use Rattle.gz_round.proofs.run.Run.after_vote.Goals as goal

pub returns-in-Some : goal.returns-in-Some
returns-in-Some c = λ w past ms r. c.found.ensures w past ms r.stands (pass_at c.args.config.now w past ms c.args.version c.args.self.now.stage r.stands.writes c.requires.stage r.stage) (at_onward c.args.config.now c.args.self.now ms c.args.version (c.args.version + 1) c.requires.stage (omega arith))

pub unless_collected-requires-clause-none : goal.unless_collected-requires-clause-none
unless_collected-requires-clause-none c = subst (λ rows. NoneEvident c.args.config.now rows c.args.version) c.as_slice.ensures c.in-None.ensures
