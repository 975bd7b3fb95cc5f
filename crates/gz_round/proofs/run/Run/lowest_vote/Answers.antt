use Rattle.std.proofs.Common.{None, Some, sym, arith}
use Rattle.gz_round.proofs.LookBacks.{lowest_skip, lowest_here, last_told}
use Rattle.gz_round.proofs.run.Run.lowest_vote.Goals as goal

pub returns-in-Some : goal.returns-in-Some
returns-in-Some c = λ f votes.
    sym (lowest_here c.args.config.now.n c.loop-at.at f c.in-Some.value.now (omega arith) (c.loop-at.invariant f votes) (last_told c.args.self.now c.args.version c.loop-at.at f (Some c.in-Some.value.now) votes (omega arith) (omega arith) c.in-Some.ensures))

pub loop-at-preserved : goal.loop-at-preserved
loop-at-preserved c = λ f votes.
    lowest_skip c.loop-at.at f (c.loop-at.invariant f votes) (last_told c.args.self.now c.args.version c.loop-at.at f None votes (omega arith) (omega arith) c.in-None.ensures)
