use Rattle.gz_round.specs.Standing.{mark_of}
use Rattle.gz_round.specs.Sites.{site_now, known}
use Rattle.gz_round.proofs.Phases.{left_in}
use Rattle.gz_round.proofs.Replies.{ready_gave_up}
use Rattle.gz_round.proofs.run.Run.note_give_up.Goals as goal

pub returns-clause-ready : goal.returns-clause-ready
returns-clause-ready c = λ k w past ms a l awaits r. ready_gave_up k w past c.args.self.now c.leave.new.self ms c.args.at a l awaits r (c.leave.ensures (mark_of (site_now ms c.args.at)) (known (site_now ms c.args.at)) (r.stands.knows.marks c.args.at l) (r.stands.knows.rows c.args.at l))

pub returns-clause-stage : goal.returns-clause-stage
returns-clause-stage c = left_in c.args.self.now c.leave.new.self c.args.at c.requires.rows c.requires.marks c.leave.ensures
