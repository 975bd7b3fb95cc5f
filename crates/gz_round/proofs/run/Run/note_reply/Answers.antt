use Rattle.std.proofs.Common.{◌∙◌, ap}
use Rattle.gz_round.specs.Noting.{noted_by, written_at}
use Rattle.gz_round.specs.Sites.{as_heard, seen_in}
use Rattle.gz_round.proofs.Replies.{ready_handed}
use Rattle.gz_round.proofs.Phases.{noted_in}
use Rattle.gz_round.proofs.run.Run.note_reply.Goals as goal

pub returns-clause-ready : goal.returns-clause-ready
returns-clause-ready c = λ w past ms a l awaits r.
    ready_handed c.args.config.now w past c.args.self.now c.note.new.self ms c.args.at a c.args.answer.now l awaits r (λ mark row e there.
    c.note.ensures mark row e there ∙ (ap (λ s. noted_by c.args.self.now c.args.at mark row s c.is_changed.result) (c.in_ok-seen.ensures mark e) ∙ ap (noted_by c.args.self.now c.args.at mark row (seen_in (written_at mark) (as_heard c.args.config.now.n (written_at mark) c.args.answer.now))) c.is_changed.ensures))

pub returns-clause-stage : goal.returns-clause-stage
returns-clause-stage c = noted_in c.args.self.now c.note.new.self c.args.at c.in_ok-seen.seen c.is_changed.result c.requires.rows c.requires.marks c.note.ensures
