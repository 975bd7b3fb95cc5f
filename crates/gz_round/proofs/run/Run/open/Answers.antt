use Rattle.std.proofs.Common.{ap, ◌∙◌}
use Rattle.gz_round.specs.Starting.{reads_from}
use Rattle.gz_round.proofs.Opens.{opens, unread_first}
use Rattle.gz_round.specs.Following.{IsReady}
use Rattle.gz_round.proofs.run.Run.open.Goals as goal

pub returns-clause-reads : goal.returns-clause-reads
returns-clause-reads c = λ w past ms r blobs.
    c.in_ok-send.ensures.reads (unread_first c.args.config.now w past c.args.self.now ms blobs r.stands) ∙ ap (λ key. reads_from key 0 c.args.config.now.n) r.stands.key_is

pub returns-clause-runs : goal.returns-clause-runs
returns-clause-runs c = λ w past ms r blobs.
    let done = c.in_ok-send.ensures.asked w past ms (record { stands = r.stands; may = tt; held = tt; unnoticed = r.unnoticed }) in
    opens c.args.config.now w past c.args.self.now c.first_pass.new.self ms c.args.first c.in_ok-send.send c.requires.config blobs r c.requires.stage done c.in_ok-send.ensures.left

pub first_pass-requires-clause-asks : goal.first_pass-requires-clause-asks
first_pass-requires-clause-asks c =
    let k : IsReady c.args.config.now c.args.self.now = c.requires.ready in
    (k.0, k.1, k.2, record { stands = k.3.stands; may = tt; held = tt; unnoticed = k.3.unnoticed })
