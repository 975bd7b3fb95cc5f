use Rattle.std.proofs.Common.{◌≡◌, None, refl, sym, subst}
use Rattle.gz_round.specs.LookBack.{IsLookedBack}
use Rattle.gz_core.specs.History.{sent_from}
use Rattle.gz_round.specs.Following.{HasTurned}
use Rattle.gz_round.specs.Acting.{CanPrepare}
use Rattle.gz_round.proofs.Turns.{going_sent, undecided_sent}
use Rattle.gz_round.proofs.Prepares.{prepared_asks, prepared_last, prepared_turned, looked_back}
use Rattle.gz_round.proofs.Phases.{prepared_no_vote}
use Rattle.gz_round.proofs.run.Run.promise.Goals as goal

pub first_pass-requires-clause-asks : goal.first_pass-requires-clause-asks
first_pass-requires-clause-asks c =
    let k : CanPrepare c.args.config.now c.args.self.now c.args.version = c.requires.prepares in
    (k.0, k.1, k.2, prepared_asks c.args.config.now k.0 k.1 c.args.self.now k.2 c.args.version c.args.ballot c.in_ok-found.found k.3 c.requires.ballot)

pub returns-clause-turned : goal.returns-clause-turned
returns-clause-turned c = λ w past ms p.
    let done = c.in_ok-send.ensures.asked w past ms (prepared_asks c.args.config.now w past c.args.self.now ms c.args.version c.args.ballot c.in_ok-found.found p c.requires.ballot) in
    let back : w.own ≡ None → IsLookedBack c.args.config.now (sent_from c.args.first c.in_ok-send.send ms) c.args.version c.args.ballot c.in_ok-found.found = λ reads. looked_back c.args.config.now w past c.args.self.now ms c.args.first c.in_ok-send.send c.args.version c.args.ballot c.in_ok-found.found p c.requires.ballot (c.in_ok-found.ensures w past ms p.stands reads) in
    subst (HasTurned c.args.config.now w past c.first_pass.new.self (sent_from c.args.first c.in_ok-send.send ms)) (sym c.prepared-outcome.ensures)
    (prepared_turned c.args.config.now w past c.args.self.now c.first_pass.new.self ms c.args.version c.args.ballot c.in_ok-found.found (sent_from c.args.first c.in_ok-send.send ms) c.requires.config p c.requires.ballot (going_sent c.args.config.now c.args.first c.in_ok-send.send ms p.going) (undecided_sent c.args.config.now c.args.version c.args.first c.in_ok-send.send ms p.none) back done c.in_ok-send.ensures.left)

pub returns-clause-ends : goal.returns-clause-ends
returns-clause-ends c = prepared_last c.first_pass.new.self c.in_ok-send.send c.prepared-outcome.result (c.in_ok-send.ensures.idle refl) c.prepared-outcome.ensures

pub look_back-requires-clause-config : goal.look_back-requires-clause-config
look_back-requires-clause-config c = c.requires.config

pub look_back-requires-clause-rows : goal.look_back-requires-clause-rows
look_back-requires-clause-rows c =
    let k : CanPrepare c.args.config.now c.args.self.now c.args.version = c.requires.prepares in
    k.3.stands.knows.rows_len

pub look_back-requires-clause-marks : goal.look_back-requires-clause-marks
look_back-requires-clause-marks c =
    let k : CanPrepare c.args.config.now c.args.self.now c.args.version = c.requires.prepares in
    k.3.stands.knows.marks_len

pub first_pass-requires-clause-config : goal.first_pass-requires-clause-config
first_pass-requires-clause-config c = c.requires.config

pub first_pass-requires-clause-first : goal.first_pass-requires-clause-first
first_pass-requires-clause-first c = c.requires.first

pub first_pass-requires-clause-step : goal.first_pass-requires-clause-step
first_pass-requires-clause-step c =
    let k : CanPrepare c.args.config.now c.args.self.now c.args.version = c.requires.prepares in
    (k.3.pass.above, c.requires.ballot.classic)

pub returns-clause-fast : goal.returns-clause-fast
returns-clause-fast c = prepared_no_vote c.args.self.now.stage c.first_pass.new.self.stage c.args.version c.args.ballot c.in_ok-found.found c.in_ok-send.ensures.left.stage
