use Rattle.gz_round.proofs.Passes.{inside_rows, inside_marks}
use Rattle.std.proofs.Common.{◌≡◌, ℕ, ◌++◌, ◌∙◌, ap, subst, arith}
use Rattle.gz_round.specs.Starting.{reads_from}
use Rattle.gz_round.proofs.Passes.{Going, going_none, going_more, going_all}
use Rattle.gz_round.proofs.run.Run.ask_all.Goals as goal

pub loop-at-init : goal.loop-at-init
loop-at-init c = going_none c.args.config.now c.args.self.now c.args.step.now c.args.first c.args.send.now

pub loop-at-preserved : goal.loop-at-preserved
loop-at-preserved c = going_more c.args.config.now c.args.self.now c.loop-at.self c.ask.new.self c.args.step.now c.args.first c.args.send.now c.loop-at.send c.ask.new.send c.loop-at.at c.requires.asks (omega arith) c.in_ok-ask.ensures.few c.in_ok-ask.ensures.asked c.loop-at.invariant

pub returns-clause-asked : goal.returns-clause-asked
returns-clause-asked c =
    let done : c.loop-at.at ≡ c.args.config.now.n = omega arith in
    going_all c.args.config.now c.args.self.now c.loop-at.self c.args.step.now c.args.first c.args.send.now c.loop-at.send (subst (Going c.args.config.now c.args.self.now c.loop-at.self c.args.step.now c.args.first c.args.send.now c.loop-at.send) done c.loop-at.invariant)

pub ask-requires-clause-site : goal.ask-requires-clause-site
ask-requires-clause-site c =
    let sites = c.requires.config.sites in
    omega arith

pub ask-requires-clause-rows : goal.ask-requires-clause-rows
ask-requires-clause-rows c = omega (arith, inside_rows c.args.config.now c.args.self.now c.loop-at.self c.args.step.now c.args.first c.args.send.now c.loop-at.send c.loop-at.at c.requires.asks c.loop-at.invariant)

pub ask-requires-clause-marks : goal.ask-requires-clause-marks
ask-requires-clause-marks c = omega (arith, inside_marks c.args.config.now c.args.self.now c.loop-at.self c.args.step.now c.args.first c.args.send.now c.loop-at.send c.loop-at.at c.requires.asks c.loop-at.invariant)

pub ask-requires-clause-step : goal.ask-requires-clause-step
ask-requires-clause-step c = c.requires.step

pub ask-requires-clause-first : goal.ask-requires-clause-first
ask-requires-clause-first c = c.requires.first

pub ask-requires-clause-few : goal.ask-requires-clause-few
ask-requires-clause-few c =
    let sites = c.requires.config.sites in
    let few = c.loop-at.invariant.few in
    omega (arith, c.requires.few)

pub returns-clause-rows : goal.returns-clause-rows
returns-clause-rows c = c.loop-at.invariant.rows

pub returns-clause-reads : goal.returns-clause-reads
returns-clause-reads c = λ unread.
    let done : c.loop-at.at ≡ c.args.config.now.n = omega arith in
    (c.loop-at.invariant.reads unread).sent_is ∙ ap (λ (n : ℕ). c.args.send.now ++ reads_from c.args.self.now.key 0 n) done

pub returns-clause-left : goal.returns-clause-left
returns-clause-left c = c.loop-at.invariant.left

pub returns-clause-few : goal.returns-clause-few
returns-clause-few c =
    let few = c.loop-at.invariant.few in
    omega arith

pub returns-clause-rising : goal.returns-clause-rising
returns-clause-rising c = λ none. (c.loop-at.invariant.rising none).0

pub returns-clause-stepless : goal.returns-clause-stepless
returns-clause-stepless c = c.loop-at.invariant.stepless

pub returns-clause-idle : goal.returns-clause-idle
returns-clause-idle c = c.loop-at.invariant.idle

pub returns-clause-alone : goal.returns-clause-alone
returns-clause-alone c = c.loop-at.invariant.alone
