use Rattle.std.proofs.Common.{◌++◌, ◌∙◌, ap, length, sym, subst, inl, inr, arith}
use Rattle.std.proofs.lemmas.Bool.{both_ways}
use Rattle.gz_round.specs.Following.{CanAsk}
use Rattle.gz_core.specs.History.{sent_from}
use Rattle.gz_round.specs.Starting.{AreForRows, MakeNoStep, ReadAlone, reads_from}
use Rattle.gz_round.specs.Acting.{is_waiting}
use Rattle.gz_round.proofs.Passes.{none_alone, none_requested, none_stepless}
use Rattle.gz_round.specs.Following.{Asks, HasAsked}
use Rattle.gz_round.proofs.run.Run.first_pass.Goals as goal

pub returns-clause-asked : goal.returns-clause-asked
returns-clause-asked c = λ w past ms k.
    subst (λ outs. HasAsked c.args.config.now w past c.ask_all.new.self (sent_from c.args.first outs ms) (sent_from c.args.first c.ask_all.new.send ms) c.args.step.now) c.new-send.ensures
    (c.in_ok-ask_all.ensures.asked w past ms (subst (λ outs. Asks c.args.config.now w past c.args.self.now (sent_from c.args.first outs ms) c.args.step.now) (sym c.new-send.ensures) k))

pub ask_all-requires-clause-config : goal.ask_all-requires-clause-config
ask_all-requires-clause-config c = c.requires.config

pub ask_all-requires-clause-first : goal.ask_all-requires-clause-first
ask_all-requires-clause-first c = c.requires.first

pub ask_all-requires-clause-step : goal.ask_all-requires-clause-step
ask_all-requires-clause-step c = c.requires.step

pub ask_all-requires-clause-few : goal.ask_all-requires-clause-few
ask_all-requires-clause-few c = omega (arith, ap length c.new-send.ensures)

pub ask_all-requires-clause-asks : goal.ask_all-requires-clause-asks
ask_all-requires-clause-asks c = subst (λ outs. CanAsk c.args.config.now c.args.self.now c.args.first outs c.args.step.now) (sym c.new-send.ensures) c.requires.asks

pub returns-clause-left : goal.returns-clause-left
returns-clause-left c = c.in_ok-ask_all.ensures.left

pub returns-clause-reads : goal.returns-clause-reads
returns-clause-reads c = λ unread. c.in_ok-ask_all.ensures.reads unread ∙ ap (λ outs. outs ++ reads_from c.args.self.now.key 0 c.args.config.now.n) c.new-send.ensures

pub returns-clause-sends : goal.returns-clause-sends
returns-clause-sends c =
    let sites = c.requires.config.sites in
    record {
      rows = c.in_ok-ask_all.ensures.rows (subst AreForRows (sym c.new-send.ensures) none_requested.rows);
      rising = c.in_ok-ask_all.ensures.rising c.new-send.ensures;
      few = omega (arith, c.in_ok-ask_all.ensures.few, ap length c.new-send.ensures);
    }

pub returns-clause-stepless : goal.returns-clause-stepless
returns-clause-stepless c = λ notice. c.in_ok-ask_all.ensures.stepless notice (subst MakeNoStep (sym c.new-send.ensures) none_stepless)

pub returns-clause-idle : goal.returns-clause-idle
returns-clause-idle c = λ plain quiet. elim (c.in_ok-ask_all.ensures.idle plain) [
  | inl same ↦ same ∙ c.new-send.ensures
  | inr waits ↦ absurd (both_ways (is_waiting c.ask_all.new.self) quiet waits)
]

pub returns-clause-alone : goal.returns-clause-alone
returns-clause-alone c = λ none. c.in_ok-ask_all.ensures.alone none (subst ReadAlone (sym c.new-send.ensures) none_alone)
