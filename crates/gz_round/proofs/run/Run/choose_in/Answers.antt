use Rattle.std.proofs.Common.{inl, inr}
use Rattle.gz_round.specs.Acting.{CanAct}
use Rattle.gz_round.proofs.Proposals.{few_promises}
use Rattle.std.proofs.Common.{arith, ap, sym, subst}
use Rattle.gz_core.specs.Names.{BallotAt}
use Rattle.gz_round.specs.Acting.{ChoiceMeans}
use Rattle.gz_round.specs.Goals.{IsFewIn}
use Rattle.gz_round.proofs.Proposals.{chosen_means}
use Rattle.gz_round.proofs.run.Run.choose_in.Goals as goal

pub returns : goal.returns
returns c = λ w past ms a.
    subst (ChoiceMeans c.args.config.now w past c.args.self.now ms) (sym c.choice_of.ensures)
    (chosen_means c.args.config.now w past c.args.self.now ms c.args.version c.args.ballot c.args.found.now c.in_ok-heard.heard c.in_ok-value.value c.requires.stage a (omega (arith, c.if-self-ballot.false, ap (λ (b : BallotAt). b.round) c.ballot.view_is)) c.in_ok-heard.ensures (omega arith) c.in_ok-value.ensures)

pub returns-then-self-ballot : goal.returns-then-self-ballot
returns-then-self-ballot c = λ w past ms a. subst (IsFewIn c.args.config.now c.args.self.now) (sym c.requires.stage) (inl (omega (arith, c.if-self-ballot.true, ap (λ (b : BallotAt). b.round) c.ballot.view_is)))

pub promises-requires-clause-config : goal.promises-requires-clause-config
promises-requires-clause-config c = c.requires.config

pub promises-requires-clause-rows : goal.promises-requires-clause-rows
promises-requires-clause-rows c =
    let k : CanAct c.args.config.now c.args.self.now = c.requires.acts in
    k.3.ready.stands.knows.rows_len

pub returns-then-len-config : goal.returns-then-len-config
returns-then-len-config c = λ w past ms a.
    few_promises c.args.config.now c.args.self.now c.args.version c.args.ballot c.args.found.now c.in_ok-heard.heard c.requires.stage a.ready.stands.knows.rows_len c.in_ok-heard.ensures (inr (omega arith))

pub proposal-requires-clause-config : goal.proposal-requires-clause-config
proposal-requires-clause-config c = c.requires.config

pub proposal-requires-clause-sites : goal.proposal-requires-clause-sites
proposal-requires-clause-sites c = c.in_ok-heard.ensures.sites

pub proposal-requires-clause-quorum : goal.proposal-requires-clause-quorum
proposal-requires-clause-quorum c = omega arith

pub proposal-requires-clause-heard : goal.proposal-requires-clause-heard
proposal-requires-clause-heard c = (c.args.ballot, c.in_ok-heard.ensures.rows_are)
