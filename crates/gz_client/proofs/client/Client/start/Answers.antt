use Rattle.std.proofs.Common.{◌≡◌, List, [], IfOk, subst}
use Rattle.gz_core.specs.Calls.{key_of}
use Rattle.gz_core.specs.History.{Caller, Trace}
use Rattle.gz_round.specs.Following.{Ready}
use Rattle.gz_round.specs.Rounds.{top_rounds}
use Rattle.gz_round.specs.Standing.{IsNamed, WritesLatest}
use Rattle.gz_round.specs.Targets.{target_of}
use Rattle.gz_client.proofs.client.Client.start.Goals as goal

pub returns-clause-ready : goal.returns-clause-ready
returns-clause-ready c =
    subst (λ key. IfOk c.start.result (λ run. (w : Caller) (past : List Trace) → w.name ≡ c.args.name → key_of w.call ≡ key → target_of w.call ≡ c.args.target → w.own ≡ c.args.own → IsNamed w.name w.own → WritesLatest w → top_rounds past ≡ c.args.self.now.round → Ready c.args.self.now.config w past run []))
    c.in_ok-key.ensures c.start.ensures.ready
