use Rattle.std.proofs.Common.{[], subst}
use Rattle.std.proofs.lemmas.Result.{IfOk-weaker}
use Rattle.gz_data.specs.Blobs.{Abandoned}
use Rattle.gz_data.specs.Gathered.{IsGathered}
use Rattle.gz_data.proofs.gathering.Gathering.lose.Goals as goal

pub come_to-requires : goal.come_to-requires
come_to-requires c = (c.args.self.now, [], Abandoned, record { rules = subst IsGathered c.self.view_is c.self.invariant.0; waited = c.requires.waited; is = c.give_up.ensures.given_up })

pub returns-clause-same : goal.returns-clause-same
returns-clause-same c =
    c.come_to.ensures.back c.args.self.now [] Abandoned (record { rules = subst IsGathered c.self.view_is c.self.invariant.0; waited = c.requires.waited; is = c.give_up.ensures.given_up })

pub returns-clause-heard : goal.returns-clause-heard
returns-clause-heard c =
    IfOk-weaker c.come_to.result _ _ (λ heard told. λ key. told c.args.self.now key Abandoned (record { rules = subst IsGathered c.self.view_is c.self.invariant.0; waited = c.requires.waited; is = c.give_up.ensures.given_up })) c.come_to.ensures.heard
