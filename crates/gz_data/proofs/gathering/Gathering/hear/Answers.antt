use Rattle.std.proofs.Common.{subst}
use Rattle.std.proofs.lemmas.Result.{IfOk-weaker}
use Rattle.gz_data.specs.Blobs.{Answered}
use Rattle.gz_data.specs.Gathered.{IsGathered}
use Rattle.gz_data.proofs.gathering.Gathering.hear.Goals as goal

pub come_to-requires : goal.come_to-requires
come_to-requires c =
    (c.args.self.now, c.args.key.now, Answered c.args.reply.now, record { rules = subst IsGathered c.self.view_is c.self.invariant.0; waited = c.requires.waited; is = c.in_ok-note.ensures.noted })

pub returns-clause-same : goal.returns-clause-same
returns-clause-same c =
    c.come_to.ensures.back c.args.self.now c.args.key.now (Answered c.args.reply.now) (record { rules = subst IsGathered c.self.view_is c.self.invariant.0; waited = c.requires.waited; is = c.in_ok-note.ensures.noted })

pub returns-clause-heard : goal.returns-clause-heard
returns-clause-heard c =
    IfOk-weaker c.come_to.result _ _ (λ heard told. told c.args.self.now c.args.key.now (Answered c.args.reply.now) (record { rules = subst IsGathered c.self.view_is c.self.invariant.0; waited = c.requires.waited; is = c.in_ok-note.ensures.noted })) c.come_to.ensures.heard
