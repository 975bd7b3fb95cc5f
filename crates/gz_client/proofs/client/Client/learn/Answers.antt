use Rattle.std.proofs.Common.{subst}
use Rattle.std.specs.Option.{option_copied}
use Rattle.std.proofs.lemmas.Result.{IfOk-weaker}
use Rattle.gz_client.specs.Changes.{changed}
use Rattle.gz_client.specs.Traces.{Extends, told_of}
use Rattle.gz_client.specs.Turning.{GoesOrEnds, HearsIf, outcome_of}
use Rattle.gz_client.specs.declared.client.Client.{Client}
use Rattle.gz_client.proofs.FragmentTold.{can_hear, heard_told, heard_can}
use Rattle.gz_client.proofs.client.Client.learn.Goals as goal

pub hear-requires : goal.hear-requires
hear-requires c = can_hear c.args.self.now c.args.n c.args.first c.requires.told

pub returns-in-Some-clause-ok : goal.returns-in-Some-clause-ok
returns-in-Some-clause-ok c =
    let client : Client = c.args.self.now in
    heard_told client c.args.n c.args.first (option_copied c.args.reply) c.in-Some.heard c.gathered.result.0 c.gathered.result.1
    (subst (λ o. HearsIf client.running c.args.n (outcome_of (option_copied c.args.reply)) o) c.in-Some.is c.in_ok-heard.ensures.heard)
    (subst (λ (k : Client). GoesOrEnds k c.args.n c.in-Some.heard c.gathered.result.0 c.gathered.result.1) c.in_ok-heard.ensures.same c.gathered.ensures)

pub returns-in-Some-clause-can : goal.returns-in-Some-clause-can
returns-in-Some-clause-can c =
    let client : Client = c.args.self.now in
    heard_can client c.args.n c.args.first (outcome_of (option_copied c.args.reply)) c.in-Some.heard c.gathered.result.0 c.gathered.result.1 c.requires.told
    (subst (λ o. HearsIf client.running c.args.n (outcome_of (option_copied c.args.reply)) o) c.in-Some.is c.in_ok-heard.ensures.heard)
    (subst (λ (k : Client). GoesOrEnds k c.args.n c.in-Some.heard c.gathered.result.0 c.gathered.result.1) c.in_ok-heard.ensures.same c.gathered.ensures)

pub returns-in-None-clause-ok : goal.returns-in-None-clause-ok
returns-in-None-clause-ok c =
    let client : Client = c.args.self.now in
    IfOk-weaker c.learn_more.result _ _ (λ after e. subst (λ (k : Client). Extends k (changed k after.0) c.args.n c.args.first (told_of k.config.n (option_copied c.args.reply)) after.1) c.in_ok-heard.ensures.same e) c.learn_more.ensures.ok
