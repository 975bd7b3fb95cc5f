use Rattle.std.proofs.Common.{◌∙◌}
use Rattle.std.proofs.lemmas.Result.{IfOk-weaker}
use Rattle.gz_round.specs.LookBack.{row_cast}
use Rattle.gz_round.specs.Sites.{site_now, row_seen}
use Rattle.gz_round.proofs.LookBacks.{told_votes}
use Rattle.gz_round.proofs.run.Run.look_back.Goals as goal

pub returns : goal.returns
returns c =
    IfOk-weaker c.copied.result _ _ (λ found e. λ w past ms h reads.
    e ∙ c.lowest_vote.ensures (λ s. row_cast c.args.version (row_seen (site_now ms s).row)) (told_votes c.args.config.now c.args.self.now ms c.args.version h.knows)) c.copied.ensures
