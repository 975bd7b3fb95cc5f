use Rattle.gz_round.proofs.Follows.{evidence_means}
use Rattle.gz_round.proofs.following.evident.Goals as goal

pub returns : goal.returns
returns c = evidence_means c.args.config.now c.args.rows.now c.args.v c.evidence.result c.requires.rows c.evidence.ensures.shows
