use Rattle.std.proofs.Common.{Some, None}
use Rattle.gz_pick.proofs.Shown.{answer_shows}
use Rattle.gz_pick.proofs.evidences.evidence.Goals as goal

pub returns-in-None-clause-shows : goal.returns-in-None-clause-shows
returns-in-None-clause-shows c =
    answer_shows c.args.config.now.n c.args.config.now.qc c.args.config.now.qf c.args.rows.now c.args.v None c.requires.rows c.requires.config.quorums c.in-None.ensures.same

pub returns-in-Some-clause-shows : goal.returns-in-Some-clause-shows
returns-in-Some-clause-shows c =
    answer_shows c.args.config.now.n c.args.config.now.qc c.args.config.now.qf c.args.rows.now c.args.v (Some c.in-Some.place) c.requires.rows c.requires.config.quorums c.in-Some.ensures.same
