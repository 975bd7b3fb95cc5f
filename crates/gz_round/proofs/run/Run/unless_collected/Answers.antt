use Rattle.std.proofs.Common.{arith}
use Rattle.gz_round.proofs.Known.{none_evident}
use Rattle.gz_round.proofs.HeardFloors.{none_gone}
use Rattle.gz_round.proofs.PastFloors.{floors_low}
use Rattle.gz_round.proofs.Follows.{unmet_at, pass_at}
use Rattle.gz_round.proofs.run.Run.unless_collected.Goals as goal

pub after_floor-requires-clause-low : goal.after_floor-requires-clause-low
after_floor-requires-clause-low c =
    let r = c.requires.ready in
    omega (arith, c.in-Some.ensures.floor.1, floors_low c.args.config.now r.0 r.1 c.args.self.now r.2 r.3.stands)

pub after_floor-requires-clause-few : goal.after_floor-requires-clause-few
after_floor-requires-clause-few c =
    let r = c.requires.ready in
    omega (arith, r.3.stands.knows.rows_len, c.requires.config.sites)

pub after_floor-requires-clause-above : goal.after_floor-requires-clause-above
after_floor-requires-clause-above c =
    let r = c.requires.ready in
    (pass_at c.args.config.now r.0 r.1 r.2 c.args.version c.args.self.now.stage r.3.stands.writes c.requires.stage r.3.stage).above

pub returns-in-None : goal.returns-in-None
returns-in-None c = λ w past ms r.
    unmet_at c.args.config.now c.args.self.now ms c.args.version c.args.self.now.stage c.requires.stage (record { evident = none_evident c.args.config.now c.args.self.now ms r.stands.knows c.args.version c.requires.none; gone = none_gone c.args.config.now c.args.self.now ms c.args.version r.stands.knows c.in-None.ensures.floor })

pub returns-in-Some : goal.returns-in-Some
returns-in-Some c = λ w past ms r. c.after_floor.ensures c.args.config.now w past ms r.stands (pass_at c.args.config.now w past ms c.args.version c.args.self.now.stage r.stands.writes c.requires.stage r.stage) (none_evident c.args.config.now c.args.self.now ms r.stands.knows c.args.version c.requires.none)
