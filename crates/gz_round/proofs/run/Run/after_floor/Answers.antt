use Rattle.gz_round.proofs.PastFloors.{latest_above}
use Rattle.gz_round.proofs.run.Run.after_floor.Goals as goal

pub returns-in-Latest : goal.returns-in-Latest
returns-in-Latest c = λ k w past ms h m none. c.learn_above.ensures k w past ms h (latest_above k w past c.args.self.now ms c.args.version c.args.floor h m c.requires.at (cc))

pub returns-in-At : goal.returns-in-At
returns-in-At c = λ k w past ms h m none. c.read_above.ensures k w past ms c.args.version h m c.requires.at
