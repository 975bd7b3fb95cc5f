use Rattle.std.proofs.Common.{sym}
use Rattle.gz_world.proofs.Members.{busy_there, busy_none}
use Rattle.gz_world.proofs.world.World.is_busy.Goals as goal

pub returns-in-Some : goal.returns-in-Some
returns-in-Some g c = λ traces fits. busy_there c.args.self.now traces c.args.session c.in-Some.member.now c.runs.result fits (sym c.in-Some.ensures) c.runs.ensures

pub returns-in-None : goal.returns-in-None
returns-in-None g c = λ traces fits. busy_none c.args.self.now traces c.args.session fits c.in-None.ensures
