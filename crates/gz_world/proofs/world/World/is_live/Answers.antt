use Rattle.std.proofs.Common.{sym}
use Rattle.gz_world.proofs.Members.{live_there, live_none}
use Rattle.gz_world.proofs.world.World.is_live.Goals as goal

pub returns-in-Some : goal.returns-in-Some
returns-in-Some g c = λ traces fits. live_there c.args.self.now traces c.args.session c.in-Some.member.now c.args.n c.awaits.result fits (sym c.in-Some.ensures) c.awaits.ensures

pub returns-in-None : goal.returns-in-None
returns-in-None g c = λ traces fits. live_none c.args.self.now traces c.args.session c.args.n fits c.in-None.ensures
