use Rattle.std.proofs.Common.{◌∙◌, ap}
use Rattle.gz_world.specs.States.{request_of}
use Rattle.gz_world.specs.Bridge.{state_of}
use Rattle.gz_world.specs.Refusals.{request_refusal}
use Rattle.gz_world.proofs.Members.{mapped_there, mapped_none}
use Rattle.gz_world.proofs.world.World.request_refusal.Goals as goal

pub returns-in-Some : goal.returns-in-Some
returns-in-Some g c = λ traces fits.
    c.refusal_to_tell.ensures traces fits ∙ ap (request_refusal (state_of g.S.Site.told traces c.args.self.now) c.args.n) (mapped_there request_of c.args.self.now.net.items c.args.n c.in-Some.request.now c.in-Some.ensures)

pub returns-in-None : goal.returns-in-None
returns-in-None g c = λ traces fits. ap (request_refusal (state_of g.S.Site.told traces c.args.self.now) c.args.n) (mapped_none request_of c.args.self.now.net.items c.args.n c.in-None.ensures)
