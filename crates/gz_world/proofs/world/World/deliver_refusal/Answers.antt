use Rattle.std.proofs.Common.{None, Some, ap}
use Rattle.std.specs.Prelude.{if◌then◌else◌, is_none}
use Rattle.gz_world.specs.States.{request_of}
use Rattle.gz_world.specs.declared.events.Skip.TheVariants as skips
use Rattle.gz_world.proofs.Members.{mapped_there, mapped_none}
use Rattle.gz_world.proofs.world.World.deliver_refusal.Goals as goal

pub returns-in-Some : goal.returns-in-Some
returns-in-Some g c = λ traces. ap (λ o. if is_none o then Some skips.NoRequest else None) (mapped_there request_of c.args.self.now.net.items c.args.n c.in-Some.field-0.now c.in-Some.ensures)

pub returns-in-None : goal.returns-in-None
returns-in-None g c = λ traces. ap (λ o. if is_none o then Some skips.NoRequest else None) (mapped_none request_of c.args.self.now.net.items c.args.n c.in-None.ensures)
