use Rattle.std.proofs.Common.{◌∙◌, sym, ap}
use Rattle.gz_world.specs.Steps.{last_name}
use Rattle.gz_world.proofs.Members.{member_stands, no_traces, names_last}
use Rattle.gz_world.proofs.world.World.last_call.Goals as goal

pub returns-in-Some : goal.returns-in-Some
returns-in-Some g c = λ events traces fits. c.call_name.ensures ∙ names_last c.args.self.now.calls.items c.in-Some.member.now.last (traces c.args.session) (member_stands c.args.self.now traces c.args.session c.in-Some.member.now fits (sym c.in-Some.ensures)).last_is

pub returns-in-None : goal.returns-in-None
returns-in-None g c = λ events traces fits. sym (ap last_name (no_traces c.args.self.now traces c.args.session fits c.in-None.ensures))
