use Rattle.std.proofs.Common.{sym, subst, refl, None}
use Rattle.gz_client.specs.Traces.{IsLiveAtIn}
use Rattle.gz_world.proofs.Members.{member_stands, no_traces}
use Rattle.gz_world.proofs.world.World.live_at.Goals as goal

pub returns-in-Some : goal.returns-in-Some
returns-in-Some g c = λ events traces fits.
    let s = member_stands c.args.self.now traces c.args.session c.in-Some.member.now fits (sym c.in-Some.ensures) in
    subst (λ q. IsLiveAtIn q (traces c.args.session) c.args.i c.live_at.result) s.config_is (c.live_at.ensures s.next (traces c.args.session) s.holds)

pub returns-in-None : goal.returns-in-None
returns-in-None g c = λ events traces fits. subst (λ ts. IsLiveAtIn c.args.self.now.cfg ts c.args.i None) (sym (no_traces c.args.self.now traces c.args.session fits c.in-None.ensures)) refl
