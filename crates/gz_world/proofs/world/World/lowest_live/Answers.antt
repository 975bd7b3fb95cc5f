use Rattle.std.proofs.Common.{sym, ap, subst, true}
use Rattle.gz_client.specs.Lowest.{live}
use Rattle.gz_client.specs.Lowest.{IsLowestLive}
use Rattle.gz_world.proofs.Members.{member_stands, no_traces}
use Rattle.gz_world.proofs.world.World.lowest_live.Goals as goal

pub returns-in-Some : goal.returns-in-Some
returns-in-Some g c = λ events traces fits.
    let s = member_stands c.args.self.now traces c.args.session c.in-Some.member.now fits (sym c.in-Some.ensures) in
    subst (λ q. IsLowestLive q (traces c.args.session) c.lowest_live.result) s.config_is (c.lowest_live.ensures s.next (traces c.args.session) s.holds)

pub returns-in-None : goal.returns-in-None
returns-in-None g c = λ events traces fits. ap (λ ts. live c.args.self.now.cfg (λ m. true) ts) (no_traces c.args.self.now traces c.args.session fits c.in-None.ensures)
