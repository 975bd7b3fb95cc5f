use Rattle.std.proofs.Common.{◌≡◌, ◌+◌, ◌∙◌, ap, length, arith}
use Rattle.gz_world.proofs.Members.{next_seq}
use Rattle.gz_world.proofs.world.World.next_name.Goals as goal

pub calls_before-requires : goal.calls_before-requires
calls_before-requires g c = (next_seq c.args.self.now c.requires.fits.0 c.args.session c.member_of-member.result.now c.requires.fits.1 c.member_of-member.ensures.positive c.member_of-member.ensures.there).1

pub overflow_add-result : goal.overflow_add-result
overflow_add-result g c =
    let traces = c.requires.fits.0 in
    let fits = c.requires.fits.1 in
    let e : c.calls_before.result ≡ length (traces c.args.session) = c.calls_before.ensures ∙ (next_seq c.args.self.now traces c.args.session c.member_of-member.result.now fits c.member_of-member.ensures.positive c.member_of-member.ensures.there).0 in
    let few = fits.few c.args.session in
    let events = c.requires.small.events in
    omega (arith, e, few, events)

pub returns : goal.returns
returns g c = λ traces fits. ap (λ n. record { session = c.args.session; seq = n + 1 }) (c.calls_before.ensures ∙ (next_seq c.args.self.now traces c.args.session c.member_of-member.result.now fits c.member_of-member.ensures.positive c.member_of-member.ensures.there).0)
