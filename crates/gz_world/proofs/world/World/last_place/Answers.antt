use Rattle.std.proofs.Common.{◌≡◌, ◌<◌, ◌∙◌, sym, subst, Some, None, length}
use Rattle.gz_world.proofs.world.World.last_place.Goals as goal

pub unreachable-requires : goal.unreachable-requires
unreachable-requires g c =
    let h = c.requires.running c.member_of.result.now c.member_of.ensures.there in
    let bad : None ≡ Some h.last = sym c.in-None.is ∙ h.is in
    cc

pub returns-clause-within : goal.returns-clause-within
returns-clause-within g c =
    let h = c.requires.running c.member_of.result.now c.member_of.ensures.there in
    let both : Some h.last ≡ Some c.in-Some.last = sym h.is ∙ c.in-Some.is in
    let same : h.last ≡ c.in-Some.last = cc in
    subst (λ k. k < length c.args.self.now.calls.items) same h.within
