use Rattle.std.proofs.Common.{◌≡◌, ◌<◌, ◌≤◌, ◌-◌, refl, subst, arith, length, Some, true}
use Rattle.std.specs.Prelude.{slice_get, slice_set}
use Rattle.gz_world.proofs.Places.{get_there}
use Rattle.gz_world.proofs.world.World.crash.Goals as goal

pub returns : goal.returns
returns g c =
    let e : c.number.result ≡ c.args.session = c.number.ensures.same in
    let p = c.number.ensures.positive in
    let r = c.requires in
    let l : c.number.result - 1 < length c.args.self.now.clients.items = omega (arith, e, p, r) in
    let k = get_there c.args.self.now.clients.items (c.number.result - 1) l in
    let changed = c.crash_at.ensures k.0 k.1 in (
      k.0,
      record {
        opened = subst (λ n. 1 ≤ n) e p;
        member = subst (λ n. slice_get c.args.self.now.clients.items (n - 1) ≡ Some k.0) e k.1;
        clients = subst (λ n. c.crash_at.new.clients.items ≡ slice_set c.args.self.now.clients.items (n - 1) (record { client = k.0.client; crashed = true; last = k.0.last })) e changed;
        rest = record { cfg = refl; sites = refl; journal = refl; casts = refl; calls = refl; net = refl; held = refl };
        effect_is = c.quiet.ensures;
      },
    )
