use Rattle.std.proofs.Common.{◌≡◌, ◌-◌, ◌∙◌, sym, subst, Some}
use Rattle.std.specs.Prelude.{slice_get}
use Rattle.gz_client.specs.Changes.{changed}
use Rattle.gz_world.proofs.Finishing.{began_parts}
use Rattle.gz_world.proofs.world.World.begin.Goals as goal

pub returns-clause-ok : goal.returns-clause-ok
returns-clause-ok g c =
    let old = c.args.self.now in
    let room = c.make_room_for.new.self in
    let m = c.member_of.result.now in
    let there = c.member_of.ensures.there in
    let moved = c.in_ok-moved.moved in
    let client = changed m.client moved.change in
    let started = c.start.ensures.started m (subst (λ v. slice_get v.items (c.args.session - 1) ≡ Some m) (sym c.make_room_for.ensures.clients) there) in (
      m,
      (
        client,
        (
          moved.turn,
          (
            c.next_name-name.result,
            began_parts old room c.start.new.self c.args.session c.args.call.now c.in_ok-call.call m client moved.turn c.next_name-name.result c.next_number-first.result c.next_tick-tick.result c.start.result
                c.make_room_for.ensures.same c.next_number-first.ensures.same c.next_tick-tick.ensures c.member_of.ensures.positive c.requires.within c.in_ok-call.ensures.copy there
                c.in_ok-moved.ensures.holds c.in_ok-moved.ensures.same c.next_name-name.ensures started (c.start.ensures.told ∙ c.in_ok-moved.ensures.told),
          ),
        ),
      ),
    )
