use Rattle.std.proofs.Common.{◌∙◌}
use Rattle.gz_core.specs.History.{GaveUp}
use Rattle.gz_world.specs.States.{request_of, with_given_up}
use Rattle.gz_world.proofs.Finishing.{told_whole}
use Rattle.gz_world.proofs.world.World.give_up.Goals as goal

pub returns-clause-ok : goal.returns-clause-ok
returns-clause-ok g c =
    let request = c.request_at.result.now in
    let moved = c.in_ok-moved.moved in
    let k = told_whole c.args.self.now c.make_room.new.self c.after_turn.new.self c.given_up_in.new.clients c.give_up_at.new.net c.args.n c.asker-session.result c.next_number-first.result c.next_tick-tick.result request
    with_given_up (λ sites a. GaveUp a) moved.change moved.turn c.after_turn.result
    c.requires.number.positive c.request_at.ensures c.asker-session.ensures (c.requires.told request c.request_at.ensures) c.next_number-first.ensures.same c.next_tick-tick.ensures
    c.in_ok-moved.ensures.moves c.given_up_in.ensures.kept c.make_room.ensures.same c.give_up_at.ensures.marked c.after_turn.ensures.went (c.after_turn.ensures.told ∙ c.in_ok-moved.ensures.told) in
    (request_of request, k)
