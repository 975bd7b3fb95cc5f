use Rattle.std.proofs.Common.{◌≡◌, ◌-◌, ◌∙◌, subst, Some}
use Rattle.std.specs.Prelude.{slice_get}
use Rattle.gz_world.specs.States.{request_of, with_handed}
use Rattle.gz_world.specs.Steps.{hears}
use Rattle.gz_world.proofs.Finishing.{told_whole}
use Rattle.gz_world.proofs.world.World.hand.Goals as goal

pub returns-clause-ok : goal.returns-clause-ok
returns-clause-ok g c =
    let old = c.args.self.now in
    let request = c.item_at-request.result.now in
    let here : slice_get old.net.items (c.args.n - 1) ≡ Some request = subst (λ xs. slice_get xs (c.args.n - 1) ≡ Some request) c.as_slice.ensures.value c.item_at-request.ensures in
    let moved = c.in_ok-moved.moved in
    let k = told_whole old c.make_room.new.self c.after_turn.new.self c.handed_in.new.clients c.hand_at.new.net c.args.n c.asker-session.result c.next_number-first.result c.next_tick-tick.result request
    (λ tick r. with_handed tick c.args.which r) (λ sites. hears sites c.reply_of-reply.result.now.1) moved.change moved.turn c.after_turn.result
    c.requires.number.positive here c.asker-session.ensures (c.requires.told request here) c.next_number-first.ensures.same c.next_tick-tick.ensures
    c.in_ok-moved.ensures.moves c.handed_in.ensures.kept c.make_room.ensures.same c.hand_at.ensures.marked c.after_turn.ensures.went (c.after_turn.ensures.told ∙ c.in_ok-moved.ensures.told) in
    (request_of request, (c.reply_of-reply.result.now, (k.0, (k.1.0, (k.1.1.0, (k.1.1.1.0, (k.1.1.1.1.0, (c.reply_of-reply.ensures, k.1.1.1.1.1))))))))
