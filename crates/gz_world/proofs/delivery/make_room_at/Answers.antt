use Rattle.std.proofs.Common.{◌≡◌, Some, ◌<◌, sym, ◌∙◌, subst}
use Rattle.std.specs.Prelude.{vec_len, vec_capacity, slice_set}
use Rattle.std.proofs.lemmas.Option.{slice_get-get_or}
use Rattle.gz_world.specs.Deliveries.{HasRoomAt}
use Rattle.gz_world.specs.declared.requests.Request.{Request}
use Rattle.gz_world.proofs.Elements.{element_same}
use Rattle.gz_world.proofs.Places.{get_set_same}
use Rattle.gz_world.proofs.Results.{on_ok_map}
use Rattle.gz_world.proofs.delivery.make_room_at.Goals as goal

pub returns-clause-same : goal.returns-clause-same
returns-clause-same c = element_same c.args.net.now.items c.args.at c.index_mut.result.now c.make_room.new.self c.requires c.index_mut.ensures.value c.make_room.ensures.same

pub returns-clause-room : goal.returns-clause-room
returns-clause-room c =
    let here = slice_get-get_or c.args.net.now.items c.args.at c.index_mut.result.now c.requires in
    let there = get_set_same c.args.net.now.items c.args.at _ c.make_room.new.self here in
    on_ok_map c.make_room.result (vec_len c.make_room.new.self.replies < vec_capacity c.make_room.new.self.replies) (HasRoomAt (slice_set c.args.net.now.items c.args.at c.make_room.new.self) c.args.at)
    (λ room r e. let s : Some c.make_room.new.self ≡ Some r = sym there ∙ e in let k : c.make_room.new.self ≡ r = cc in subst (λ (q : Request). vec_len q.replies < vec_capacity q.replies) k room)
    c.make_room.ensures.room
