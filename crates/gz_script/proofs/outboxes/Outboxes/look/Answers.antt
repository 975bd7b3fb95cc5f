use Rattle.std.proofs.Common.{◌≡◌, ◌-◌, ap, ◌∙◌, map, refl, subst}
use Rattle.gz_world.specs.States.{request_of}
use Rattle.gz_script.specs.declared.outboxes.Outboxes.{Outboxes}
use Rattle.gz_script.specs.Outboxes.{outbox_of, IsReplaced}
use Rattle.gz_script.specs.Plays.{unanswered}
use Rattle.gz_script.proofs.Listing.{list_same, list_look}
use Rattle.gz_script.proofs.outboxes.Outboxes.look.Goals as goal

pub returns-clause-listed : goal.returns-clause-listed
returns-clause-listed c =
    let net = map request_of c.args.net.now in
    let mid = c.make_room.new.self in
    let new : Outboxes = record { seen = mid.seen; lists = c.replace_at.new.lists; alloc = mid.alloc } in
    let at = c.args.session - 1 in
    let found_is : c.in_ok-found.found ≡ unanswered net (outbox_of mid.lists.items at) = c.in_ok-found.ensures ∙ ap (unanswered net) c.of.ensures in
    list_look mid new net c.args.session (list_same c.catch_up.new.self mid net c.make_room.ensures.seen c.make_room.ensures.same c.in_ok-catch_up.ensures.listed) refl
    (subst (λ k. IsReplaced mid.lists.items (k - 1) (unanswered net (outbox_of mid.lists.items at)) new.lists.items) c.number.ensures.same
    (subst (λ xs. IsReplaced mid.lists.items (c.number.result - 1) xs new.lists.items) found_is c.replace_at.ensures))
