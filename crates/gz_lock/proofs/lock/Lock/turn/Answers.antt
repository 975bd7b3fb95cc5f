use Rattle.std.proofs.Common.{rules, ◌∙◌, ap}
use Rattle.gz_lock.specs.Seats.{TookTurn}
use Rattle.gz_lock.proofs.TurnSteps.{releases}
use Rattle.gz_lock.proofs.TurnFacts.{if_ok, on_err, took_turn, took_no_turn, seat_stays}
use Rattle.gz_lock.proofs.lock.Lock.turn.Goals as goal

pub fetch_add-requires : goal.fetch_add-requires
fetch_add-requires g c = let table = c.args.self.now.table.shared in let seat = c.take_turn-reply.new.seat in let at = c.take_turn-reply.ensures.holds in (
  search rules,
  search rules,
  releases g.V.Turned.past g.V.Turned.stands g.V.Turned.kept table.key table.table_id.slots seat.id seat.me at.3.held at.0 at.2 at.3.cell at.3.stands_for,
)

pub returns-clause-ok : goal.returns-clause-ok
returns-clause-ok g c = let told = c.fetch_add.ensures.2 in let old = c.args.seat.now.me.0 in if_ok c.take_turn-reply.result _ (λ reply. TookTurn g.V.Turned.sound old c.args.entry reply c.fetch_add.new.seat.me)
    (λ reply counted. took_turn g.V.Turned.past g.V.Turned.stands g.V.Turned.kept old c.take_ticket-ticket.new.seat.me c.await_service.new.seat.me c.take_turn-reply.new.seat.me c.fetch_add.new.seat.me c.take_ticket-ticket.result
    c.take_ticket-ticket.ensures.waits c.await_service.ensures.served told.0 g.V.Turned.sound g.met.V.Turned.stands_is_sound counted.0 c.args.entry reply counted.1)
    c.take_turn-reply.ensures.ok

pub returns-clause-err : goal.returns-clause-err
returns-clause-err g c = let told = c.fetch_add.ensures.2 in let old = c.args.seat.now.me.0 in on_err c.take_turn-reply.result _ _
    (λ same. took_no_turn g.V.Turned.past g.V.Turned.stands g.V.Turned.kept old c.take_ticket-ticket.new.seat.me c.await_service.new.seat.me c.take_turn-reply.new.seat.me c.fetch_add.new.seat.me c.take_ticket-ticket.result
    c.take_ticket-ticket.ensures.waits c.await_service.ensures.served told.0 g.V.Turned.sound g.met.V.Turned.stands_is_sound same c.take_turn-reply.ensures.holds.3)
    c.take_turn-reply.ensures.err

pub returns-clause-same : goal.returns-clause-same
returns-clause-same g c = seat_stays g.V.Turned.past g.V.Turned.stands g.V.Turned.kept c.args.seat.now.me.0 c.take_ticket-ticket.new.seat.me c.await_service.new.seat.me c.take_turn-reply.new.seat.me c.fetch_add.new.seat.me
    c.take_ticket-ticket.result c.take_ticket-ticket.ensures.waits c.await_service.ensures.served c.fetch_add.ensures.2.0 c.take_turn-reply.ensures.holds.1

pub returns-clause-known : goal.returns-clause-known
returns-clause-known g c = let number₃ = ap (λ k. k.number) c.take_turn-reply.ensures.holds.1 in let number₂ = ap (λ k. k.number) c.await_service.ensures.served.view in
    let number₁ = ap (λ m. m.0.number) c.take_ticket-ticket.ensures.waits in λ first. c.fetch_add.ensures.2.1 (number₃ ∙ (number₂ ∙ (number₁ ∙ first)))
