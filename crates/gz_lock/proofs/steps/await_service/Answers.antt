use Rattle.std.proofs.Common.{rules, ◌≡◌, ap, ◌∙◌}
use Rattle.gz_lock.specs.declared.views.SeatState.TheVariants.{Waits}
use Rattle.gz_lock.proofs.TurnSteps.{serves}
use Rattle.gz_lock.proofs.steps.await_service.Goals as goal

pub load-requires : goal.load-requires
load-requires g c = let table = c.args.table.now in let same : c.loop.seat.me ≡ c.args.seat.now.me = c.loop.invariant.4 in (
  search rules,
  search rules,
  serves g.V.Turned.past g.V.Turned.stands g.V.Turned.kept table.key table.table_id.slots c.loop.seat.id c.args.ticket c.loop.seat.me (ap (λ m. m.0.live) same ∙ c.requires.waits.0)
      (ap (λ m. m.0.state) same ∙ c.requires.waits.1) (ap (λ m. m.1) same ∙ c.requires.waits.2),
)

pub loop-preserved : goal.loop-preserved
loop-preserved g c = let same : c.loop.seat.me ≡ c.args.seat.now.me = c.loop.invariant.4 in let waits : c.loop.seat.me.0.state ≡ Waits c.args.ticket = ap (λ m. m.0.state) same ∙ c.requires.waits.1 in
    let told = c.load.ensures.2 c.args.ticket waits in (tt, tt, search rules, search rules, told.1 c.if-load-ticket.false ∙ same)
