use Rattle.std.proofs.Common.{rules, arith, ◌≡◌, ap, ◌∙◌}
use Rattle.gz_lock.proofs.TurnSteps.{loads, takes_ticket}
use Rattle.gz_lock.proofs.steps.take_ticket.Goals as goal

pub load-next-requires : goal.load-next-requires
load-next-requires g c = let table = c.args.table.now in
    (search rules, search rules, loads g.V.Turned.past g.V.Turned.stands g.V.Turned.kept table.key table.table_id.slots c.loop.seat.id 1 c.loop.seat.me)

pub compare_exchange-requires : goal.compare_exchange-requires
compare_exchange-requires g c = let table = c.args.table.now in let seat = c.load-next.new.seat in let same : seat.me ≡ c.args.seat.now.me = c.load-next.ensures.2 ∙ c.loop.invariant.4 in (
  search rules,
  search rules,
  takes_ticket g.V.Turned.past g.V.Turned.stands g.V.Turned.kept table.key table.table_id.slots seat.id c.load-next.result seat.me (omega arith) (ap (λ m. m.0.live) same ∙ c.requires.rests.is_live)
      (ap (λ m. m.0.state) same ∙ c.requires.rests.is_idle),
)
