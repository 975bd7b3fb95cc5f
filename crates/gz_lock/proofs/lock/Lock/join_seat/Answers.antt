use Rattle.std.proofs.Common.{rules, ◌≡◌, [], All, sym, ap, ◌∙◌, subst}
use Rattle.gz_lock.specs.Histories.{HasOwnTurns}
use Rattle.gz_lock.specs.Seats.{AddsNoneOwn, took_in}
use Rattle.gz_lock.proofs.Prefixes.{all_last}
use Rattle.gz_lock.proofs.TurnSteps.{learns}
use Rattle.gz_lock.proofs.SeatSteps.{joins}
use Rattle.gz_lock.proofs.lock.Lock.join_seat.Goals as goal

pub join_seat-requires : goal.join_seat-requires
join_seat-requires g c = let seat = c.args.seat.now in let other = c.args.other in let rests = c.requires.rests in (
  search rules,
  search rules,
  rests.1.no_cell,
  search rules,
  joins g.V.Turned.past g.V.Turned.stands g.V.Turned.kept c.args.self.now.table.shared.key seat.id other.id seat.me.0 other.me.0 rests.0.is_live rests.1.is_live rests.0.is_idle rests.1.is_idle
      c.requires.first.0 c.requires.first.1,
)

pub load-requires : goal.load-requires
load-requires g c = let table = c.args.self.now.table.shared in let seat = c.join_seat.new.seat in
    (search rules, search rules, learns g.V.Turned.past g.V.Turned.stands g.V.Turned.kept table.key table.table_id.slots seat.id seat.me (ap (λ m. m.0.live) c.join_seat.ensures.2 ∙ c.requires.rests.0.is_live))

pub returns-clause-none_own : goal.returns-clause-none_own
returns-clause-none_own g c = let seat = c.args.seat.now in let other = c.args.other in let old : c.join_seat.new.seat.me ≡ (took_in seat.me.0 other.me.0, []) = c.join_seat.ensures.2 ∙ ap (λ l. (took_in seat.me.0 other.me.0, l)) c.requires.rests.0.no_cell in
    let told = c.load.ensures.2.1 (ap (λ m. m.0.number) old ∙ c.requires.first.0) in
    let item = all_last AddsNoneOwn seat.me.0.joined (record { number = other.me.0.number; seen = other.me.0.seen; first = seat.me.0.seen }) (subst (λ k. All AddsNoneOwn k.joined) (ap (λ m. m.0) old) told.1) in
    subst (λ k. HasOwnTurns 0 seat.me.0.seen k.seen) (sym (ap (λ m. m.0) (c.load.ensures.2.0 ∙ old))) item
