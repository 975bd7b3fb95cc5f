use Rattle.std.proofs.Common.{rules, arith, ◌≡◌, ◌+◌, [], sym, subst, ap, ◌∙◌}
use Rattle.gz_lock.specs.Histories.{turns_of}
use Rattle.gz_lock.specs.Seats.{given, KnowsJoined}
use Rattle.gz_lock.proofs.OwnTurns.{none_above}
use Rattle.gz_lock.proofs.TurnSteps.{learns}
use Rattle.gz_lock.proofs.SeatSteps.{splits}
use Rattle.gz_lock.proofs.lock.Lock.split_seat.Goals as goal

pub load-requires : goal.load-requires
load-requires g c = let table = c.args.self.now.table.shared in let seat = c.args.seat.now in
    (search rules, search rules, learns g.V.Turned.past g.V.Turned.stands g.V.Turned.kept table.key table.table_id.slots seat.id seat.me c.requires.rests.is_live)

pub split_seat-requires : goal.split_seat-requires
split_seat-requires g c = let seat = c.load.new.seat in let same : seat.me ≡ c.args.seat.now.me = c.load.ensures.2.0 in let parts : seat.me.0.parts ≡ c.args.seat.now.me.0.parts = ap (λ m. m.0.parts) same in (
  search rules,
  search rules,
  splits g.V.Turned.past g.V.Turned.stands g.V.Turned.kept c.args.self.now.table.shared.key seat.id seat.me.0 (ap (λ m. m.0.live) same ∙ c.requires.rests.is_live)
      (ap (λ m. m.0.number) same ∙ c.requires.first.0) (omega (arith, c.requires.first.1, parts)),
)

pub returns-clause-none_own : goal.returns-clause-none_own
returns-clause-none_own g c = let k = c.args.seat.now.me.0 in let known : KnowsJoined k = (c.load.ensures.2.1 c.requires.first.0).0 in
    let is : c.split_seat.result.me.0 ≡ given k = search rules in subst (λ x. turns_of x.number x.seen ≡ []) (sym is) (none_above k.splits (k.splits + 1) k.seen (omega arith) known.given_numbers)
