use Rattle.std.proofs.Common.{◌≡◌}
use Rattle.gz_lock.specs.Seats.{Rests}
use Rattle.gz_lock_tests.proofs.histories.take_turns.Given as goal

abbrev pub invariant-loop : goal.invariant-loop
invariant-loop g l = (l.seat.table_id ≡ l.fn.seat.table_id) × Rests l.seat.me × (l.seat.me.0.number ≡ l.fn.seat.me.0.number) × (l.seat.me.0.parts ≡ l.fn.seat.me.0.parts)
