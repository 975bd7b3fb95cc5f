use Rattle.std.proofs.Common.{◌≡◌}
use Rattle.gz_lock.specs.Seats.{Rests}
use Rattle.gz_lock_bench.proofs.threads.on_one.Given as goal

abbrev pub invariant-loop : goal.invariant-loop
invariant-loop g l = (l.seat.table_id ≡ l.fn.seat.table_id) × Rests l.seat.me
