use denote.Param.Send.{sendable}
use Rattle.std.proofs.Crossing.{crosses}
use Rattle.gz_lock.proofs.Crossing.{lock_crosses}
use Rattle.gz_lock_bench.proofs.threads.on_two.Goals as goal

pub join-requires-send-F : goal.join-requires-send-F
join-requires-send-F g c κs = search (sendable, crosses, lock_crosses) depth 20 fits 4000
