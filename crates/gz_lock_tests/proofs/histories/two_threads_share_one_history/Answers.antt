use denote.Param.Send.{sendable}
use Rattle.std.proofs.Crossing.{crosses}
use Rattle.gz_lock.proofs.Crossing.{lock_crosses}
use Rattle.gz_lock_tests.proofs.histories.two_threads_share_one_history.Goals as goal

pub join-first-requires-send-F : goal.join-first-requires-send-F
join-first-requires-send-F g c κs = search (sendable, crosses, lock_crosses) depth 20 fits 4000
