use Rattle.gz_client.specs.Lowest.{AreApart}
use Rattle.gz_client.proofs.Kept.{AreBefore}
use Rattle.gz_client.proofs.client.live.live_in.Given as goal

abbrev pub invariant-loop-place : goal.invariant-loop-place
invariant-loop-place l = AreApart l.running → AreBefore l.running l.low l.place
