use Rattle.std.proofs.Common.{◌≡◌, ◌*◌, length}
use Rattle.gz_lanes.proofs.quads.constants_of.Given as goal

abbrev pub invariant-loop-q : goal.invariant-loop-q
invariant-loop-q l = length l.constants.items ≡ l.q * 3
