use Rattle.std.proofs.Common.{◌≡◌, slice_index}
use Rattle.gz_code.specs.Interpolation.{apart}
use Rattle.gz_code.proofs.interpolate.product_of_differences.Given as goal

abbrev pub invariant-loop-i : goal.invariant-loop-i
invariant-loop-i l = l.all ≡ apart (slice_index l.points) l.left_out l.i l.y
