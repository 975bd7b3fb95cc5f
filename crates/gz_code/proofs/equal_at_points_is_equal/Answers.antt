use Rattle.std.proofs.Common.{slice_index}
use Rattle.gz_code.proofs.Roots.{same_from_points}
use Rattle.gz_code.proofs.equal_at_points_is_equal.Goals as goal

pub returns : goal.returns
returns c k p q points P Q X agree = same_from_points k p q (slice_index points) P Q X agree
