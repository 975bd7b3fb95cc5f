use Rattle.gz_code.proofs.Roots.{fewer_roots}
use Rattle.gz_code.proofs.fewer_zeros_than_coefficients.Goals as goal

pub returns : goal.returns
returns c k i p zeros P nonzero X roots = fewer_roots k p zeros i P nonzero X roots
