use Rattle.std.proofs.Common.{refl}
use Rattle.std.proofs.lemmas.Simd.{get_or-replicate}
use Rattle.gz_lanes.proofs.lanes.zeros.Goals as goal

pub returns : goal.returns
returns c = record { long = refl; each = λ k l. get_or-replicate 16 k 0 0 l }
