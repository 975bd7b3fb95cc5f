use Rattle.std.proofs.Common.{get_or, ◌∙◌, bit_and}
use Rattle.std.proofs.lemmas.Nat.{and_mask}
use Rattle.gz_lanes.proofs.Vectors.{splatted}
use Rattle.gz_lanes.proofs.lanes.low_halves.Goals as goal

pub returns : goal.returns
returns c =
    let h = splatted bit_and c.args.v 15 c.fits-v.0 in
    record { long = h.long; each = λ k l. h.each k l ∙ and_mask (get_or c.args.v k 0) 4 }
