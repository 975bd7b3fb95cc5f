use Rattle.std.proofs.Common.{◌/◌, ◌^◌, ◌<◌, sym, subst, ℕ}
use Rattle.gz_lanes.proofs.Vectors.{splatted, upper_half-lt}
use Rattle.gz_lanes.proofs.lanes.high_halves.Goals as goal

pub returns-clause-halves : goal.returns-clause-halves
returns-clause-halves c = splatted (λ a b. a / 2 ^ b) c.args.v 4 c.fits-v.0

pub returns-clause-small : goal.returns-clause-small
returns-clause-small c k l =
    let h = splatted (λ a b. a / 2 ^ b) c.args.v 4 c.fits-v.0 in
    let P : ℕ → Type 0 = λ x. x < 16 in
    subst P (sym (h.each k l)) (upper_half-lt c.args.v c.fits-v.0 c.fits-v.1 k l)
