use Rattle.std.proofs.Common.{arith, length, ◌≡◌}
use Rattle.std.proofs.lemmas.Simd.{get_or-put_chunk_at, get_or-put_chunk_below, get_or-put_chunk_above}
use Rattle.gz_lanes.proofs.lanes.store.Goals as goal

pub returns : goal.returns
returns c =
    let v = c.args.v in
    let old = c.args.bytes.now in
    let long : length v ≡ 16 = c.fits-v.0 in
    record {
      inside = λ k l. get_or-put_chunk_at c.args.at old v k 0 (omega (arith, long)) (omega (arith, long, c.requires));
      below = λ place l. get_or-put_chunk_below c.args.at old v place 0 l;
      above = λ place l. get_or-put_chunk_above c.args.at old v place 0 (omega (arith, long));
    }
