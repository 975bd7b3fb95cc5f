use Rattle.std.proofs.Common.{ℕ, ◌+◌, ◌*◌, ◌<◌, ◌≤◌, List, length, slice_index, subst, arith, ◌≡◌}
use Rattle.gz_lanes.specs.Combination.{contents, column}
use Rattle.gz_lanes.specs.Lanes.{HasLanes}
use Rattle.gz_lanes.proofs.Columns.{source_holds, loaded}
use Rattle.gz_lanes.proofs.Vectors.{summed, lifted_lanes, each_of_four}
use Rattle.gz_lanes.proofs.quads.parts.Goals as goal

pub load-a-requires : goal.load-a-requires
load-a-requires c = source_holds (λ s. c.args.at + 16 ≤ length s) c.args.sources.now (c.args.q * 4) (omega (arith, c.requires.sources_within)) c.requires.inside

pub load-b-requires : goal.load-b-requires
load-b-requires c = source_holds (λ s. c.args.at + 16 ≤ length s) c.args.sources.now (c.args.q * 4 + 1) (omega (arith, c.requires.sources_within)) c.requires.inside

pub load-c-requires : goal.load-c-requires
load-c-requires c = source_holds (λ s. c.args.at + 16 ≤ length s) c.args.sources.now (c.args.q * 4 + 2) (omega (arith, c.requires.sources_within)) c.requires.inside

pub load-d-requires : goal.load-d-requires
load-d-requires c = source_holds (λ s. c.args.at + 16 ≤ length s) c.args.sources.now (c.args.q * 4 + 3) (omega (arith, c.requires.sources_within)) c.requires.inside

pub returns : goal.returns
returns c =
    let sources = c.args.sources.now in
    let at = c.args.at in
    let q = c.args.q in
    let x = slice_index c.args.constants.now (q * 3) in
    let y = slice_index c.args.constants.now (q * 3 + 1) in
    let z = slice_index c.args.constants.now (q * 3 + 2) in
    let A = loaded sources at (q * 4) c.load-a.result c.load-a.ensures.lanes in
    let B = loaded sources at (q * 4 + 1) c.load-b.result c.load-b.ensures.lanes in
    let C = loaded sources at (q * 4 + 2) c.load-c.result c.load-c.ensures.lanes in
    let D = loaded sources at (q * 4 + 3) c.load-d.result c.load-d.ensures.lanes in
    let low = lifted_lanes x c.load-a.result c.load-b.result c.pair.result.0 _ _ A B c.pair.ensures.first in
    let low_sum = summed c.load-a.result c.load-b.result c.pair.result.1 _ _ A B c.pair.ensures.second in
    let high = lifted_lanes y c.load-c.result c.load-d.result c.pair-2.result.0 _ _ C D c.pair-2.ensures.first in
    let high_sum = summed c.load-c.result c.load-d.result c.pair-2.result.1 _ _ C D c.pair-2.ensures.second in
    record {
      first = lifted_lanes z c.pair.result.0 c.pair-2.result.0 c.pair-3.result.0 _ _ low high c.pair-3.ensures.first;
      second = lifted_lanes z c.pair.result.1 c.pair-2.result.1 c.pair-4.result.0 _ _ low_sum high_sum c.pair-4.ensures.first;
      third = summed c.pair.result.0 c.pair-2.result.0 c.pair-3.result.1 _ _ low high c.pair-3.ensures.second;
      fourth = summed c.pair.result.1 c.pair-2.result.1 c.pair-4.result.1 _ _ low_sum high_sum c.pair-4.ensures.second;
      are_bytes = λ k r l R.
          let byte = λ (v : List ℕ) (j : ℕ) (V : HasLanes v (λ k. column (contents sources) (at + k) j)) (B : (k : ℕ) → k < 16 → slice_index v k < 256). subst (λ (x : ℕ). x < 256) (V.each k l) (B k l) in
          let whole : q * 4 ≡ q * 4 + 0 = omega arith in
          each_of_four (λ r. column (contents sources) (at + k) (q * 4 + r) < 256)
          (subst (λ i. column (contents sources) (at + k) i < 256) whole (byte c.load-a.result (q * 4) A c.load-a.ensures.are_bytes))
          (byte c.load-b.result (q * 4 + 1) B c.load-b.ensures.are_bytes)
          (byte c.load-c.result (q * 4 + 2) C c.load-c.ensures.are_bytes)
          (byte c.load-d.result (q * 4 + 3) D c.load-d.ensures.are_bytes)
          r R;
      constants_are = (c.pair.ensures.is_byte, c.pair-2.ensures.is_byte, c.pair-3.ensures.is_byte);
    }
