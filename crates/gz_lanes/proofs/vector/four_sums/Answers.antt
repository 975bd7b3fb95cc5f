use Rattle.std.proofs.Common.{length, ◌+◌, ◌≤◌, arith}
use Rattle.gz_lanes.specs.Combination.{combination}
use Rattle.gz_lanes.proofs.Columns.{source_holds, low_of, high_of}
use Rattle.gz_lanes.proofs.vector.four_sums.Goals as goal

pub loop-j-init : goal.loop-j-init
unfolding combination
loop-j-init c = (c.zeros-of_a.ensures, c.zeros-of_b.ensures, c.zeros-of_c.ensures, c.zeros-of_d.ensures)

pub load-bytes-requires : goal.load-bytes-requires
load-bytes-requires c = source_holds (λ s. c.args.at + 16 ≤ length s) c.args.sources.now c.loop-j.j c.loop-j-test.true c.requires.inside

pub add_products-of_a-requires : goal.add_products-of_a-requires
add_products-of_a-requires c = record {
  within = omega (arith, c.requires.paired.0, c.loop-j-test.true);
  low_is = low_of c.args.sources.now c.args.at c.loop-j.j c.load-bytes.result c.low_halves-low.result c.load-bytes.ensures.lanes c.low_halves-low.ensures;
  high_is = high_of c.args.sources.now c.args.at c.loop-j.j c.load-bytes.result c.high_halves-high.result c.load-bytes.ensures.lanes c.high_halves-high.ensures.halves;
  high_small = c.high_halves-high.ensures.small;
  so_far_is = c.loop-j.invariant.0;
}

pub add_products-of_b-requires : goal.add_products-of_b-requires
add_products-of_b-requires c = record {
  within = omega (arith, c.requires.paired.1, c.loop-j-test.true);
  low_is = low_of c.args.sources.now c.args.at c.loop-j.j c.load-bytes.result c.low_halves-low.result c.load-bytes.ensures.lanes c.low_halves-low.ensures;
  high_is = high_of c.args.sources.now c.args.at c.loop-j.j c.load-bytes.result c.high_halves-high.result c.load-bytes.ensures.lanes c.high_halves-high.ensures.halves;
  high_small = c.high_halves-high.ensures.small;
  so_far_is = c.loop-j.invariant.1;
}

pub add_products-of_c-requires : goal.add_products-of_c-requires
add_products-of_c-requires c = record {
  within = omega (arith, c.requires.paired.2, c.loop-j-test.true);
  low_is = low_of c.args.sources.now c.args.at c.loop-j.j c.load-bytes.result c.low_halves-low.result c.load-bytes.ensures.lanes c.low_halves-low.ensures;
  high_is = high_of c.args.sources.now c.args.at c.loop-j.j c.load-bytes.result c.high_halves-high.result c.load-bytes.ensures.lanes c.high_halves-high.ensures.halves;
  high_small = c.high_halves-high.ensures.small;
  so_far_is = c.loop-j.invariant.2;
}

pub add_products-of_d-requires : goal.add_products-of_d-requires
add_products-of_d-requires c = record {
  within = omega (arith, c.requires.paired.3, c.loop-j-test.true);
  low_is = low_of c.args.sources.now c.args.at c.loop-j.j c.load-bytes.result c.low_halves-low.result c.load-bytes.ensures.lanes c.low_halves-low.ensures;
  high_is = high_of c.args.sources.now c.args.at c.loop-j.j c.load-bytes.result c.high_halves-high.result c.load-bytes.ensures.lanes c.high_halves-high.ensures.halves;
  high_small = c.high_halves-high.ensures.small;
  so_far_is = c.loop-j.invariant.3;
}

pub loop-j-preserved : goal.loop-j-preserved
loop-j-preserved c = (c.add_products-of_a.ensures, c.add_products-of_b.ensures, c.add_products-of_c.ensures, c.add_products-of_d.ensures)
