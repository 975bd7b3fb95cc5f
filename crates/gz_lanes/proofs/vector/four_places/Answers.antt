use Rattle.std.proofs.Common.{◌≡◌, ◌+◌, ◌≤◌, length, arith}
use Rattle.gz_lanes.specs.Combination.{contents}
use Rattle.gz_lanes.proofs.Columns.{loaded, source_holds}
use Rattle.gz_lanes.proofs.Differences.{differences_done}
use Rattle.gz_lanes.proofs.vector.four_places.Goals as goal

pub load-requires : goal.load-requires
load-requires c = omega (arith, source_holds (λ s. c.args.at + 64 ≤ length s) c.args.sources.now 0 (omega (arith, c.requires.some)) c.requires.inside)

pub begin-first-requires : goal.begin-first-requires
begin-first-requires c = record {
  some = omega (arith, c.requires.paired, c.requires.some);
  base_is = loaded c.args.sources.now c.args.at 0 c.load.result c.load.ensures.lanes;
}

pub add_difference-first-requires : goal.add_difference-first-requires
add_difference-first-requires c = record {
  within = omega (arith, c.requires.paired, c.loop-j-test.true);
  paired = c.requires.paired;
  inside = λ k d l. omega (arith, c.requires.inside k d l);
  base_is = loaded c.args.sources.now c.args.at 0 c.load.result c.load.ensures.lanes;
  below_is = c.loop-j.invariant.0;
}

pub load-requires-2 : goal.load-requires-2
load-requires-2 c = omega (arith, source_holds (λ s. c.args.at + 64 ≤ length s) c.args.sources.now 0 (omega (arith, c.requires.some)) c.requires.inside)

pub begin-second-requires : goal.begin-second-requires
begin-second-requires c = record {
  some = omega (arith, c.requires.paired, c.requires.some);
  base_is = loaded c.args.sources.now (c.args.at + 16) 0 c.load-2.result c.load-2.ensures.lanes;
}

pub add_difference-second-requires : goal.add_difference-second-requires
add_difference-second-requires c = record {
  within = omega (arith, c.requires.paired, c.loop-j-test.true);
  paired = c.requires.paired;
  inside = λ k d l. omega (arith, c.requires.inside k d l);
  base_is = loaded c.args.sources.now (c.args.at + 16) 0 c.load-2.result c.load-2.ensures.lanes;
  below_is = c.loop-j.invariant.1;
}

pub load-requires-3 : goal.load-requires-3
load-requires-3 c = omega (arith, source_holds (λ s. c.args.at + 64 ≤ length s) c.args.sources.now 0 (omega (arith, c.requires.some)) c.requires.inside)

pub begin-third-requires : goal.begin-third-requires
begin-third-requires c = record {
  some = omega (arith, c.requires.paired, c.requires.some);
  base_is = loaded c.args.sources.now (c.args.at + 32) 0 c.load-3.result c.load-3.ensures.lanes;
}

pub add_difference-third-requires : goal.add_difference-third-requires
add_difference-third-requires c = record {
  within = omega (arith, c.requires.paired, c.loop-j-test.true);
  paired = c.requires.paired;
  inside = λ k d l. omega (arith, c.requires.inside k d l);
  base_is = loaded c.args.sources.now (c.args.at + 32) 0 c.load-3.result c.load-3.ensures.lanes;
  below_is = c.loop-j.invariant.2;
}

pub load-requires-4 : goal.load-requires-4
load-requires-4 c = omega (arith, source_holds (λ s. c.args.at + 64 ≤ length s) c.args.sources.now 0 (omega (arith, c.requires.some)) c.requires.inside)

pub begin-fourth-requires : goal.begin-fourth-requires
begin-fourth-requires c = record {
  some = omega (arith, c.requires.paired, c.requires.some);
  base_is = loaded c.args.sources.now (c.args.at + 48) 0 c.load-4.result c.load-4.ensures.lanes;
}

pub add_difference-fourth-requires : goal.add_difference-fourth-requires
add_difference-fourth-requires c = record {
  within = omega (arith, c.requires.paired, c.loop-j-test.true);
  paired = c.requires.paired;
  inside = λ k d l. omega (arith, c.requires.inside k d l);
  base_is = loaded c.args.sources.now (c.args.at + 48) 0 c.load-4.result c.load-4.ensures.lanes;
  below_is = c.loop-j.invariant.3;
}

pub loop-j-init : goal.loop-j-init
loop-j-init c = (c.begin-first.ensures, c.begin-second.ensures, c.begin-third.ensures, c.begin-fourth.ensures)

pub loop-j-preserved : goal.loop-j-preserved
loop-j-preserved c = (c.add_difference-first.ensures, c.add_difference-second.ensures, c.add_difference-third.ensures, c.add_difference-fourth.ensures)

pub returns-clause-first : goal.returns-clause-first
returns-clause-first c =
    let whole : c.loop-j.j ≡ length c.args.row.now = omega (arith, c.requires.paired, c.requires.some, c.loop-j-test.false, c.loop-j.auto.j) in
    differences_done c.args.row.now (contents c.args.sources.now) c.args.at c.loop-j.j c.loop-j.first whole c.loop-j.invariant.0

pub returns-clause-second : goal.returns-clause-second
returns-clause-second c =
    let whole : c.loop-j.j ≡ length c.args.row.now = omega (arith, c.requires.paired, c.requires.some, c.loop-j-test.false, c.loop-j.auto.j) in
    differences_done c.args.row.now (contents c.args.sources.now) (c.args.at + 16) c.loop-j.j c.loop-j.second whole c.loop-j.invariant.1

pub returns-clause-third : goal.returns-clause-third
returns-clause-third c =
    let whole : c.loop-j.j ≡ length c.args.row.now = omega (arith, c.requires.paired, c.requires.some, c.loop-j-test.false, c.loop-j.auto.j) in
    differences_done c.args.row.now (contents c.args.sources.now) (c.args.at + 32) c.loop-j.j c.loop-j.third whole c.loop-j.invariant.2

pub returns-clause-fourth : goal.returns-clause-fourth
returns-clause-fourth c =
    let whole : c.loop-j.j ≡ length c.args.row.now = omega (arith, c.requires.paired, c.requires.some, c.loop-j-test.false, c.loop-j.auto.j) in
    differences_done c.args.row.now (contents c.args.sources.now) (c.args.at + 48) c.loop-j.j c.loop-j.fourth whole c.loop-j.invariant.3
