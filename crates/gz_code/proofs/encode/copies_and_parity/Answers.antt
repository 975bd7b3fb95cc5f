use Rattle.std.proofs.Common.{length, sym, arith}
use Rattle.gz_code.proofs.Growing.{numbers_count, are_points, targets_apart}
use Rattle.gz_code.proofs.encode.copies_and_parity.Goals as goal

pub copies_and_pieces_at-requires : goal.copies_and_pieces_at-requires
copies_and_pieces_at-requires c =
    let n = length c.args.sources.now in
    let m = c.args.m in
    let points = c.deref.result.now in
    let targets = c.deref-2.result.now in
    let numbers = c.in_ok-points.points.items in
    let others = c.in_ok-targets.targets.items in
    let N = c.in_ok-points.ensures in
    let M = c.in_ok-targets.ensures in
    let few = c.requires.within_field in
    let count = numbers_count n m few points targets numbers others N M c.deref.ensures.value c.deref-2.ensures.value in
    record {
      few = omega (arith, count, few);
      points = are_points n m few points targets numbers others N M c.deref.ensures.value c.deref-2.ensures.value;
      elsewhere = targets_apart n m few points targets numbers others N M c.deref.ensures.value c.deref-2.ensures.value;
      paired = sym count;
      widths = c.requires.widths;
      counted = c.requires.counted;
    }
