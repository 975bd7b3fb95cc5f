use Rattle.std.proofs.Common.{◌∙◌, ap, length, arith}
use Rattle.gz_lanes.specs.Combination.{contents}
use Rattle.gz_code.proofs.Growing.{numbers_count, are_points, targets_apart}
use Rattle.gz_code.proofs.Pieces.{all_wide}
use Rattle.gz_code.proofs.encode.parity_pieces.Goals as goal

pub pieces_at-requires-clause-few : goal.pieces_at-requires-clause-few
pieces_at-requires-clause-few c =
    let n = length c.args.firsts.now in
    let count = numbers_count n c.args.m c.requires.within_field c.deref.result.now c.deref-3.result.now c.in_ok-points.points.items c.in_ok-targets.targets.items c.in_ok-points.ensures c.in_ok-targets.ensures c.deref.ensures.value c.deref-3.ensures.value in
    omega (arith, count, c.requires.within_field)

pub pieces_at-requires-clause-points : goal.pieces_at-requires-clause-points
pieces_at-requires-clause-points c =
    are_points (length c.args.firsts.now) c.args.m c.requires.within_field c.deref.result.now c.deref-3.result.now c.in_ok-points.points.items c.in_ok-targets.targets.items c.in_ok-points.ensures c.in_ok-targets.ensures c.deref.ensures.value c.deref-3.ensures.value

pub pieces_at-requires-clause-elsewhere : goal.pieces_at-requires-clause-elsewhere
pieces_at-requires-clause-elsewhere c =
    targets_apart (length c.args.firsts.now) c.args.m c.requires.within_field c.deref.result.now c.deref-3.result.now c.in_ok-points.points.items c.in_ok-targets.targets.items c.in_ok-points.ensures c.in_ok-targets.ensures c.deref.ensures.value c.deref-3.ensures.value

pub pieces_at-requires-clause-widths : goal.pieces_at-requires-clause-widths
pieces_at-requires-clause-widths c =
    all_wide c.args.firsts.now (contents c.deref-2.result.now) c.args.width (ap contents c.deref-2.ensures.value ∙ c.in_ok-sources.ensures) c.requires.widths
