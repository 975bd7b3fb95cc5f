use Rattle.std.proofs.Common.{arith, length, slice_index, ◌≡◌, sym}
use Rattle.std.proofs.lemmas.List.{length-take-le}
use Rattle.gz_lanes.specs.Combination.{contents}
use Rattle.gz_lanes.proofs.Columns.{contents_at, source_holds}
use Rattle.gz_code.proofs.Rebuilding.{assembled_more}
use Rattle.gz_code.proofs.decode.assemble.Goals as goal

pub slice_bounds-extend_from_slice-end : goal.slice_bounds-extend_from_slice-end
slice_bounds-extend_from_slice-end c =
    let place = slice_index c.args.order.now c.loop-j.j in
    let wide = source_holds (λ s. length s ≡ c.args.width) c.args.pieces.now place (c.requires.ordered c.loop-j.j c.loop-j-test.true) c.requires.widths in
    sym (length-take-le c.min-count.result _ (omega (arith, wide, c.min-count.ensures)))

pub loop-j-preserved : goal.loop-j-preserved
loop-j-preserved c =
    let place = slice_index c.args.order.now c.loop-j.j in
    assembled_more c.args.order.now (contents c.args.pieces.now) c.args.width c.loop-j.j c.args.len c.min-count.result c.loop-j.object.items c.extend_from_slice.new.self.items _ c.loop-j.invariant
    (source_holds (λ s. length s ≡ c.args.width) c.args.pieces.now place (c.requires.ordered c.loop-j.j c.loop-j-test.true) c.requires.widths)
    (omega (arith, c.min-count.ensures, c.len.ensures, c.loop-j.object.ok.0)) (sym (contents_at c.args.pieces.now place)) c.in_ok-extend_from_slice.ensures.items
