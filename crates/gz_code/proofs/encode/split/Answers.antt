use Rattle.std.proofs.Common.{◌≡◌, length, arith, ap, sym, ◌∙◌, subst, take}
use Rattle.std.specs.Prelude.{All}
use Rattle.gz_lanes.specs.Combination.{contents}
use Rattle.gz_lanes.proofs.Columns.{length-contents}
use Rattle.gz_code.specs.Encoding.{AreParity}
use Rattle.gz_code.specs.Interpolation.{rows}
use Rattle.gz_code.proofs.Cutting.{data_sources, sources_wide, split_by_slices}
use Rattle.gz_code.proofs.encode.split.Goals as goal

pub copies_and_parity-requires-clause-within_field : goal.copies_and_parity-requires-clause-within_field
copies_and_parity-requires-clause-within_field c =
    let D = data_sources c.args.bytes.now c.div_ceil-width.result c.whole_pieces-whole.result c.args.k c.in_ok-rest.rest.items c.deref.result.now (contents c.in_ok-sources.sources.items) c.whole_pieces-whole.ensures.few c.in_ok-rest.ensures c.deref.ensures.value c.in_ok-sources.ensures in
    omega (arith, D.count, length-contents c.in_ok-sources.sources.items, ap length c.deref-2.ensures.value, c.requires.within_field)

pub copies_and_parity-requires-clause-counted : goal.copies_and_parity-requires-clause-counted
copies_and_parity-requires-clause-counted c =
    let D = data_sources c.args.bytes.now c.div_ceil-width.result c.whole_pieces-whole.result c.args.k c.in_ok-rest.rest.items c.deref.result.now (contents c.in_ok-sources.sources.items) c.whole_pieces-whole.ensures.few c.in_ok-rest.ensures c.deref.ensures.value c.in_ok-sources.ensures in
    omega (arith, D.count, length-contents c.in_ok-sources.sources.items, ap length c.deref-2.ensures.value, c.whole_pieces-whole.ensures.few)

pub copies_and_parity-requires-clause-widths : goal.copies_and_parity-requires-clause-widths
copies_and_parity-requires-clause-widths c =
    subst (λ s. All (λ slice. length slice ≡ c.div_ceil-width.result) (contents s)) (sym c.deref-2.ensures.value)
    (sources_wide c.args.bytes.now c.div_ceil-width.result c.whole_pieces-whole.result c.args.k c.in_ok-rest.rest.items c.deref.result.now (contents c.in_ok-sources.sources.items) c.whole_pieces-whole.ensures.few c.in_ok-rest.ensures c.deref.ensures.value c.in_ok-sources.ensures)

pub returns : goal.returns
returns c =
    split_by_slices c.args.bytes.now c.div_ceil-width.result c.whole_pieces-whole.result c.args.k c.in_ok-rest.rest.items c.deref.result.now (contents c.in_ok-sources.sources.items) c.whole_pieces-whole.ensures.few c.in_ok-rest.ensures c.deref.ensures.value c.in_ok-sources.ensures
    c.args.m c.in_ok-pieces.pieces.items c.append.new.self.items c.in_ok-pieces.parity.items c.append-2.new.self.items c.requires.within_field (λ i. (c.type_inv.bytes i).fits) c.div_ceil-width.ensures
    (c.in_ok-pieces.ensures.copies ∙ ap (λ s. take c.whole_pieces-whole.result (contents s)) c.deref-2.ensures.value)
    (subst (λ s. AreParity (contents s) c.div_ceil-width.result c.args.m (rows c.in_ok-pieces.parity)) c.deref-2.ensures.value c.in_ok-pieces.ensures.parity)
    c.in_ok-append.ensures.items c.in_ok-append-2.ensures.items
