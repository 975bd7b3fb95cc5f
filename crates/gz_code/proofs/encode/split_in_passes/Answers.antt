use Rattle.gz_code.proofs.Pieces.{data_wide, split_from}
use Rattle.gz_code.proofs.encode.split_in_passes.Goals as goal

pub parity_pieces-requires-clause-widths : goal.parity_pieces-requires-clause-widths
parity_pieces-requires-clause-widths c =
    data_wide c.args.bytes.now c.div_ceil-width.result c.args.k c.in_ok-pieces.pieces.items c.deref.result.now c.deref.ensures.value c.in_ok-pieces.ensures

pub returns : goal.returns
returns c =
    split_from c.args.k c.args.m c.div_ceil-width.result c.args.bytes.now c.in_ok-pieces.pieces.items c.deref.result.now c.in_ok-parity.parity.items c.append.new.self.items
    c.requires.within_field (λ i. (c.type_inv.bytes i).fits) c.div_ceil-width.ensures c.in_ok-pieces.ensures c.deref.ensures.value c.in_ok-parity.ensures c.in_ok-append.ensures.items
