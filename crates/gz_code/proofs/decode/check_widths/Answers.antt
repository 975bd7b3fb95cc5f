use Rattle.std.proofs.Common.{arith, below_more, [], ap, length}
use Rattle.gz_code.proofs.Seen.{bytes_of_item}
use Rattle.gz_code.proofs.decode.check_widths.Goals as goal

pub loop-index-preserved : goal.loop-index-preserved
loop-index-preserved c =
    let bytes = bytes_of_item c.args.pieces.now c.loop-index.index-index c.loop-index-item.result [] c.loop-index-test.true c.loop-index-item.is in
    below_more _ _ c.loop-index.invariant (λ misfit. misfit (omega (arith, ap length bytes, c.loop-index-item.result.1.ok.0, c.len.ensures, c.if-len-width.false)))
