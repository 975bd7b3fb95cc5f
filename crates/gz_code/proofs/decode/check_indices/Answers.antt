use Rattle.std.proofs.Common.{arith, below_more}
use Rattle.gz_code.proofs.Seen.{index_of_item}
use Rattle.gz_code.proofs.decode.check_indices.Goals as goal

pub loop-index-preserved : goal.loop-index-preserved
loop-index-preserved c =
    let index = index_of_item c.args.pieces.now c.loop-index.index-index c.loop-index-item.result c.loop-index-test.true c.loop-index-item.is in
    below_more _ _ c.loop-index.invariant (λ beyond. absurd (omega (arith, index, beyond)))
