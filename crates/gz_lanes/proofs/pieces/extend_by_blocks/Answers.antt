use Rattle.std.proofs.Common.{arith}
use Rattle.gz_lanes.proofs.pieces.extend_by_blocks.Goals as goal

pub one_block-block-requires-clause-inside : goal.one_block-block-requires-clause-inside
one_block-block-requires-clause-inside c k d l =
    let at = c.len-at.ensures in
    let first = c.len.ensures in
    omega (arith, c.requires.inside k d l, c.loop-block.invariant.0, c.loop-block.piece.ok.0, at, first, c.args.piece.now.ok.0, c.loop-block-test.true, c.requires.before)
