use Rattle.std.proofs.Common.{◌*◌}
use Rattle.gz_lanes.specs.Combination.{contents, HasSums}
use Rattle.gz_lanes.proofs.vector.four_blocks.Given as goal

abbrev pub invariant-loop-i : goal.invariant-loop-i
invariant-loop-i l =
    HasSums l.a (contents l.sources) l.at (l.i * 16) l.block_a
    × HasSums l.b (contents l.sources) l.at (l.i * 16) l.block_b
    × HasSums l.c (contents l.sources) l.at (l.i * 16) l.block_c
    × HasSums l.d (contents l.sources) l.at (l.i * 16) l.block_d
