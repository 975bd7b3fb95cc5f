use Rattle.std.proofs.Common.{ℕ, ◌<◌}
use Rattle.gz_code.specs.Decoding.{IsMisfit}
use Rattle.gz_code.proofs.decode.check_widths.Given as goal

abbrev pub invariant-loop-index : goal.invariant-loop-index
invariant-loop-index l = (q : ℕ) → q < l.index-index → IsMisfit l.width l.pieces q → ⊥
