use Rattle.std.proofs.Common.{ℕ, ◌<◌}
use Rattle.gz_code.specs.Decoding.{IsBeyond}
use Rattle.gz_code.proofs.decode.check_indices.Given as goal

abbrev pub invariant-loop-index : goal.invariant-loop-index
invariant-loop-index l = (q : ℕ) → q < l.index-index → IsBeyond l.count l.pieces q → ⊥
