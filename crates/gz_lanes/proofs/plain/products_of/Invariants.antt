use Rattle.std.proofs.Common.{◌≡◌, ℕ, ◌<◌, length, slice_index}
use Rattle.gz_field.specs.Field.{product}
use Rattle.gz_lanes.proofs.plain.products_of.Given as goal

abbrev pub invariant-loop-byte : goal.invariant-loop-byte
invariant-loop-byte l = (length l.row ≡ 256) × ((k : ℕ) → k < l.byte → slice_index l.row k ≡ product l.coefficient k)
