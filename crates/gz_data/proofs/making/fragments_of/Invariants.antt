use Rattle.std.proofs.Common.{◌≡◌, ℕ, List, length, map}
use Rattle.std.specs.List.{range_with_len}
use Rattle.gz_data.specs.Own.{fragments_from}
use Rattle.gz_data.proofs.making.fragments_of.Given as goal

abbrev pub invariant-loop-i : goal.invariant-loop-i
invariant-loop-i l = (f : ℕ → List ℕ) → l.records ≡ map f (range_with_len 0 (length l.records)) → l.fragments.items ≡ fragments_from f l.i
