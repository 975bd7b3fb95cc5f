use Rattle.std.proofs.Common.{◌≡◌, ℕ, ◌<◌, slice_index}
use Rattle.gz_lanes.specs.Quads.{in_first, second_weight, third_weight, fourth_weight}
use Rattle.gz_lanes.proofs.quads.are_quads.Given as goal

abbrev pub invariant-loop-j : goal.invariant-loop-j
invariant-loop-j l =
    (i : ℕ) → i < l.j
    → (slice_index l.a i ≡ in_first l.constants i) × (slice_index l.b i ≡ second_weight l.constants i) × (slice_index l.c i ≡ third_weight l.constants i) × (slice_index l.d i ≡ fourth_weight l.constants i)
