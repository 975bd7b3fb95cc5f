use Rattle.std.proofs.Common.{◌≡◌, take}
use Rattle.std.specs.Prelude.{sum_by}
use Rattle.gz_core.specs.declared.requests.Out.{Out}
use Rattle.gz_world.specs.Weights.{capped, op_weight}
use Rattle.gz_world.proofs.weights.outs_weight.Given as goal

abbrev pub invariant-loop-out : goal.invariant-loop-out
invariant-loop-out l = l.weight ≡ capped (sum_by (λ (o : Out). op_weight o.op) (take l.out-index l.outs))
