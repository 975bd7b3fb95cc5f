use Rattle.std.proofs.Common.{ℕ, ◌+◌, ◌<◌, sym, subst}
use Rattle.std.proofs.lemmas.Simd.{length-chunk, get_or-chunk}
use Rattle.gz_lanes.proofs.lanes.load.Goals as goal

pub returns-clause-lanes : goal.returns-clause-lanes
returns-clause-lanes c = record { long = length-chunk c.args.at 16 c.args.bytes.now c.requires; each = λ k l. get_or-chunk c.args.at 16 c.args.bytes.now k 0 l }

pub returns-clause-are_bytes : goal.returns-clause-are_bytes
returns-clause-are_bytes c k l = subst (λ (x : ℕ). x < 256) (sym (get_or-chunk c.args.at 16 c.args.bytes.now k 0 l)) (c.type_inv.bytes (c.args.at + k)).fits
