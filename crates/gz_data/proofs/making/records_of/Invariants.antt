use Rattle.std.proofs.Common.{◌≡◌, map}
use Rattle.std.specs.List.{range_with_len}
use Rattle.gz_data.specs.Own.{record_at}
use Rattle.gz_data.proofs.making.records_of.Given as goal

abbrev pub invariant-loop-i : goal.invariant-loop-i
invariant-loop-i l = l.records.items ≡ map (record_at l.config l.name l.key l.object (map (λ p. p.items) l.pieces)) (range_with_len 0 l.i)
