use Rattle.std.proofs.Common.{◌≡◌, ◌-◌, ◌≤◌, length, ltb}
use Rattle.gz_rowfmt.specs.Reading.{columns_at}
use Rattle.gz_rowfmt.proofs.Loops.{with_front}
use Rattle.gz_rowfmt.proofs.reading.columns_of.Given as goal

abbrev pub invariant-loop : goal.invariant-loop
invariant-loop l =
    (with_front l.columns.items (columns_at (l.count - l.counter) l.raised l.before l.end l.rest) ≡ columns_at l.count (ltb 0 l.floor) l.floor l.end l.bytes)
    × (length l.rest ≤ length l.bytes)
