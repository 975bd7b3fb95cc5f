use Rattle.std.proofs.Common.{◌≡◌, ◌-◌, ◌+◌, ◌≤◌, length}
use Rattle.gz_rowfmt.specs.Reading.{fragments_at}
use Rattle.gz_rowfmt.proofs.Loops.{with_front}
use Rattle.gz_rowfmt.proofs.reading.values.fragments_of.Given as goal

abbrev pub invariant-loop : goal.invariant-loop
invariant-loop l =
    (with_front l.fragments.items (fragments_at (l.count - l.counter) l.place l.rest) ≡ fragments_at l.count l.at l.bytes)
    × (l.place + length l.rest ≡ l.at + length l.bytes)
    × (l.at ≤ l.place)
    × (length l.fragments.items ≡ l.counter)
