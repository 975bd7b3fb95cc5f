-- The bound at which the world takes no more events.
use Rattle.std.specs.Prelude.{◌≤◌, ◌⊎◌, length}
use Rattle.gz_world.specs.declared.world.World.{World}

-- 4,000,000 events are in the journal, or 1,073,741,824 bytes are held
abbrev pub IsFull : {S : Type 0} → World S → Type 0
IsFull w = (4000000 ≤ length w.journal.items) ⊎ (1073741824 ≤ w.held)
