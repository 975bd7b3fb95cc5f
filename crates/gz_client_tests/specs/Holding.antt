-- What is known of a client that is driven by hand.
use Rattle.std.specs.Prelude.{ℕ, ◌≤◌, List, length}
use Rattle.gz_core.specs.History.{Trace}
use Rattle.gz_client.specs.declared.client.Client.{Client}
use Rattle.gz_client.specs.Traces.{Holds}

-- the client stands for at most so many traces, and its requests have numbers below `first`
abbrev pub IsHeld : Client → ℕ → ℕ → Type 0
IsHeld client calls first = (next : ℕ) × (ts : List Trace) × Holds client next ts × (next ≤ first) × (length ts ≤ calls)
