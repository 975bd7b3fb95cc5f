-- Faults of what is handed in: each is counted, and a call reports one only where the count rose.
use Rattle.std.specs.Prelude.{ℕ, ◌≡◌, ◌≤◌, ◌+◌, ◌-◌, ◌^◌, min, Result, Err}

-- a count rose, or stands at the last value of its type
abbrev pub Rose : ℕ → ℕ → Type 0
Rose before now = min (before + 1) (2 ^ 64 - 1) ≤ now

-- the count never falls, and a call answers this fault only where it rose
pub record HasCountedFault {T E : Type 0} (failed : E) (before now : ℕ) (result : Result T E) : Type 0 where
  pub later : before ≤ now
  pub rose : result ≡ Err failed → Rose before now
