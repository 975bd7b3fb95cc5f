-- Which version a call asks for, and where it may work for it.
use Rattle.std.specs.Prelude.{ℕ, ◌≡◌, ◌<◌, ◌⊎◌, min, List, Option, Some, None}
use Rattle.gz_config.specs.declared.Config.{Config}
use Rattle.gz_core.specs.declared.calls.Call.{Call}
use Rattle.gz_core.specs.declared.calls.Call.TheVariants.{Put, Delete, Get, GetAt, Collect}
use Rattle.gz_core.specs.History.{Action}
use Rattle.gz_round.specs.declared.run.Target.{Target}
use Rattle.gz_round.specs.declared.run.Target.TheVariants.{Latest, At}
use Rattle.gz_round.specs.Shown.{IsCurrent, IsQuorumHeard}

-- the version that a call asks for: that of a number, or the latest one, to read it or to write after it
abbrev pub target_of : Call → Target
target_of (Put key bytes) = Latest
target_of (Delete key) = Latest
target_of (Get key) = Latest
target_of (GetAt key version) = At version
target_of (Collect key keep) = Latest

-- how many versions a collection keeps
abbrev pub keep_of : Call → Option ℕ
keep_of (Put key bytes) = None
keep_of (Delete key) = None
keep_of (Get key) = None
keep_of (GetAt key version) = None
keep_of (Collect key keep) = Some keep

-- the version at which a call looks, where this one is the highest that has begun
abbrev pub looked_at : Target → ℕ → ℕ
looked_at Latest highest = highest
looked_at (At asked) highest = min asked highest

-- a call works at the version that it asks for, once rows of a classic quorum were heard, or at the latest one, where that lies
-- below
abbrev pub IsAim : Config → Target → List Action → ℕ → Type 0
IsAim c Latest ms v = IsCurrent c ms v
IsAim c (At asked) ms v = ((v ≡ asked) × IsQuorumHeard c ms) ⊎ ((v < asked) × IsCurrent c ms v)

-- the version is the one that is asked for, and rows of a classic quorum were heard
abbrev pub IsAskedFor : Config → Target → List Action → ℕ → Type 0
IsAskedFor c Latest ms v = IsCurrent c ms v
IsAskedFor c (At asked) ms v = (v ≡ asked) × IsQuorumHeard c ms
