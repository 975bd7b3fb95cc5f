-- A list of sites by their places.
use Rattle.std.specs.Prelude.{ℕ, ◌≡◌, ◌≢◌, List, Option, Result, slice_get, option_and_then, option_map, unwrap_or}
use Rattle.gz_core.specs.Causes.{HasCountedFault}
use Rattle.gz_site.specs.Told.{Told, Tells}

-- what the site at a place tells, none also where there is no such site
abbrev pub told_at : {S : Type 0} → (S → Option Told) → List S → ℕ → Option Told
told_at told sites at = option_and_then told (slice_get sites at)

-- a relation between what the site at a place told before and tells now
abbrev pub TellsAt : {S : Type 0} → (S → Option Told) → List S → ℕ → List S → (Told → Told → Type 0) → Type 0
TellsAt told olds at news R = Tells (told_at told olds at) (told_at told news at) R

-- the faults that the site at a place has counted
abbrev pub faults_at : {S : Type 0} → (S → ℕ) → List S → ℕ → ℕ
faults_at faults sites at = unwrap_or (option_map faults (slice_get sites at)) 0

-- the fault comes only where the count of the site at this place rose
abbrev pub CauseAt : {S T E : Type 0} → (S → ℕ) → E → List S → ℕ → List S → Result T E → Type 0
CauseAt faults failed olds at news result = HasCountedFault failed (faults_at faults olds at) (faults_at faults news at) result

-- the sites at all other places stay as they were
abbrev pub OthersStay : {S : Type 0} → List S → ℕ → List S → Type 0
OthersStay olds at news = (i : ℕ) → i ≢ at → slice_get news i ≡ slice_get olds i
