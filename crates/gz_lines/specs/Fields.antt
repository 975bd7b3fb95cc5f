-- The forms of fields that lines of schedules have beside numbers and keys.
use Rattle.std.specs.Prelude.{ℕ, ◌^◌, ◌==◌, nat_lt, if◌then◌else◌, List, length, filter_map, Option, Some, None, option_and_then}
use Rattle.std.specs.List.{slice_split}
use Rattle.gz_text.specs.Fields.{number_field, positive_below}

-- the number of a session
abbrev pub session_field : List ℕ → Option ℕ
session_field field = positive_below (2 ^ 32) field

-- a version that a line may ask for
abbrev pub version_field : List ℕ → Option ℕ
version_field field = positive_below (2 ^ 32) field

-- a site: a number below 16
abbrev pub below_sixteen : ℕ → Option ℕ
below_sixteen n = if nat_lt n 16 then Some n else None

abbrev pub site_of : List ℕ → Option ℕ
site_of field = option_and_then below_sixteen (number_field field)

-- the sites of a list, where each of its parts is one
abbrev pub sites_in : List (List ℕ) → Option (List ℕ)
sites_in parts = if length (filter_map site_of parts) == length parts then Some (filter_map site_of parts) else None

-- one or more sites with commas between
abbrev pub sites_field : List ℕ → Option (List ℕ)
sites_field field = sites_in (slice_split (λ b. b == 44) field)
