-- The names of calls as fields.
use Rattle.std.specs.Prelude.{ℕ, ◌^◌, ◌==◌, List, Option, Some, None, option_and_then, option_map}
use Rattle.std.specs.List.{slice_split}
use Rattle.gz_core.specs.Names.{Name}
use Rattle.gz_text.specs.Fields.{positive_below}
use Rattle.gz_text.specs.Places.{pair_of}

-- the name of two numbers from 1 on
abbrev pub name_of_pair : List ℕ × List ℕ → Option Name
name_of_pair pair = option_and_then (λ session. option_map (λ seq. record { session = session; seq = seq }) (positive_below (2 ^ 32) pair.1)) (positive_below (2 ^ 32) pair.0)

-- a name: the number of a session and that of the call within it, with a point between
abbrev pub name_field : List ℕ → Option Name
name_field field = option_and_then name_of_pair (pair_of (slice_split (λ b. b == 46) field))
