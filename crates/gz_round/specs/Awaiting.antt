-- Which requests a call awaits.
use Rattle.std.specs.Prelude.{ℕ, ◌≡◌, ◌==◌, ◌<◌, ◌≤◌, min, nat_lt, Bool, true, false, if◌then◌else◌, List, length, slice_get, Option, Some, None, is_some}
use Rattle.gz_round.specs.declared.run.Awaited.{Awaited}
use Rattle.gz_round.specs.declared.run.Mark.{Mark}

abbrev pub is_numbered : (ℕ → Bool) → Option Awaited → Bool
is_numbered p None = false
is_numbered p (Some awaited) = p awaited.number

-- whether request n is awaited from a site
abbrev pub has_number : ℕ → Mark → Bool
has_number n mark = is_numbered (λ m. m == n) mark.awaited

-- the site from which request n is awaited
abbrev pub IsSiteOf : List Mark → ℕ → ℕ → Type 0
IsSiteOf marks n s = (mark : Mark) × (slice_get marks s ≡ Some mark) × (has_number n mark ≡ true)

-- whether a request is awaited from a site
abbrev pub is_mark_live : Mark → Bool
is_mark_live mark = is_some mark.awaited

abbrev pub awaited_number : Option Awaited → Option ℕ
awaited_number None = None
awaited_number (Some awaited) = Some awaited.number

-- the number of the request that is awaited from a site
abbrev pub number_of : Mark → Option ℕ
number_of mark = awaited_number mark.awaited

abbrev pub lower_than : Option ℕ → ℕ → ℕ
lower_than None number = number
lower_than (Some other) number = min number other

-- the lower one of a number, if there is one, and another one, if it is from `low` on
abbrev pub lower_of : Option ℕ → ℕ → Option ℕ → Option ℕ
lower_of best low None = best
lower_of best low (Some number) = if nat_lt number low then best else Some (lower_than best number)

-- the number is the least of these from `low` on, which stand below a place
abbrev pub IsLeastBelow : List Mark → ℕ → ℕ → Option ℕ → Type 0
IsLeastBelow marks low bound None = (s : ℕ) (mark : Mark) (m : ℕ) → s < bound → slice_get marks s ≡ Some mark → number_of mark ≡ Some m → m < low
IsLeastBelow marks low bound (Some n) =
    ((s : ℕ) × (mark : Mark) × (slice_get marks s ≡ Some mark) × (number_of mark ≡ Some n) × (low ≤ n))
    × ((s : ℕ) (mark : Mark) (m : ℕ) → s < bound → slice_get marks s ≡ Some mark → number_of mark ≡ Some m → low ≤ m → n ≤ m)

-- the least number from `low` on of the requests that are awaited
abbrev pub IsLeastFrom : List Mark → ℕ → Option ℕ → Type 0
IsLeastFrom marks low n = IsLeastBelow marks low (length marks) n
