-- The forms of fields.
use Rattle.std.specs.Prelude.{ℕ, ◌+◌, ◌-◌, ◌*◌, ◌^◌, ◌==◌, ◌&&◌, ◌||◌, slice_index, Bool, nat_eq, nat_lt, nat_le, codes, if◌then◌else◌, List, length, filter_map, fold, Option, Some, None, option_and_then}
use Rattle.std.specs.List.{list_all, slice_split}
use Rattle.std.specs.Char.{is_ascii_digit}
use Rattle.std.specs.Cmp.Lexicographic.{pointwise}

-- decimal digits without leading zeros, except 0 itself
abbrev pub is_numeral : List ℕ → Bool
is_numeral digits = list_all is_ascii_digit digits && (nat_lt 48 (slice_index digits 0) || (length digits == 1))

-- the number that decimal digits spell
abbrev pub value_of : List ℕ → ℕ
value_of digits = fold (λ n d. n * 10 + (d - 48)) 0 digits

-- a number below a bound
abbrev pub number_below : ℕ → List ℕ → Option ℕ
number_below bound field = if is_numeral field && nat_lt (value_of field) bound then Some (value_of field) else None

-- a number below 2^32
abbrev pub number_field : List ℕ → Option ℕ
number_field field = number_below (2 ^ 32) field

-- a number that is at least 1
abbrev pub from_one : ℕ → Option ℕ
from_one n = if nat_le 1 n then Some n else None

-- a number from 1 on below a bound
abbrev pub positive_below : ℕ → List ℕ → Option ℕ
positive_below bound field = option_and_then from_one (number_below bound field)

-- a printable character of ASCII that is no blank
abbrev pub is_printable : ℕ → Bool
is_printable b = nat_le 0x21 b && nat_le b 0x7e

-- the bytes of a key: 1 to 255 printable characters of ASCII that are no blanks
abbrev pub is_key_field : List ℕ → Bool
is_key_field field = nat_le 1 (length field) && nat_le (length field) 255 && list_all is_printable field

abbrev pub key_field : List ℕ → Option (List ℕ)
key_field field = if is_key_field field then Some field else None

-- the field is this word
abbrev pub is_word : List ℕ → List ℕ → Bool
is_word word field = pointwise nat_eq field word

-- the field is a dash, which stands for nothing
abbrev pub is_dash : List ℕ → Bool
is_dash field = is_word (codes "-") field
