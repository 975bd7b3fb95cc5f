-- The bytes that a field of a log stands for.
use Rattle.std.specs.Prelude.{ℕ, ◌&&◌, ◌||◌, nat_le, Bool, if◌then◌else◌, List, [], length, Result, Ok, Err}
use Rattle.std.specs.List.{list_all}
use Rattle.std.specs.Result.{result_ok}
use Rattle.hex.specs.Hex.{decode_of}
use Rattle.gz_core.specs.declared.texts.Why.{Why}
use Rattle.gz_text.specs.declared.faults.Fault.{Fault}
use Rattle.gz_text.specs.declared.faults.Fault.TheVariants.{Bad}
use Rattle.gz_text.specs.Faults.{with, or_bad}
use Rattle.gz_text.specs.Fields.{is_dash}
use Rattle.gz_text.specs.Objects.{within}

-- a hexadecimal digit in lower case
abbrev pub is_lower_digit : ℕ → Bool
is_lower_digit b = (nat_le 48 b && nat_le b 57) || (nat_le 97 b && nat_le b 102)

-- at least one of them
abbrev pub are_lower_digits : List ℕ → Bool
are_lower_digits field = nat_le 1 (length field) && list_all is_lower_digit field

-- the bytes that hexadecimal digits in lower case spell; a field of another form has the fault of this word
abbrev pub spelled : Why → List ℕ → Result (List ℕ) Fault
spelled why field = if are_lower_digits field then with (or_bad why (result_ok (decode_of field))) within else Err (Bad why)

-- bytes, a dash where there are none
abbrev pub bytes_in : Why → List ℕ → Result (List ℕ) Fault
bytes_in why field = if is_dash field then Ok [] else spelled why field
