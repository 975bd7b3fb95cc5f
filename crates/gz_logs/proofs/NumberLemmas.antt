-- Numbers are read as they are written.
use Rattle.std.proofs.Common.{ℕ, ◌≡◌, ◌+◌, ◌-◌, ◌*◌, ◌^◌, ◌<◌, ◌≤◌, List, [], ◌∷◌, length, get_or, slice_index, Bool, true, sym, ap, ◌∙◌, arith, rules}
use Rattle.std.specs.Prelude.{Some, decimal, fold, ◌==◌, ◌&&◌, ◌||◌, nat_lt}
use Rattle.std.specs.List.{list_all}
use Rattle.std.specs.Char.{is_ascii_digit}
use Rattle.std.proofs.lemmas.Bool.{and_parts}
use Rattle.std.proofs.lemmas.Bool.Decides.{nat_tests}
use Rattle.std.proofs.lemmas.Grind.{common_steps}
use Rattle.std.proofs.lemmas.Option.{same_Some}
use Rattle.std.proofs.lemmas.Fmt.{decimal-digits_value}
use Rattle.std.proofs.lemmas.Str.Parse.{IsNumeralModel, numerals_by_fold}
use Rattle.gz_text.specs.Fields.{is_numeral, value_of, number_below}
use Rattle.gz_logs.proofs.Choices.{then_some}

-- the number of the digits after those of a number
abbrev value_from : ℕ → List ℕ → ℕ
value_from n digits = fold (λ m d. m * 10 + (d - 48)) n digits

pub own : IsNumeralModel (λ ds. list_all is_ascii_digit ds ≡ true) value_of
own = numerals_by_fold (λ ds. list_all is_ascii_digit ds ≡ true) (search rules) value_from (search rules)

-- what a numeral begins with
abbrev begins_well : List ℕ → Bool
begins_well field = nat_lt 48 (slice_index field 0) || (length field == 1)

not_empty : (field : List ℕ) → begins_well field ≡ true → 0 < length field
not_empty [] h = absurd (cc)
not_empty (x ∷ xs) h = omega arith

zero_alone : (field : List ℕ) → begins_well field ≡ true → get_or field 0 0 ≡ 48 → length field ≡ 1
zero_alone [] h zero = absurd (cc)
zero_alone (x ∷ xs) h zero = grind (arith, nat_tests, common_steps)

-- a number that is read is written so
pub decimal-number : (bound n : ℕ) (field : List ℕ) → bound ≤ 2 ^ 64 → number_below bound field ≡ Some n → field ≡ decimal n
decimal-number bound n field h read =
    let some = then_some (is_numeral field && nat_lt (value_of field) bound) (Some (value_of field)) n read in
    let both = and_parts (is_numeral field) (nat_lt (value_of field) bound) some.0 in
    let numeral = and_parts (list_all is_ascii_digit field) (begins_well field) both.0 in
    let value : value_of field ≡ n = same_Some (value_of field) n some.1 in
    let below : value_of field < bound = grind (arith, nat_tests, both.1) in
    sym (decimal-digits_value own field numeral.0 (not_empty field numeral.1) (zero_alone field numeral.1) (omega (arith, below, h))) ∙ ap decimal value
