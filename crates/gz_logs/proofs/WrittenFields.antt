-- Fields are words, and are read as what they were written of: numbers, names, keys, bytes and fates.
use Rattle.std.proofs.Common.{ℕ, zero, suc, length-append, ◌≡◌, ◌+◌, ◌/◌, ◌%◌, ◌^◌, ◌<◌, ◌≤◌, List, [], ◌∷◌, ◌++◌, length, get_or, slice_index, Bool, true, false, inl, inr, refl, sym, ap, subst, ◌∙◌, append_assoc, arith}
use Rattle.std.specs.Prelude.{Option, Some, None, Ok, Err, decimal, filter_map, ◌==◌, ◌&&◌, ◌||◌, nat_lt, nat_le, nat_eq, option_map, option_and_then, if◌then◌else◌, All}
use Rattle.std.specs.List.{list_all, slice_split}
use Rattle.std.specs.Char.{is_ascii_digit}
use Rattle.std.specs.Result.{result_ok}
use Rattle.std.proofs.lemmas.Bool.{cases_Bool, cases_lt, and_parts}
use Rattle.std.proofs.lemmas.Bool.Decides.{nat_tests}
use Rattle.std.proofs.lemmas.Grind.{common_steps}
use Rattle.std.proofs.lemmas.List.Folds.{list_all-append}
use Rattle.std.proofs.lemmas.List.Sums.{list_all-from_AllPass}
use Rattle.std.proofs.lemmas.List.Splits.{slice_split_none, slice_split_at}
use Rattle.std.proofs.lemmas.Fmt.{digits_decimal, digits_value-decimal, decimal_nonempty, first_decimal, decimal_digit}
use Rattle.hex.specs.Hex.{IsBytes, decode_of, encode_lower, encode_with, lower_digits}
use Rattle.hex.proofs.HexLemmas.{decode_of-encode_lower, length-encode_with}
use Rattle.gz_core.specs.Keys.{IsKey, IsKeyByte}
use Rattle.gz_core.specs.Names.{Name}
use Rattle.gz_core.specs.declared.fates.Fate.{Fate}
use Rattle.gz_core.specs.declared.fates.Fate.TheVariants.{Whole, Damaged, Missing, GivenUp, Failed}
use Rattle.gz_core.specs.declared.texts.Why.{Why}
use Rattle.gz_text.specs.declared.faults.Fault.TheVariants.{Bad, TooLong}
use Rattle.gz_text.specs.Faults.{with, or_bad}
use Rattle.gz_text.specs.Fields.{is_numeral, value_of, number_below, number_field, from_one, positive_below, is_printable, key_field, is_dash}
use Rattle.gz_text.specs.Names.{name_field, name_of_pair}
use Rattle.gz_text.specs.Objects.{within}
use Rattle.gz_text.specs.Places.{pair_of}
use Rattle.gz_history.specs.Log.{name_text, bytes_text, fate_text, fates_text}
use Rattle.gz_logs.specs.Answers.{version_in, fate_in, fates_in}
use Rattle.gz_logs.specs.Bytes.{is_lower_digit, spelled, bytes_in}
use Rattle.gz_logs.specs.Fitting.{IsCount, IsVersion, IsName, IsObject, AreFates}
use Rattle.gz_logs.proofs.NumberLemmas.{own}
use Rattle.gz_logs.proofs.Words.{IsWord, both_pass, none_is}

-- what passes one test passes another
pub all_pass : (p q : ℕ → Bool) (xs : List ℕ) → ((x : ℕ) → p x ≡ true → q x ≡ true) → list_all p xs ≡ true → list_all q xs ≡ true
all_pass p q [] h pass = refl
all_pass p q (x ∷ xs) h pass =
    let parts = and_parts (p x) (list_all p xs) pass in
    both_pass (q x) (list_all q xs) (h x parts.0) (all_pass p q xs h parts.1)

-- numbers
digits : (n : ℕ) → n < 2 ^ 64 → list_all is_ascii_digit (decimal n) ≡ true
digits n h = digits_decimal own n h

printable_digit : (x : ℕ) → is_ascii_digit x ≡ true → is_printable x ≡ true
printable_digit x h = grind (arith, nat_tests, common_steps)

pub decimal_word : (n : ℕ) → n < 2 ^ 64 → IsWord (decimal n)
decimal_word n h = record { some = decimal_nonempty n h; printable = all_pass is_ascii_digit is_printable (decimal n) printable_digit (digits n h) }

begins_well : (n : ℕ) → n < 2 ^ 64 → (nat_lt 48 (slice_index (decimal n) 0) || (length (decimal n) == 1)) ≡ true
begins_well zero h = rw (decimal_digit 0 (omega arith)) refl
begins_well (suc n) h = let first = first_decimal (suc n) (omega arith) h in grind (arith, nat_tests, common_steps)

pub number_read : (bound n : ℕ) → n < bound → bound ≤ 2 ^ 64 → number_below bound (decimal n) ≡ Some n
number_read bound n below most =
    let small : n < 2 ^ 64 = omega arith in
    let value : value_of (decimal n) ≡ n = digits_value-decimal own n small in
    let numeral : is_numeral (decimal n) ≡ true = both_pass (list_all is_ascii_digit (decimal n)) (nat_lt 48 (slice_index (decimal n) 0) || (length (decimal n) == 1)) (digits n small) (begins_well n small) in
    let least : nat_lt (value_of (decimal n)) bound ≡ true = rw value (grind (arith, nat_tests)) in
    let test : (is_numeral (decimal n) && nat_lt (value_of (decimal n)) bound) ≡ true = both_pass (is_numeral (decimal n)) (nat_lt (value_of (decimal n)) bound) numeral least in
    ap (λ (t : Bool). if t then Some (value_of (decimal n)) else None) test ∙ ap Some value

pub count_read : (n : ℕ) → IsCount n → number_field (decimal n) ≡ Some n
count_read n h = number_read (2 ^ 32) n h (omega arith)

pub positive_read : (bound n : ℕ) → 1 ≤ n → n < bound → bound ≤ 2 ^ 64 → positive_below bound (decimal n) ≡ Some n
positive_read bound n some below most =
    let one : nat_le 1 n ≡ true = grind (arith, nat_tests) in
    ap (λ (o : Option ℕ). option_and_then from_one o) (number_read bound n below most) ∙ ap (λ (t : Bool). if t then Some n else None) one

pub version_read : (v : ℕ) → IsVersion v → version_in (decimal v) ≡ Some v
version_read v h = positive_read (2 ^ 63) v h.begun h.bounded (omega arith)

-- names
no_point : (n : ℕ) → n < 2 ^ 64 → All (λ x. (x == 46) ≡ false) (decimal n)
no_point n h = none_is is_ascii_digit 46 (decimal n) refl (digits n h)

-- a name is a number, and a point before the other
pointed : (n : Name) → name_text n ≡ decimal n.session ++ 46 ∷ decimal n.seq
pointed n = append_assoc (decimal n.session) (46 ∷ []) (decimal n.seq)

name_parts : (n : Name) → IsName n → slice_split (λ b. b == 46) (name_text n) ≡ decimal n.session ∷ decimal n.seq ∷ []
name_parts n h =
    let first = no_point n.session (omega (arith, h.session_bounded)) in
    let second = no_point n.seq (omega (arith, h.seq_bounded)) in
    ap (λ (x : List ℕ). slice_split (λ b. b == 46) x) (pointed n)
    ∙ slice_split_at (λ b. b == 46) (decimal n.session) 46 (decimal n.seq) first refl
    ∙ ap (λ (parts : List (List ℕ)). decimal n.session ∷ parts) (slice_split_none (λ b. b == 46) (decimal n.seq) second)

pub name_of : (n : Name) → IsName n → name_field (name_text n) ≡ Some n
name_of n h =
    let session = positive_read (2 ^ 32) n.session h.session h.session_bounded (omega arith) in
    let seq = positive_read (2 ^ 32) n.seq h.seq h.seq_bounded (omega arith) in
    ap (λ (parts : List (List ℕ)). option_and_then name_of_pair (pair_of parts)) (name_parts n h)
    ∙ ap (λ (o : Option ℕ). option_and_then (λ (s : ℕ). option_map (λ q. record { session = s; seq = q }) (positive_below (2 ^ 32) (decimal n.seq))) o) session
    ∙ ap (λ (o : Option ℕ). option_map (λ q. record { session = n.session; seq = q }) o) seq

pub name_word : (n : Name) → IsName n → IsWord (name_text n)
name_word n h =
    let first = decimal_word n.session (omega (arith, h.session_bounded)) in
    let second = decimal_word n.seq (omega (arith, h.seq_bounded)) in
    let some : 0 < length (decimal n.session ++ 46 ∷ decimal n.seq) = omega (arith, first.some, length-append (decimal n.session) (46 ∷ decimal n.seq)) in
    let all : list_all is_printable (decimal n.session ++ 46 ∷ decimal n.seq) ≡ true =
    list_all-append is_printable (decimal n.session) (46 ∷ decimal n.seq)
    ∙ both_pass (list_all is_printable (decimal n.session)) (list_all is_printable (decimal n.seq)) first.printable second.printable in
    subst IsWord (sym (pointed n)) (record { some = some; printable = all })

-- numbers and names begin with a digit
first_of_two : (xs ys : List ℕ) → 0 < length xs → get_or (xs ++ ys) 0 0 ≡ get_or xs 0 0
first_of_two [] ys h = absurd (omega arith)
first_of_two (x ∷ xs) ys h = refl

first_digit : (xs : List ℕ) → 0 < length xs → list_all is_ascii_digit xs ≡ true → is_ascii_digit (get_or xs 0 0) ≡ true
first_digit [] some h = absurd (omega arith)
first_digit (x ∷ xs) some h = (and_parts (is_ascii_digit x) (list_all is_ascii_digit xs) h).0

pub decimal_begins : (n : ℕ) → n < 2 ^ 64 → is_ascii_digit (get_or (decimal n) 0 0) ≡ true
decimal_begins n h = first_digit (decimal n) (decimal_nonempty n h) (digits n h)

pub name_begins : (n : Name) → IsName n → is_ascii_digit (get_or (name_text n) 0 0) ≡ true
name_begins n h =
    let small : n.session < 2 ^ 64 = omega (arith, h.session_bounded) in
    ap (λ (x : List ℕ). is_ascii_digit (get_or x 0 0)) (pointed n)
    ∙ ap is_ascii_digit (first_of_two (decimal n.session) (46 ∷ decimal n.seq) (decimal_nonempty n.session small))
    ∙ decimal_begins n.session small

-- keys
key_byte : (b : ℕ) → IsKeyByte b → is_printable b ≡ true
key_byte b h = let low = h.0 in let high = h.1 in grind (arith, nat_tests)

printable_key : (key : List ℕ) → IsKey key → list_all is_printable key ≡ true
printable_key key h = list_all-from_AllPass is_printable key (λ k d m. key_byte _ (h.printable k d m))

pub key_word : (key : List ℕ) → IsKey key → IsWord key
key_word key h = record { some = omega (arith, h.some); printable = printable_key key h }

pub key_read : (key : List ℕ) → IsKey key → key_field key ≡ Some key
key_read key h =
    let printable = printable_key key h in
    let some : nat_le 1 (length key) ≡ true = let l = h.some in grind (arith, nat_tests) in
    let most : nat_le (length key) 255 ≡ true = let l = h.bounded in grind (arith, nat_tests) in
    rw (some, most, printable) refl

-- bytes
abbrev all_low : ℕ → Bool
all_low zero = true
all_low (suc n) = is_lower_digit (slice_index lower_digits n) && all_low n

low_at : (n d : ℕ) → all_low n ≡ true → d < n → is_lower_digit (slice_index lower_digits d) ≡ true
low_at zero d h below = absurd (omega arith)
low_at (suc n) d h below =
    let parts = and_parts (is_lower_digit (slice_index lower_digits n)) (all_low n) h in
    elim (cases_lt d n) [
      | inl lower ↦ low_at n d parts.1 lower
      | inr top ↦ (let e : d ≡ n = omega arith in rw e parts.0)
    ]

low_digits : (bytes : List ℕ) → IsBytes bytes → list_all is_lower_digit (encode_lower bytes) ≡ true
unfolding encode_with
low_digits [] h = refl
low_digits (b ∷ bs) h =
    let fits : b < 256 = h 0 in
    let high : b / 16 < 16 = omega arith in
    let low : b % 16 < 16 = omega arith in
    both_pass (is_lower_digit (slice_index lower_digits (b / 16))) _ (low_at 16 (b / 16) refl high)
    (both_pass (is_lower_digit (slice_index lower_digits (b % 16))) _ (low_at 16 (b % 16) refl low) (low_digits bs (λ i. h (suc i))))

printable_low : (x : ℕ) → is_lower_digit x ≡ true → is_printable x ≡ true
printable_low x h = grind (arith, nat_tests, common_steps)

pub bytes_word : (bytes : List ℕ) → IsBytes bytes → IsWord (bytes_text bytes)
bytes_word [] h = record { some = omega arith; printable = refl }
bytes_word (b ∷ bs) h =
    let len = length-encode_with lower_digits (b ∷ bs) in
    record { some = omega (arith, len); printable = all_pass is_lower_digit is_printable (encode_lower (b ∷ bs)) printable_low (low_digits (b ∷ bs) h) }

two_no_dash : (field : List ℕ) → 2 ≤ length field → is_dash field ≡ false
two_no_dash [] h = absurd (omega arith)
two_no_dash (x ∷ []) h = absurd (omega arith)
two_no_dash (x ∷ y ∷ more) h =
    elim (cases_Bool (nat_eq x 45)) [
      | inl same ↦ rw same refl
      | inr other ↦ rw other refl
    ]

pub bytes_read_back : (why : Why) (bytes : List ℕ) → IsObject bytes → bytes_in why (bytes_text bytes) ≡ Ok bytes
bytes_read_back why [] h = refl
bytes_read_back why (b ∷ bs) h =
    let field = encode_lower (b ∷ bs) in
    let len = length-encode_with lower_digits (b ∷ bs) in
    let some : nat_le 1 (length field) ≡ true = grind (arith, nat_tests, len) in
    let most : nat_le (length (b ∷ bs)) 1048576 ≡ true = let l = h.bounded in grind (arith, nat_tests) in
    let low = both_pass (nat_le 1 (length field)) (list_all is_lower_digit field) some (low_digits (b ∷ bs) h.bytes_are) in
    ap (λ (t : Bool). if t then Ok [] else spelled why field) (two_no_dash field (omega (arith, len)))
    ∙ ap (λ (t : Bool). if t then with (or_bad why (result_ok (decode_of field))) within else Err (Bad why)) low
    ∙ ap (λ r. with (or_bad why (result_ok r)) within) (decode_of-encode_lower (b ∷ bs) h.bytes_are)
    ∙ ap (λ (t : Bool). if t then Ok (b ∷ bs) else Err TooLong) most

-- fates
fate_back : (fate : Fate) (more : List ℕ) → filter_map fate_in (fate_text fate ++ more) ≡ fate ∷ filter_map fate_in more
fate_back Whole more = refl
fate_back Damaged more = refl
fate_back Missing more = refl
fate_back GivenUp more = refl
fate_back Failed more = refl

fates_back : (fates : List Fate) → filter_map fate_in (fates_text fates) ≡ fates
fates_back [] = refl
fates_back (fate ∷ more) = fate_back fate (fates_text more) ∙ ap (λ (fs : List Fate). fate ∷ fs) (fates_back more)

one_letter : (fate : Fate) (more : List ℕ) → length (fate_text fate ++ more) ≡ length more + 1
one_letter Whole more = omega arith
one_letter Damaged more = omega arith
one_letter Missing more = omega arith
one_letter GivenUp more = omega arith
one_letter Failed more = omega arith

as_many : (fates : List Fate) → length (fates_text fates) ≡ length fates
as_many [] = refl
as_many (fate ∷ more) = omega (arith, one_letter fate (fates_text more), as_many more)

pub fates_of : (fates : List Fate) → AreFates fates → fates_in (fates_text fates) ≡ Some fates
fates_of fates h =
    let back = fates_back fates in
    let many = as_many fates in
    let some : nat_le 1 (length fates) ≡ true = let l = h.some in grind (arith, nat_tests) in
    let most : nat_le (length fates) 16 ≡ true = let l = h.bounded in grind (arith, nat_tests) in
    let same : (length fates == length (fates_text fates)) ≡ true = grind (arith, nat_tests) in
    rw (back, same, some, most) refl

letter_printable : (fate : Fate) (more : List ℕ) → list_all is_printable more ≡ true → list_all is_printable (fate_text fate ++ more) ≡ true
letter_printable Whole more h = h
letter_printable Damaged more h = h
letter_printable Missing more h = h
letter_printable GivenUp more h = h
letter_printable Failed more h = h

letters_printable : (fates : List Fate) → list_all is_printable (fates_text fates) ≡ true
letters_printable [] = refl
letters_printable (fate ∷ more) = letter_printable fate (fates_text more) (letters_printable more)

pub fates_word : (fates : List Fate) → AreFates fates → IsWord (fates_text fates)
fates_word fates h = let some = h.some in let many = as_many fates in record { some = omega arith; printable = letters_printable fates }
