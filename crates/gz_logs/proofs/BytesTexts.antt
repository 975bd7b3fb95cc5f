-- Bytes are read as they are written.
use Rattle.std.proofs.Common.{ℕ, zero, suc, ◌≡◌, ◌+◌, ◌*◌, ◌/◌, ◌%◌, ◌<◌, List, [], ◌∷◌, length, slice_index, Bool, true, false, inl, inr, refl, sym, ap, ◌∙◌, arith}
use Rattle.std.specs.Prelude.{Option, Some, None, codes, ◌==◌, ◌&&◌, ◌||◌, not, nat_le, Result, Ok, Err}
use Rattle.std.specs.List.{list_all}
use Rattle.std.specs.Result.{result_ok}
use Rattle.std.proofs.lemmas.Bool.{cases_lt, and_parts, eqb-true}
use Rattle.std.proofs.lemmas.Bool.Decides.{nat_tests}
use Rattle.std.proofs.lemmas.Grind.{common_steps}
use Rattle.std.proofs.lemmas.Option.{same_Some}
use Rattle.hex.specs.Hex.{decode_of, decode_pairs, digit_or_error, hex_digit_value, encode_lower, encode_with, lower_digits, pair_value, value_at, ◌>>=◌}
use Rattle.hex.specs.declared.error.FromHexError.{FromHexError}
use Rattle.hex.proofs.HexLemmas.{decode_of-ok, decode_of-even}
use Rattle.gz_core.specs.declared.texts.Why.{Why}
use Rattle.gz_text.specs.declared.faults.Fault.TheVariants.{Bad, TooLong}
use Rattle.gz_text.specs.Faults.{with, or_bad}
use Rattle.gz_text.specs.Fields.{is_dash}
use Rattle.gz_text.specs.Objects.{within}
use Rattle.gz_history.specs.Log.{bytes_text}
use Rattle.gz_logs.specs.Bytes.{is_lower_digit, are_lower_digits, spelled, bytes_in}
use Rattle.gz_logs.proofs.Choices.{with_ok, same_ok, word_read, some_ok, then_ok, either_ok}

-- the digit of a value in lower case is that digit
abbrev is_own_digit : ℕ → Option ℕ → Bool
is_own_digit c None = true
is_own_digit c (Some v) = nat_le v 15 && (slice_index lower_digits v == c)

-- the same, of a digit in lower case
abbrev writes_back : ℕ → Bool
writes_back c = not (is_lower_digit c) || is_own_digit c (hex_digit_value c)

abbrev all_write_back : ℕ → Bool
all_write_back zero = true
all_write_back (suc n) = writes_back n && all_write_back n

write_back_at : (n c : ℕ) → all_write_back n ≡ true → c < n → writes_back c ≡ true
write_back_at zero c h below = absurd (omega arith)
write_back_at (suc n) c h below =
    let parts = and_parts (writes_back n) (all_write_back n) h in
    elim (cases_lt c n) [
      | inl lower ↦ write_back_at n c parts.1 lower
      | inr top ↦ (let e : c ≡ n = omega arith in rw e parts.0)
    ]

-- what was bound to a value
bound : {A B : Type 0} (r : Result A FromHexError) (f : A → Result B FromHexError) (y : B) → (r >>= f) ≡ Ok y → (x : A) × ((r ≡ Ok x) × (f x ≡ Ok y))
bound (Ok x) f y h = (x, (refl, h))
bound (Err e) f y h = absurd (cc)

same_bytes : (x y : List ℕ) → ◌≡◌ {A = Result (List ℕ) FromHexError} (Ok x) (Ok y) → x ≡ y
same_bytes x y h = cc

same_byte : (x y : ℕ) → ◌≡◌ {A = Result ℕ FromHexError} (Ok x) (Ok y) → x ≡ y
same_byte x y h = cc

value_some : (c i : ℕ) (o : Option ℕ) (v : ℕ) → digit_or_error c i o ≡ Ok v → o ≡ Some v
value_some c i (Some w) v h = ap Some (same_byte w v h)
value_some c i None v h = absurd (cc)

implied : (b x : Bool) → b ≡ true → (not b || x) ≡ true → x ≡ true
implied true x h p = p
implied false x h p = absurd (cc)

below_103 : (c : ℕ) → is_lower_digit c ≡ true → c < 103
below_103 c low = grind (arith, nat_tests, common_steps)

digit_read : (c i v : ℕ) → is_lower_digit c ≡ true → value_at c i ≡ Ok v → (v < 16) × (slice_index lower_digits v ≡ c)
digit_read c i v low read =
    let some = value_some c i (hex_digit_value c) v read in
    let back = implied (is_lower_digit c) (is_own_digit c (hex_digit_value c)) low (write_back_at 103 c refl (below_103 c low)) in
    let parts = and_parts (nat_le v 15) (slice_index lower_digits v == c) (sym (ap (is_own_digit c) some) ∙ back) in
    let small = parts.0 in
    (grind (arith, nat_tests, small), eqb-true (slice_index lower_digits v) c parts.1)

pair_back : (byte high next a b : ℕ) (others rest : List ℕ) → byte / 16 ≡ high → byte % 16 ≡ next → slice_index lower_digits high ≡ a → slice_index lower_digits next ≡ b
    → encode_lower others ≡ rest → encode_lower (byte ∷ others) ≡ a ∷ b ∷ rest
unfolding encode_with
pair_back byte high next a b others rest p q r s t = rw (p, q, r, s, t) refl

pairs_read : (i : ℕ) (field bytes : List ℕ) → list_all is_lower_digit field ≡ true → decode_pairs i field ≡ Ok bytes → encode_lower bytes ≡ field
unfolding decode_pairs encode_with
pairs_read i [] bytes low h = ap encode_lower (sym (same_bytes [] bytes h))
pairs_read i (a ∷ []) bytes low h = absurd (cc)
pairs_read i (a ∷ b ∷ rest) bytes low h =
    let byte = bound (pair_value a b i) _ bytes h in
    let high = bound (value_at a i) _ byte.0 byte.1.0 in
    let next = bound (value_at b (i + 1)) _ byte.0 high.1.1 in
    let others = bound (decode_pairs (i + 2) rest) _ bytes byte.1.1 in
    let lows = and_parts (is_lower_digit a) (list_all is_lower_digit (b ∷ rest)) low in
    let more = and_parts (is_lower_digit b) (list_all is_lower_digit rest) lows.1 in
    let first = digit_read a i high.0 lows.0 high.1.0 in
    let second = digit_read b (i + 1) next.0 more.0 next.1.0 in
    let same : high.0 * 16 + next.0 ≡ byte.0 = same_byte (high.0 * 16 + next.0) byte.0 next.1.1 in
    let high_small = first.0 in
    let next_small = second.0 in
    let front : byte.0 / 16 ≡ high.0 = omega (arith, same, high_small, next_small) in
    let back : byte.0 % 16 ≡ next.0 = omega (arith, same, high_small, next_small) in
    let tail = pairs_read (i + 2) rest others.0 more.1 others.1.0 in
    ap encode_lower (sym (same_bytes (byte.0 ∷ others.0) bytes others.1.1))
    ∙ pair_back byte.0 high.0 next.0 a b others.0 rest front back first.1 second.1 tail

written : (bytes field : List ℕ) → 0 < length field → encode_lower bytes ≡ field → bytes_text bytes ≡ field
unfolding encode_with
written [] field some h = let e : 0 ≡ length field = ap (λ (x : List ℕ). length x) h in absurd (omega (arith, e))
written (b ∷ more) field some h = h

some_field : (field : List ℕ) → nat_le 1 (length field) ≡ true → 0 < length field
some_field field h = grind (arith, nat_tests)

pub result_some : (r : Result (List ℕ) FromHexError) (x : List ℕ) → result_ok r ≡ Some x → r ≡ Ok x
result_some (Ok y) x h = ap Ok (same_Some y x h)
result_some (Err e) x h = absurd (cc)

pub bytes_read : (why : Why) (bytes field : List ℕ) → bytes_in why field ≡ Ok bytes → field ≡ bytes_text bytes
bytes_read why bytes field h =
    elim (either_ok (is_dash field) [] (spelled why field) bytes h) [
      | inl dash ↦ word_read (codes "-") field dash.0 ∙ ap bytes_text dash.1
      | inr other ↦ (let low = then_ok (are_lower_digits field) (with (or_bad why (result_ok (decode_of field))) within) (Bad why) bytes other in
          let parts = and_parts (nat_le 1 (length field)) (list_all is_lower_digit field) low.0 in
          let read = with_ok (or_bad why (result_ok (decode_of field))) within bytes low.1 in
          let decoded = result_some (decode_of field) read.0 (some_ok why (result_ok (decode_of field)) read.0 read.1.0) in
          let within_is = same_ok read.0 bytes (then_ok (nat_le (length read.0) 1048576) (Ok read.0) TooLong bytes read.1.1).1 in
          let even = decode_of-ok field read.0 decoded in
          let pairs : decode_pairs 0 field ≡ Ok read.0 = sym (decode_of-even field even.0) ∙ decoded in
          sym (written read.0 field (some_field field parts.0) (pairs_read 0 field read.0 parts.1 pairs)) ∙ ap bytes_text within_is)
    ]
