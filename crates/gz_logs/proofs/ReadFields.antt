-- What is read of a field is within its bounds: numbers, names, keys, bytes and fates.
use Rattle.std.proofs.Common.{ℕ, ◌≡◌, ◌^◌, ◌<◌, ◌≤◌, List, [], length, true, inl, inr, subst, arith}
use Rattle.std.specs.Prelude.{Some, Ok, filter_map, ◌==◌, ◌&&◌, nat_lt, nat_le}
use Rattle.std.specs.List.{list_all, slice_split}
use Rattle.std.specs.Result.{result_ok}
use Rattle.std.proofs.lemmas.Bool.{and_parts}
use Rattle.std.proofs.lemmas.Bool.Decides.{nat_tests}
use Rattle.std.proofs.lemmas.List.Sums.{AllPass-from_list_all}
use Rattle.std.proofs.lemmas.Option.{same_Some}
use Rattle.hex.specs.Hex.{decode_of}
use Rattle.hex.proofs.HexLemmas.{decode_of-ok}
use Rattle.gz_core.specs.Keys.{IsKey, IsKeyByte}
use Rattle.gz_core.specs.Names.{Name}
use Rattle.gz_core.specs.declared.fates.Fate.{Fate}
use Rattle.gz_core.specs.declared.texts.Why.{Why}
use Rattle.gz_text.specs.declared.faults.Fault.TheVariants.{Bad, TooLong}
use Rattle.gz_text.specs.Faults.{with, or_bad}
use Rattle.gz_text.specs.Fields.{is_numeral, value_of, number_below, number_field, from_one, positive_below, is_printable, is_key_field, key_field, is_dash}
use Rattle.gz_text.specs.Names.{name_field, name_of_pair}
use Rattle.gz_text.specs.Objects.{within}
use Rattle.gz_text.specs.Places.{pair_of}
use Rattle.gz_logs.specs.Answers.{version_in, fate_in, fates_in, fates_within}
use Rattle.gz_logs.specs.Bytes.{are_lower_digits, spelled, bytes_in}
use Rattle.gz_logs.specs.Fitting.{IsCount, IsVersion, IsName, IsObject, AreFates}
use Rattle.gz_logs.proofs.BytesTexts.{result_some}
use Rattle.gz_logs.proofs.Choices.{with_ok, same_ok, some_ok, then_ok, either_ok, then_some, mapped, followed}
use Rattle.gz_logs.proofs.FieldTexts.{name_with, name_from}

-- numbers
pub number_bound : (bound n : ℕ) (field : List ℕ) → number_below bound field ≡ Some n → n < bound
number_bound bound n field h =
    let some = then_some (is_numeral field && nat_lt (value_of field) bound) (Some (value_of field)) n h in
    let both = and_parts (is_numeral field) (nat_lt (value_of field) bound) some.0 in
    let value : value_of field ≡ n = same_Some (value_of field) n some.1 in
    let below : value_of field < bound = grind (arith, nat_tests, both.1) in
    subst (λ (m : ℕ). m < bound) value below

pub count_bound : (n : ℕ) (field : List ℕ) → number_field field ≡ Some n → IsCount n
count_bound n field h = number_bound (2 ^ 32) n field h

pub record IsPositive (bound n : ℕ) : Type 0 where
  pub some : 1 ≤ n
  pub below : n < bound

pub positive_bound : (bound n : ℕ) (field : List ℕ) → positive_below bound field ≡ Some n → IsPositive bound n
positive_bound bound n field h =
    let m = followed from_one (number_below bound field) n h in
    let test = then_some (nat_le 1 m.0) (Some m.0) n m.1.1 in
    subst (IsPositive bound) (same_Some m.0 n test.1) (record { some = grind (arith, nat_tests, test.0); below = number_bound bound m.0 field m.1.0 })

pub version_bound : (v : ℕ) (field : List ℕ) → version_in field ≡ Some v → IsVersion v
version_bound v field h = let p = positive_bound (2 ^ 63) v field h in record { begun = p.some; bounded = p.below }

-- names
pub name_bound : (n : Name) (field : List ℕ) → name_field field ≡ Some n → IsName n
name_bound n field h =
    let parts = slice_split (λ b. b == 46) field in
    let pair = followed name_of_pair (pair_of parts) n h in
    let a = pair.0.0 in
    let b = pair.0.1 in
    let session = followed (name_from b) (positive_below (2 ^ 32) a) n pair.1.1 in
    let seq = mapped (name_with session.0) (positive_below (2 ^ 32) b) n session.1.1 in
    let first = positive_bound (2 ^ 32) session.0 a session.1.0 in
    let second = positive_bound (2 ^ 32) seq.0 b seq.1.0 in
    subst IsName seq.1.1 (record { session = first.some; session_bounded = first.below; seq = second.some; seq_bounded = second.below })

-- keys
key_byte : (b : ℕ) → is_printable b ≡ true → IsKeyByte b
key_byte b h = let parts = and_parts (nat_le 0x21 b) (nat_le b 0x7e) h in (grind (arith, nat_tests, parts.0), grind (arith, nat_tests, parts.1))

pub key_bound : (key field : List ℕ) → key_field field ≡ Some key → IsKey key
key_bound key field h =
    let test = then_some (is_key_field field) (Some field) key h in
    let both = and_parts (nat_le 1 (length field) && nat_le (length field) 255) (list_all is_printable field) test.0 in
    let lengths = and_parts (nat_le 1 (length field)) (nat_le (length field) 255) both.0 in
    let all = AllPass-from_list_all is_printable field both.1 in
    subst IsKey (same_Some field key test.1) (record {
      some = grind (arith, nat_tests, lengths.0);
      bounded = grind (arith, nat_tests, lengths.1);
      printable = λ k d m. key_byte _ (all k d m);
    })

-- bytes
empty_object : IsObject []
empty_object = record { bounded = omega arith; bytes_are = λ i. omega arith }

pub object_bound : (why : Why) (bytes field : List ℕ) → bytes_in why field ≡ Ok bytes → IsObject bytes
object_bound why bytes field h =
    elim (either_ok (is_dash field) [] (spelled why field) bytes h) [
      | inl dash ↦ subst IsObject dash.1 empty_object
      | inr other ↦ (let low = then_ok (are_lower_digits field) (with (or_bad why (result_ok (decode_of field))) within) (Bad why) bytes other in
          let read = with_ok (or_bad why (result_ok (decode_of field))) within bytes low.1 in
          let decoded = result_some (decode_of field) read.0 (some_ok why (result_ok (decode_of field)) read.0 read.1.0) in
          let test = then_ok (nat_le (length read.0) 1048576) (Ok read.0) TooLong bytes read.1.1 in
          let facts = decode_of-ok field read.0 decoded in
          subst IsObject (same_ok read.0 bytes test.1) (record { bounded = grind (arith, nat_tests, test.0); bytes_are = facts.3 }))
    ]

-- fates
pub fates_bound : (fates : List Fate) (field : List ℕ) → fates_in field ≡ Some fates → AreFates fates
fates_bound fates field h =
    let read = filter_map fate_in field in
    let all = then_some (length read == length field) (fates_within read) fates h in
    let test = then_some (nat_le 1 (length read) && nat_le (length read) 16) (Some read) fates all.1 in
    let parts = and_parts (nat_le 1 (length read)) (nat_le (length read) 16) test.0 in
    subst AreFates (same_Some read fates test.1) (record { some = grind (arith, nat_tests, parts.0); bounded = grind (arith, nat_tests, parts.1) })
