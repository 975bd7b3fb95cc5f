-- Fields are read as they are written: names, versions, bytes and fates.
use Rattle.std.proofs.Common.{ℕ, ◌≡◌, ◌^◌, ◌≤◌, List, [], ◌∷◌, ◌++◌, length, ◌⊎◌, inl, inr, refl, sym, ap, ◌∙◌, append_assoc, arith}
use Rattle.std.specs.Prelude.{Option, Some, None, decimal, filter_map, ◌==◌, ◌&&◌, nat_le, option_map}
use Rattle.std.specs.List.{slice_split, join_with_byte}
use Rattle.std.proofs.lemmas.Bool.{eqb-true}
use Rattle.std.proofs.lemmas.Option.{same_Some}
use Rattle.std.proofs.lemmas.List.Splits.{join_with_byte-slice_split}
use Rattle.gz_core.specs.Names.{Name}
use Rattle.gz_core.specs.declared.fates.Fate.{Fate}
use Rattle.gz_core.specs.declared.fates.Fate.TheVariants.{Whole, Damaged, Missing, GivenUp, Failed}
use Rattle.gz_text.specs.Fields.{number_below, number_field, positive_below, from_one, key_field, is_key_field}
use Rattle.gz_text.specs.Names.{name_field, name_of_pair}
use Rattle.gz_text.specs.Places.{pair_of}
use Rattle.gz_history.specs.Log.{name_text, fate_text, fates_text}
use Rattle.gz_logs.specs.Answers.{version_in, fate_in, fates_in, fates_within}
use Rattle.gz_logs.proofs.NumberLemmas.{decimal-number}
use Rattle.gz_logs.proofs.Choices.{then_some, else_some, mapped, followed, no_some}

-- something or nothing
maybe : {A : Type 0} (o : Option A) → (o ≡ None) ⊎ ((x : A) × (o ≡ Some x))
maybe None = inl refl
maybe (Some x) = inr (x, refl)

-- numbers
pub number_text : (n : ℕ) (field : List ℕ) → number_field field ≡ Some n → field ≡ decimal n
number_text n field h = decimal-number (2 ^ 32) n field (omega arith) h

from_one_same : (m n : ℕ) → from_one m ≡ Some n → m ≡ n
from_one_same m n h = same_Some m n (then_some (nat_le 1 m) (Some m) n h).1

pub positive_text : (bound n : ℕ) (field : List ℕ) → bound ≤ 2 ^ 64 → positive_below bound field ≡ Some n → field ≡ decimal n
positive_text bound n field h read =
    let m = followed from_one (number_below bound field) n read in
    decimal-number bound m.0 field h m.1.0 ∙ ap decimal (from_one_same m.0 n m.1.1)

pub version_text : (v : ℕ) (field : List ℕ) → version_in field ≡ Some v → field ≡ decimal v
version_text v field h = positive_text (2 ^ 63) v field (omega arith) h

-- keys
pub key_text : (key field : List ℕ) → key_field field ≡ Some key → field ≡ key
key_text key field h = same_Some field key (then_some (is_key_field field) (Some field) key h).1

-- names
paired : (parts : List (List ℕ)) (a b : List ℕ) → pair_of parts ≡ Some (a, b) → join_with_byte 46 parts ≡ a ++ 46 ∷ b
paired [] a b h = absurd (cc)
paired (x ∷ []) a b h = absurd (cc)
paired (x ∷ y ∷ []) a b h =
    let same : ◌≡◌ {A = List ℕ × List ℕ} (x, y) (a, b) = same_Some (x, y) (a, b) h in
    ap (λ (p : List ℕ × List ℕ). p.0 ++ 46 ∷ p.1) same
paired (x ∷ y ∷ z ∷ more) a b h = absurd (cc)

-- the name of two numbers
abbrev pub name_with : ℕ → ℕ → Name
name_with session seq = record { session = session; seq = seq }

abbrev pub name_from : List ℕ → ℕ → Option Name
name_from field session = option_map (name_with session) (positive_below (2 ^ 32) field)

pub name_read : (n : Name) (field : List ℕ) → name_field field ≡ Some n → field ≡ name_text n
name_read n field h =
    let parts = slice_split (λ b. b == 46) field in
    let pair = followed name_of_pair (pair_of parts) n h in
    let a = pair.0.0 in
    let b = pair.0.1 in
    let session = followed (name_from b) (positive_below (2 ^ 32) a) n pair.1.1 in
    let seq = mapped (name_with session.0) (positive_below (2 ^ 32) b) n session.1.1 in
    let first : a ≡ decimal n.session = positive_text (2 ^ 32) session.0 a (omega arith) session.1.0 ∙ ap (λ (m : Name). decimal m.session) seq.1.1 in
    let second : b ≡ decimal n.seq = positive_text (2 ^ 32) seq.0 b (omega arith) seq.1.0 ∙ ap (λ (m : Name). decimal m.seq) seq.1.1 in
    sym (join_with_byte-slice_split 46 field) ∙ paired parts a b pair.1.0
    ∙ ap (λ (x : List ℕ). x ++ 46 ∷ b) first ∙ ap (λ (y : List ℕ). decimal n.session ++ 46 ∷ y) second
    ∙ sym (append_assoc (decimal n.session) (46 ∷ []) (decimal n.seq))

-- fates
letter_text : (letter : ℕ) (fate : Fate) → fate_in letter ≡ Some fate → fate_text fate ≡ letter ∷ []
letter_text letter fate h =
    elim (else_some (letter == 87) Whole _ fate h) [
      | inl e ↦ ap fate_text (sym e.1) ∙ ap (λ (b : ℕ). b ∷ []) (sym (eqb-true letter 87 e.0))
      | inr h ↦ elim (else_some (letter == 68) Damaged _ fate h) [
        | inl e ↦ ap fate_text (sym e.1) ∙ ap (λ (b : ℕ). b ∷ []) (sym (eqb-true letter 68 e.0))
        | inr h ↦ elim (else_some (letter == 77) Missing _ fate h) [
          | inl e ↦ ap fate_text (sym e.1) ∙ ap (λ (b : ℕ). b ∷ []) (sym (eqb-true letter 77 e.0))
          | inr h ↦ elim (else_some (letter == 71) GivenUp _ fate h) [
            | inl e ↦ ap fate_text (sym e.1) ∙ ap (λ (b : ℕ). b ∷ []) (sym (eqb-true letter 71 e.0))
            | inr h ↦ elim (else_some (letter == 70) Failed None fate h) [
              | inl e ↦ ap fate_text (sym e.1) ∙ ap (λ (b : ℕ). b ∷ []) (sym (eqb-true letter 70 e.0))
              | inr h ↦ no_some (fate_text fate ≡ letter ∷ []) fate h
            ]
          ]
        ]
      ]
    ]

one_more : {X Y : Type 0} (f : X → Option Y) (x : X) (xs : List X) (y : Y) → f x ≡ Some y → filter_map f (x ∷ xs) ≡ y ∷ filter_map f xs
one_more f x xs y h = rw h refl

none_more : {X Y : Type 0} (f : X → Option Y) (x : X) (xs : List X) → f x ≡ None → filter_map f (x ∷ xs) ≡ filter_map f xs
none_more f x xs h = rw h refl

fewer : (field : List ℕ) → length (filter_map fate_in field) ≤ length field
fewer [] = omega arith
fewer (x ∷ xs) =
    let less = fewer xs in
    elim (maybe (fate_in x)) [
      | inl none ↦ (let e = ap (λ (ys : List Fate). length ys) (none_more fate_in x xs none) in omega (arith, e, less))
      | inr some ↦ (let e = ap (λ (ys : List Fate). length ys) (one_more fate_in x xs some.0 some.1) in omega (arith, e, less))
    ]

all_letters : (field : List ℕ) → length (filter_map fate_in field) ≡ length field → fates_text (filter_map fate_in field) ≡ field
all_letters [] h = refl
all_letters (x ∷ xs) h =
    let less = fewer xs in
    elim (maybe (fate_in x)) [
      | inl none ↦ (let e = ap (λ (ys : List Fate). length ys) (none_more fate_in x xs none) in absurd (omega (arith, e, less, h)))
      | inr some ↦ (let front = one_more fate_in x xs some.0 some.1 in
          let e = ap (λ (ys : List Fate). length ys) front in
          ap (λ (ys : List Fate). fates_text ys) front
          ∙ ap (λ (ys : List ℕ). ys ++ fates_text (filter_map fate_in xs)) (letter_text x some.0 some.1)
          ∙ ap (λ (ys : List ℕ). x ∷ ys) (all_letters xs (omega (arith, e, h))))
    ]

pub fates_read : (fates : List Fate) (field : List ℕ) → fates_in field ≡ Some fates → field ≡ fates_text fates
fates_read fates field h =
    let all = then_some (length (filter_map fate_in field) == length field) (fates_within (filter_map fate_in field)) fates h in
    let within = then_some (nat_le 1 (length (filter_map fate_in field)) && nat_le (length (filter_map fate_in field)) 16) (Some (filter_map fate_in field)) fates all.1 in
    let same = same_Some (filter_map fate_in field) fates within.1 in
    sym (all_letters field (eqb-true (length (filter_map fate_in field)) (length field) all.0)) ∙ ap fates_text same
