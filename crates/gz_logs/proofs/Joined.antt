-- Few fields, with one blank between them.
use Rattle.std.proofs.Common.{ℕ, ◌≡◌, ◌<◌, List, [], ◌∷◌, ◌++◌, length, true, false, refl, arith}
use Rattle.std.specs.Prelude.{◌==◌, nat_lt}
use Rattle.std.specs.List.{join_with_byte}
use Rattle.std.proofs.lemmas.Bool.{eqb-true}
use Rattle.gz_text.specs.Places.{field_at, fields_from}

-- these fields with one blank between them
abbrev pub joined : List (List ℕ) → List ℕ
joined fields = join_with_byte 32 fields

pub joined_one : (fields : List (List ℕ)) → (length fields == 1) ≡ true → joined fields ≡ field_at 0 fields
joined_one [] h = absurd (cc)
joined_one (a ∷ []) h = refl
joined_one (a ∷ b ∷ more) h = let e = eqb-true (length (a ∷ b ∷ more)) 1 h in absurd (omega (arith, e))

pub joined_two : (fields : List (List ℕ)) → (length fields == 2) ≡ true → joined fields ≡ field_at 0 fields ++ 32 ∷ field_at 1 fields
joined_two [] h = absurd (cc)
joined_two (a ∷ []) h = absurd (cc)
joined_two (a ∷ b ∷ []) h = refl
joined_two (a ∷ b ∷ c ∷ more) h = let e = eqb-true (length (a ∷ b ∷ c ∷ more)) 2 h in absurd (omega (arith, e))

pub joined_three : (fields : List (List ℕ)) → (length fields == 3) ≡ true → joined fields ≡ field_at 0 fields ++ 32 ∷ (field_at 1 fields ++ 32 ∷ field_at 2 fields)
joined_three [] h = absurd (cc)
joined_three (a ∷ []) h = absurd (cc)
joined_three (a ∷ b ∷ []) h = absurd (cc)
joined_three (a ∷ b ∷ c ∷ []) h = refl
joined_three (a ∷ b ∷ c ∷ d ∷ more) h = let e = eqb-true (length (a ∷ b ∷ c ∷ d ∷ more)) 3 h in absurd (omega (arith, e))

pub joined_four : (fields : List (List ℕ)) → (length fields == 4) ≡ true → joined fields ≡ field_at 0 fields ++ 32 ∷ (field_at 1 fields ++ 32 ∷ (field_at 2 fields ++ 32 ∷ field_at 3 fields))
joined_four [] h = absurd (cc)
joined_four (a ∷ []) h = absurd (cc)
joined_four (a ∷ b ∷ []) h = absurd (cc)
joined_four (a ∷ b ∷ c ∷ []) h = absurd (cc)
joined_four (a ∷ b ∷ c ∷ d ∷ []) h = refl
joined_four (a ∷ b ∷ c ∷ d ∷ e ∷ more) h = let e = eqb-true (length (a ∷ b ∷ c ∷ d ∷ e ∷ more)) 4 h in absurd (omega (arith, e))

-- the first field, and the others
pub joined_first : (fields : List (List ℕ)) → 0 < length (fields_from 1 fields) → joined fields ≡ field_at 0 fields ++ 32 ∷ joined (fields_from 1 fields)
joined_first [] h = absurd (omega arith)
joined_first (a ∷ []) h = absurd (omega arith)
joined_first (a ∷ b ∷ more) h = refl

pub second_first : (fields : List (List ℕ)) → field_at 0 (fields_from 1 fields) ≡ field_at 1 fields
second_first [] = refl
second_first (a ∷ more) = refl

pub joined_seven : (fields : List (List ℕ)) → nat_lt (length fields) 7 ≡ false → joined fields
    ≡ field_at 0 fields ++ 32 ∷ (field_at 1 fields ++ 32 ∷ (field_at 2 fields ++ 32 ∷ (field_at 3 fields ++ 32 ∷ (field_at 4 fields ++ 32 ∷ (field_at 5 fields ++ 32 ∷ joined (fields_from 6 fields))))))
joined_seven [] h = absurd (cc)
joined_seven (a ∷ []) h = absurd (cc)
joined_seven (a ∷ b ∷ []) h = absurd (cc)
joined_seven (a ∷ b ∷ c ∷ []) h = absurd (cc)
joined_seven (a ∷ b ∷ c ∷ d ∷ []) h = absurd (cc)
joined_seven (a ∷ b ∷ c ∷ d ∷ e ∷ []) h = absurd (cc)
joined_seven (a ∷ b ∷ c ∷ d ∷ e ∷ f ∷ []) h = absurd (cc)
joined_seven (a ∷ b ∷ c ∷ d ∷ e ∷ f ∷ g ∷ more) h = refl

-- equal texts in place of few fields
pub same_two : (a b p q : List ℕ) → a ≡ p → b ≡ q → a ++ 32 ∷ b ≡ p ++ 32 ∷ q
same_two a b p q h i = cc

pub same_three : (a b c p q r : List ℕ) → a ≡ p → b ≡ q → c ≡ r → a ++ 32 ∷ (b ++ 32 ∷ c) ≡ p ++ 32 ∷ (q ++ 32 ∷ r)
same_three a b c p q r h i j = cc

pub same_four : (a b c d p q r s : List ℕ) → a ≡ p → b ≡ q → c ≡ r → d ≡ s → a ++ 32 ∷ (b ++ 32 ∷ (c ++ 32 ∷ d)) ≡ p ++ 32 ∷ (q ++ 32 ∷ (r ++ 32 ∷ s))
same_four a b c d p q r s h i j k = cc

pub same_seven : (a b c d e f g p q r s t u v : List ℕ) → a ≡ p → b ≡ q → c ≡ r → d ≡ s → e ≡ t → f ≡ u → g ≡ v
    → a ++ 32 ∷ (b ++ 32 ∷ (c ++ 32 ∷ (d ++ 32 ∷ (e ++ 32 ∷ (f ++ 32 ∷ g))))) ≡ p ++ 32 ∷ (q ++ 32 ∷ (r ++ 32 ∷ (s ++ 32 ∷ (t ++ 32 ∷ (u ++ 32 ∷ v)))))
same_seven a b c d e f g p q r s t u v h i j k l m n = cc
