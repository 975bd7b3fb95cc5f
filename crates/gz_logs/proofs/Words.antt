-- Texts of printable characters with blanks between are cut into lines and fields as they were joined.
use Rattle.std.proofs.Common.{ℕ, zero, suc, ◌≡◌, ◌-◌, ◌<◌, List, [], ◌∷◌, ◌++◌, length, get_or, slice_index, Bool, true, false, inl, inr, refl, ap, ◌∙◌, append_assoc, arith}
use Rattle.std.specs.Prelude.{◌==◌, ◌&&◌, ◌||◌, not, All, filter, codes}
use Rattle.std.specs.List.{list_all, slice_split}
use Rattle.std.specs.Str.Lines.{strip_carriage_return, lines_of_parts}
use Rattle.std.proofs.lemmas.Bool.{cases_Bool, and_parts, eqb-true}
use Rattle.std.proofs.lemmas.Bool.Decides.{nat_tests}
use Rattle.std.proofs.lemmas.Grind.{common_steps}
use Rattle.std.proofs.lemmas.List.Elements.{All-cons, All-nil}
use Rattle.std.proofs.lemmas.List.Folds.{list_all-append}
use Rattle.std.proofs.lemmas.List.Splits.{slice_split_none, slice_split_at, length-slice_split}
use Rattle.gz_text.specs.Fields.{is_printable}
use Rattle.gz_text.specs.Texts.{lines, fields, fields_of}
use Rattle.gz_logs.proofs.Joined.{joined}

-- a word: at least one printable character
pub record IsWord (word : List ℕ) : Type 0 where
  pub some : 0 < length word
  pub printable : list_all is_printable word ≡ true

-- words
abbrev pub AreWords : List (List ℕ) → Type 0
AreWords [] = Unit {0}
AreWords (word ∷ more) = IsWord word × AreWords more

pub both_pass : (a b : Bool) → a ≡ true → b ≡ true → (a && b) ≡ true
both_pass true b h i = i
both_pass false b h i = absurd (cc)

-- bytes that pass a test are none that doesn't
other_byte : (test : ℕ → Bool) (c x : ℕ) → test c ≡ false → test x ≡ true → (x == c) ≡ false
other_byte test c x h pass =
    elim (cases_Bool (x == c)) [
      | inl same ↦ (let e = eqb-true x c same in absurd (cc))
      | inr other ↦ other
    ]

pub none_is : (test : ℕ → Bool) (c : ℕ) (xs : List ℕ) → test c ≡ false → list_all test xs ≡ true → All (λ x. (x == c) ≡ false) xs
none_is test c [] h pass = All-nil (λ x. (x == c) ≡ false)
none_is test c (x ∷ xs) h pass =
    let parts = and_parts (test x) (list_all test xs) pass in
    All-cons (λ y. (y == c) ≡ false) x xs (other_byte test c x h parts.0) (none_is test c xs h parts.1)

-- the fields of words with blanks between are the words
split_joined : (word : List ℕ) (more : List (List ℕ)) → AreWords (word ∷ more) → slice_split (λ b. b == 32) (joined (word ∷ more)) ≡ word ∷ more
split_joined word [] h = slice_split_none (λ b. b == 32) word (none_is is_printable 32 word refl h.0.printable)
split_joined word (next ∷ more) h =
    slice_split_at (λ b. b == 32) word 32 (joined (next ∷ more)) (none_is is_printable 32 word refl h.0.printable) refl
    ∙ ap (λ (parts : List (List ℕ)). word ∷ parts) (split_joined next more h.1)

not_none : (word : List ℕ) → 0 < length word → not (length word == 0) ≡ true
not_none [] h = absurd (omega arith)
not_none (b ∷ bs) h = grind (arith, nat_tests, common_steps)

none_left_out : (words : List (List ℕ)) → AreWords words → filter (λ part. not (length part == 0)) words ≡ words
none_left_out [] h = refl
none_left_out (word ∷ more) h =
    let some = not_none word h.0.some in
    let rest = none_left_out more h.1 in
    grind (arith, common_steps)

fields_joined : (word : List ℕ) (more : List (List ℕ)) → AreWords (word ∷ more) → fields (joined (word ∷ more)) ≡ word ∷ more
fields_joined word more h =
    ap (λ (parts : List (List ℕ)). filter (λ part. not (length part == 0)) parts) (split_joined word more h) ∙ none_left_out (word ∷ more) h

no_comment : (b : ℕ) (bs : List ℕ) → (b == 35) ≡ false → fields_of (b ∷ bs) ≡ fields (b ∷ bs)
no_comment b bs h = rw h refl

-- so are those of a line whose first character begins no comment
pub fields_of_joined : (word : List ℕ) (more : List (List ℕ)) → AreWords (word ∷ more) → (get_or word 0 0 == 35) ≡ false → fields_of (joined (word ∷ more)) ≡ word ∷ more
fields_of_joined [] more h first = absurd (omega (arith, h.0.some))
fields_of_joined (b ∷ bs) [] h first = no_comment b bs first ∙ fields_joined (b ∷ bs) [] h
fields_of_joined (b ∷ bs) (next ∷ more) h first = no_comment b (bs ++ 32 ∷ joined (next ∷ more)) first ∙ fields_joined (b ∷ bs) (next ∷ more) h

-- a printable character or a blank
abbrev is_inner : ℕ → Bool
is_inner b = is_printable b || (b == 32)

inner : (word : List ℕ) → list_all is_printable word ≡ true → list_all is_inner word ≡ true
inner [] h = refl
inner (b ∷ bs) h =
    let parts = and_parts (is_printable b) (list_all is_printable bs) h in
    both_pass (is_inner b) (list_all is_inner bs) (rw parts.0 refl) (inner bs parts.1)

inner_joined : (words : List (List ℕ)) → AreWords words → list_all is_inner (joined words) ≡ true
inner_joined [] h = refl
inner_joined (word ∷ []) h = inner word h.0.printable
inner_joined (word ∷ next ∷ more) h =
    list_all-append is_inner word (32 ∷ joined (next ∷ more))
    ∙ both_pass (list_all is_inner word) (list_all is_inner (joined (next ∷ more))) (inner word h.0.printable) (inner_joined (next ∷ more) h.1)

-- a line that does not end with a carriage return
index_inner : (line : List ℕ) (i : ℕ) → list_all is_inner line ≡ true → (slice_index line i == 13) ≡ false
index_inner [] i h = refl
index_inner (b ∷ bs) zero h = other_byte is_inner 13 b refl (and_parts (is_inner b) (list_all is_inner bs) h).0
index_inner (b ∷ bs) (suc i) h = index_inner bs i (and_parts (is_inner b) (list_all is_inner bs) h).1

kept : (line : List ℕ) → list_all is_inner line ≡ true → strip_carriage_return line ≡ line
kept line h = rw (index_inner line (length line - 1) h) refl

first_part : (line : List ℕ) (parts : List (List ℕ)) → 0 < length parts → lines_of_parts (line ∷ parts) ≡ strip_carriage_return line ∷ lines_of_parts parts
first_part line [] h = absurd (omega arith)
first_part line (part ∷ parts) h = refl

-- the first line of a text is the words before the first line feed
pub lines_joined : (words : List (List ℕ)) (rest : List ℕ) → AreWords words → lines ((joined words ++ codes "\n") ++ rest) ≡ joined words ∷ lines rest
lines_joined words rest h =
    let line = joined words in
    let whole = inner_joined words h in
    ap lines (append_assoc line (codes "\n") rest)
    ∙ ap lines_of_parts (slice_split_at (λ b. b == 10) line 10 rest (none_is is_inner 10 line refl whole) refl)
    ∙ first_part line (slice_split (λ b. b == 10) rest) (omega (arith, length-slice_split (λ b. b == 10) rest))
    ∙ ap (λ (l : List ℕ). l ∷ lines rest) (kept line whole)
