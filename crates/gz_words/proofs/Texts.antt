-- Lists of texts that are lent.
use denote.Ref.{Bor}
use Rattle.std.proofs.Common.{ℕ, ◌≡◌, List, [], ◌∷◌, map, refl, ap}
use Rattle.std.specs.Prelude.{true, nat_eq, ◌||◌}
use Rattle.std.specs.Cmp.Lexicographic.{pointwise}
use Rattle.std.specs.List.{list_any}
use Rattle.std.proofs.lemmas.Bool.{and_parts}
use Rattle.std.proofs.lemmas.Slice.Eq.{bytes_eq-Decides}
use Rattle.gz_words.specs.Words.{is_option}

-- texts that compare as the same are the same
pub same_texts : (xs ys : List (Bor (List ℕ))) → pointwise (λ x y. pointwise nat_eq x.now y.now) xs ys ≡ true → map (λ x. x.now) xs ≡ map (λ y. y.now) ys
same_texts [] [] h = refl
same_texts [] (y ∷ ys) h = cc
same_texts (x ∷ xs) [] h = cc
same_texts (x ∷ xs) (y ∷ ys) h =
    let both = and_parts (pointwise nat_eq x.now y.now) (pointwise (λ (x : Bor (List ℕ)) (y : Bor (List ℕ)). pointwise nat_eq x.now y.now) xs ys) h in
    let first : x.now ≡ y.now = (bytes_eq-Decides x.now y.now).0 both.0 in
    let rest = same_texts xs ys both.1 in
    cc (first, rest)

-- a test of texts that are lent
pub any_option : (words : List (Bor (List ℕ))) → list_any is_option (map (λ word. word.now) words) ≡ list_any (λ word. is_option word.now) words
any_option [] = refl
any_option (word ∷ words) = ap (λ b. is_option word.now || b) (any_option words)
