-- An object has one split: at each place the data pieces fix the polynomial, and so the whole code word.
use Rattle.std.proofs.Common.{◌≡◌, ℕ, ◌+◌, ◌<◌, ◌≤◌, List, [], length, get_or, sym, ◌∙◌, ap, arith}
use Rattle.std.proofs.lemmas.Grind.{same_number_lists}
use Rattle.std.proofs.lemmas.List.{get_or_default, same_lists}
use Rattle.gz_code.specs.CodeWord.{word_at, piece_width, IsSplit}
use Rattle.gz_code.specs.Polynomial.{value}
use Rattle.gz_code.proofs.Pieces.{first_points}
use Rattle.gz_code.proofs.Roots.{same_from_points}

module _ (k m : ℕ) (object : List ℕ) (a b : List (List ℕ)) (fits : k + m ≤ 256) (A : IsSplit k m object a) (B : IsSplit k m object b) where
  same_word : (place i : ℕ) → place < piece_width k (length object) → i < k + m → word_at a place i ≡ word_at b place i
  same_word place i within l =
      let first = A.code_words place within in
      let second = B.code_words place within in
      let agree : (j : ℕ) → j < k → value first.polynomial j ≡ value second.polynomial j =
      λ j lt. sym (first.values j (omega arith)) ∙ A.object_first j place lt within ∙ sym (B.object_first j place lt within) ∙ second.values j (omega arith) in
      let same = same_from_points k first.polynomial second.polynomial (λ j. j) first.degree second.degree (first_points k (omega arith)) agree in
      first.values i l ∙ ap (λ (p : List ℕ). value p i) same ∙ sym (second.values i l)

  same_piece : (i : ℕ) → i < k + m → get_or a i [] ≡ get_or b i []
  same_piece i l =
      let wide = A.widths i l in
      same_number_lists (get_or a i []) (get_or b i []) (wide ∙ sym (B.widths i l)) (λ place lt. same_word place i (omega (arith, wide)) l)

  pub one_split : a ≡ b
  one_split =
      let count = A.count in
      let other = B.count in
      same_lists a b (count ∙ sym other) (λ i d l. get_or_default a i d [] l ∙ same_piece i (omega arith) ∙ sym (get_or_default b i d [] (omega arith)))
