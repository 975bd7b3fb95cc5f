-- Facts on lists that loops use.
use Rattle.std.proofs.Common.{◌≡◌, ℕ, zero, suc, ◌+◌, ◌<◌, List, [], ◌∷◌, ◌++◌, Some, None, length, take, get_or, refl, ap, sym, ◌∙◌, add-one, arith}
use Rattle.std.specs.Prelude.{Option}
use Rattle.std.specs.List.{filter_map, cons_option}
use Rattle.std.specs.Option.{option_to_list}

cons_nil : {Y : Type 0} (o : Option Y) → cons_option o [] ≡ option_to_list o
cons_nil None = refl
cons_nil (Some y) = refl

cons_more : {Y : Type 0} (o : Option Y) (xs ys : List Y) → cons_option o (xs ++ ys) ≡ cons_option o xs ++ ys
cons_more None xs ys = refl
cons_more (Some y) xs ys = refl

more_of : {X Y : Type 0} (f : X → Option Y) (xs : List X) (i : ℕ) (x : X) → i < length xs → x ≡ get_or xs i x → filter_map f (take (suc i) xs) ≡ filter_map f (take i xs) ++ option_to_list (f x)
more_of f [] i x below at = absurd (omega arith)
more_of f (y ∷ ys) zero x below at = cons_nil (f y) ∙ sym (ap (λ z. option_to_list (f z)) at)
more_of f (y ∷ ys) (suc i) x below at =
    let l : i < length ys = omega arith in
    ap (cons_option (f y)) (more_of f ys i x l at) ∙ cons_more (f y) (filter_map f (take i ys)) (option_to_list (f x))

-- one more element, kept or left out
pub filter_map_more : {X Y : Type 0} (f : X → Option Y) (xs : List X) (i : ℕ) (x : X) → i < length xs → x ≡ get_or xs i x → filter_map f (take (i + 1) xs) ≡ filter_map f (take i xs) ++ option_to_list (f x)
filter_map_more f xs i x below at = rw add-one (more_of f xs i x below at)
