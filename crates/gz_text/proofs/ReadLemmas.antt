-- Lines that are read one after another.
use denote.Ref.{Bor}
use Rattle.std.proofs.Common.{ℕ, ◌≡◌, ◌+◌, ◌<◌, List, [], ◌∷◌, ◌++◌, length, map, take, get_or, refl, ap, ◌∙◌}
use Rattle.std.specs.Prelude.{Option, Some, None, filter_map}
use Rattle.std.proofs.lemmas.List.{append-nil, take_more, map-append}
use Rattle.std.proofs.lemmas.List.Elements.{filter_map-append}

-- one more element that gives something
pub filter_map-some : {X Y : Type 0} (f : X → Option Y) (xs : List X) (x : X) (y : Y) → f x ≡ Some y → filter_map f (xs ++ x ∷ []) ≡ filter_map f xs ++ y ∷ []
filter_map-some f xs x y h = rw (filter_map-append, h) refl

-- one more element that gives nothing
pub filter_map-none : {X Y : Type 0} (f : X → Option Y) (xs : List X) (x : X) → f x ≡ None → filter_map f (xs ++ x ∷ []) ≡ filter_map f xs
filter_map-none f xs x h = rw (filter_map-append, h) (append-nil (filter_map f xs))

-- one more of the fields that are lent
pub lent_more : (xs : List (Bor (List ℕ))) (i : ℕ) (d : Bor (List ℕ)) → i < length xs
    → map (λ x. x.now) (take (i + 1) xs) ≡ map (λ x. x.now) (take i xs) ++ (get_or xs i d).now ∷ []
lent_more xs i d h =
    ap (λ (ys : List (Bor (List ℕ))). map (λ x. x.now) ys) (take_more xs i d h)
    ∙ map-append (λ (x : Bor (List ℕ)). x.now) (take i xs) (get_or xs i d ∷ [])
