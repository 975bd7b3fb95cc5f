-- The fields of a line by their places.
use Rattle.std.specs.Prelude.{ℕ, List, [], ◌∷◌, Option, Some, None, get_or, drop}

-- the field at a place, counted from 0; an empty one where there is none
abbrev pub field_at : ℕ → List (List ℕ) → List ℕ
field_at i fields = get_or fields i []

-- the fields from a place on
abbrev pub fields_from : ℕ → List (List ℕ) → List (List ℕ)
fields_from i fields = drop i fields

-- two parts
abbrev pub pair_of : List (List ℕ) → Option (List ℕ × List ℕ)
pair_of [] = None
pair_of (x ∷ []) = None
pair_of (x ∷ y ∷ []) = Some (x, y)
pair_of (x ∷ y ∷ z ∷ more) = None
