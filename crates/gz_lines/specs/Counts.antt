-- The fields of a line, where there are so many.
use Rattle.std.specs.Prelude.{ℕ, List, [], ◌∷◌, Option, Some, None, Result, Err}
use Rattle.gz_core.specs.declared.texts.Why.TheVariants.{Count}
use Rattle.gz_text.specs.declared.faults.Fault.{Fault}
use Rattle.gz_text.specs.declared.faults.Fault.TheVariants.{Bad}

-- the first field
abbrev pub first_of : List (List ℕ) → Option (List ℕ)
first_of [] = None
first_of (word ∷ more) = Some word

-- the one field after the first, the two, or the three
abbrev pub one_of : List (List ℕ) → Option (List ℕ)
one_of [] = None
one_of (word ∷ []) = None
one_of (word ∷ x ∷ []) = Some x
one_of (word ∷ x ∷ y ∷ more) = None

abbrev pub two_of : List (List ℕ) → Option (List ℕ × List ℕ)
two_of [] = None
two_of (word ∷ []) = None
two_of (word ∷ x ∷ []) = None
two_of (word ∷ x ∷ y ∷ []) = Some (x, y)
two_of (word ∷ x ∷ y ∷ z ∷ more) = None

abbrev pub three_of : List (List ℕ) → Option (List ℕ × List ℕ × List ℕ)
three_of [] = None
three_of (word ∷ []) = None
three_of (word ∷ x ∷ []) = None
three_of (word ∷ x ∷ y ∷ []) = None
three_of (word ∷ x ∷ y ∷ z ∷ []) = Some (x, y, z)
three_of (word ∷ x ∷ y ∷ z ∷ a ∷ more) = None

-- what follows from the fields, unless there are too many or too few
abbrev pub counted : {A B : Type 0} → Option A → (A → Result B Fault) → Result B Fault
counted None next = Err (Bad Count)
counted (Some fields) next = next fields
