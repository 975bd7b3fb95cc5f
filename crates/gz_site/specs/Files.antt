-- Files that are read by name, and bytes that are written piece by piece.
use Rattle.std.specs.Prelude.{ℕ, ◌≡◌, ◌<◌, ◌≤◌, List, ◌++◌, length, take, Option, Some, None, Result, Ok, Err, Vec, option_map}
use Rattle.std.specs.declared.alloc.Global.{Global}
use Rattle.gz_site.specs.declared.shelves.ShelfError.{ShelfError}
use Rattle.gz_site.specs.declared.shelves.ShelfError.TheVariants.{Failed, NoSuch, TooLarge, NoMemory}

-- the file is not longer than the limit, and it is given whole
abbrev pub FitsLimit : Option (List ℕ) → ℕ → List ℕ → Type 0
FitsLimit file limit bytes = (file ≡ Some bytes) × (length bytes ≤ limit)

-- the file is there and is longer than the limit
abbrev pub Exceeds : Option (List ℕ) → ℕ → Type 0
Exceeds None limit = ⊥
Exceeds (Some bytes) limit = limit < length bytes

-- what a read answers over the file that is there, and over none
abbrev pub ReadsOne : Option (List ℕ) → ℕ → Result (Vec ℕ Global) ShelfError → Type 0
ReadsOne file limit (Ok bytes) = FitsLimit file limit bytes.items
ReadsOne file limit (Err Failed) = Unit {0}
ReadsOne file limit (Err NoSuch) = file ≡ None
ReadsOne file limit (Err TooLarge) = Exceeds file limit
ReadsOne file limit (Err NoMemory) = Unit {0}

-- the same over a shelf, which may tell nothing of its files
abbrev pub ReadsFile : Option (List ℕ → Option (List ℕ)) → List ℕ → ℕ → Result (Vec ℕ Global) ShelfError → Type 0
ReadsFile None name limit result = Unit {0}
ReadsFile (Some files) name limit result = ReadsOne (files name) limit result

-- an answer that is not the file
abbrev pub refusal : ShelfError → Result (Vec ℕ Global) ShelfError
refusal error = Err error

-- what a sink that had written w has written after the first n of these bytes
abbrev pub upto : Option (List ℕ) → List ℕ → ℕ → Option (List ℕ)
upto w bytes n = option_map (λ b. b ++ take n bytes) w

-- the sink has taken some first part of these bytes
abbrev pub IsSomePart : Option (List ℕ) → List ℕ → Option (List ℕ) → Type 0
IsSomePart before bytes after = (n : ℕ) × ((n ≤ length bytes) × (after ≡ upto before bytes n))
