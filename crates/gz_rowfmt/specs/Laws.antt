-- What rows and their records owe to each other.
use Rattle.std.specs.Prelude.{ℕ, ◌≡◌, ◌<◌, List, get_or, Ok}
use Rattle.gz_core.specs.Rows.{RowAt}
use Rattle.gz_rowfmt.specs.Records.{HasRecord}
use Rattle.gz_rowfmt.specs.Spelling.{spelling}
use Rattle.gz_rowfmt.specs.Reading.{row_in}

-- what is written of a row is read as that row
abbrev pub IsReadBack : Type 0
IsReadBack = (row : RowAt) → HasRecord row → row_in (spelling row) ≡ Ok row

-- bytes that are read as a row are what is written of it
abbrev pub IsItsSpelling : Type 0
IsItsSpelling = (bytes : List ℕ) (row : RowAt) → ((i : ℕ) → get_or bytes i 0 < 256) → row_in bytes ≡ Ok row → HasRecord row × (bytes ≡ spelling row)

-- no two rows are spelled alike
abbrev pub AreSpelledApart : Type 0
AreSpelledApart = (a b : RowAt) → HasRecord a → HasRecord b → spelling a ≡ spelling b → a ≡ b
