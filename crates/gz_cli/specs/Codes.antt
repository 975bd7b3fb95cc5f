-- The lines of the pieces into which bytes are cut.
use Rattle.std.specs.Prelude.{ℕ, ◌≡◌, ◌+◌, List, [], ◌∷◌, ◌++◌, Ok, decimal, codes}
use Rattle.hex.specs.Hex.{decode_of}
use Rattle.gz_code.specs.CodeWord.{IsSplit}
use Rattle.gz_history.specs.Log.{bytes_text}

-- the line of a piece: its number, and its bytes in lower-case hexadecimal, a dash where it has none
abbrev pub piece_line : ℕ → List ℕ → List ℕ
piece_line i piece = decimal i ++ codes " " ++ bytes_text piece ++ codes "\n"

-- the lines of pieces that are numbered from i on
abbrev pub lines_from : ℕ → List (List ℕ) → List ℕ
lines_from i [] = []
lines_from i (piece ∷ pieces) = piece_line i piece ++ lines_from (i + 1) pieces

-- the text has the line of each of the k + m pieces of the bytes that the digits spell, numbered from 0
pub record IsCodeText (k m : ℕ) (digits text : List ℕ) : Type 0 where
  pub object : List ℕ
  pub decoded : decode_of digits ≡ Ok object
  pub pieces : List (List ℕ)
  pub split : IsSplit k m object pieces
  pub lines : text ≡ lines_from 0 pieces

-- such a text was written, as far as is said
abbrev pub Codes : ℕ → ℕ → List ℕ → (List ℕ → Type 0) → Type 0
Codes k m digits Written = (text : List ℕ) × (IsCodeText k m digits text × Written text)
