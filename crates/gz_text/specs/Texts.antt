-- Texts as lines, and lines as fields.
use Rattle.std.specs.Prelude.{ℕ, ◌==◌, not, if◌then◌else◌, List, [], ◌∷◌, length, filter}
use Rattle.std.specs.List.{slice_split}
use Rattle.std.specs.Str.Lines.{strip_carriage_return, lines as lines_of_text}

-- the lines of a text, which end with LF; the LF of the last line may be missing, and a CR before an LF is no
-- part of the line
abbrev pub lines : List ℕ → List (List ℕ)
lines text = lines_of_text text

-- a line without the one CR at its end
abbrev pub without_return : List ℕ → List ℕ
without_return line = strip_carriage_return line

-- what stands after the last LF, which is no line where it is empty
abbrev pub last_line : List ℕ → List (List ℕ)
last_line x = if length x == 0 then [] else x ∷ []

-- the fields of a line: what stands between blanks
abbrev pub fields : List ℕ → List (List ℕ)
fields line = filter (λ part. not (length part == 0)) (slice_split (λ b. b == 32) line)

-- the fields of a line that is no comment; a line whose first byte is `#` is one
abbrev pub fields_of : List ℕ → List (List ℕ)
fields_of [] = []
fields_of (b ∷ bs) = if b == 35 then [] else fields (b ∷ bs)
