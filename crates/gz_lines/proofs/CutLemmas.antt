-- How many lines a text has at most.
use Rattle.std.proofs.Common.{ℕ, ◌+◌, ◌≤◌, List, [], ◌∷◌, length, arith}
use Rattle.std.proofs.lemmas.Grind.{common_steps}
use Rattle.std.specs.Prelude.{◌==◌}
use Rattle.std.specs.List.{slice_split}
use Rattle.std.specs.Str.Lines.{lines_of_parts}
use Rattle.std.proofs.lemmas.List.{length-map}
use Rattle.std.proofs.lemmas.List.Sums.{count_by-le-length}
use Rattle.std.proofs.lemmas.List.Splits.{length-slice_split}
use Rattle.gz_text.specs.Texts.{lines}
use Rattle.gz_lines.specs.Grammar.{read_line}
use Rattle.gz_lines.specs.Schedule.{readings}

-- a part is at most one line
length-lines_of_parts : (parts : List (List ℕ)) → length (lines_of_parts parts) ≤ length parts
length-lines_of_parts [] = omega arith
length-lines_of_parts (x ∷ []) = grind (arith, common_steps)
length-lines_of_parts (x ∷ y ∷ more) = omega (arith, length-lines_of_parts (y ∷ more))

-- a text has at most one line more than bytes
pub length_readings : (text : List ℕ) → length (readings text) ≤ length text + 1
length_readings text =
    let parts = slice_split (λ b. b == 10) text in
    omega (arith, length-map (lines text) read_line, length-lines_of_parts parts, length-slice_split (λ b. b == 10) text, count_by-le-length (λ b. b == 10) text)
