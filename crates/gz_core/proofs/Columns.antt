-- The columns of a row, by rising version.
use Rattle.std.proofs.Common.{◌≡◌, ℕ, ◌≤◌, List, [], ◌∷◌, Some, None, refl, ap, ◌∙◌, arith, false}
use Rattle.std.specs.Prelude.{◌==◌, if◌then◌else◌}
use Rattle.std.proofs.lemmas.Bool.Decides.{nat_tests}
use Rattle.gz_core.specs.Rows.{Rises, column_in}
use Rattle.gz_core.specs.declared.rows.Column.{Column}

-- a version below the columns has none
pub none_below : (v bound : ℕ) (cs : List (ℕ × Column)) → v ≤ bound → Rises bound cs → column_in cs v ≡ None
none_below v bound [] le rises = refl
none_below v bound (c ∷ cs) le rises =
    let l = rises.0 in
    let other : (c.0 == v) ≡ false = grind (arith, nat_tests) in
    ap (λ t. if t then Some c.1 else column_in cs v) other ∙ none_below v c.0 cs (omega (arith, l, le)) rises.1
