-- A place among the columns at which a column is put.
use Rattle.std.proofs.Common.{◌≡◌, ℕ, ◌<◌, true, false, List, ◌∷◌, ◌++◌, length, refl, sym, ◌∙◌, ap, arith, nat_lt, get_or}
use Rattle.std.specs.Prelude.{take, drop, suc, slice_set, ◌==◌}
use Rattle.std.proofs.Math.Seq.{drop-cons}
use Rattle.std.proofs.lemmas.List.{set_split}
use Rattle.std.proofs.lemmas.Bool.Decides.{nat_tests}
use Rattle.gz_core.specs.declared.rows.Column.{Column}
use Rattle.gz_accept.specs.Steps.{with_column}

-- at the version itself the column is replaced
pub set_there : (v : ℕ) (cs : List (ℕ × Column)) (at : ℕ) (c : ℕ × Column) → ((column : Column) → with_column v column cs ≡ take at cs ++ with_column v column (drop at cs)) → at < length cs →
    c ≡ get_or cs at c → (c.0 == v) ≡ true → (column : Column) → slice_set cs at (v, column) ≡ with_column v column cs
set_there v cs at c passed within read same column =
    let here : nat_lt c.0 v ≡ false = grind (arith, nat_tests) in
    let there : nat_lt v c.0 ≡ false = grind (arith, nat_tests) in
    set_split cs at (v, column) within
    ∙ sym (passed column ∙ ap (λ rest. take at cs ++ with_column v column rest) (drop-cons cs at c within ∙ ap (λ head. head ∷ drop (suc at) cs) (sym read)) ∙ rw (here, there) refl)
