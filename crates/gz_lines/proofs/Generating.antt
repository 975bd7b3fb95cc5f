-- Bytes that are generated one after another.
use Rattle.std.proofs.Common.{ℕ, ◌≡◌, ◌+◌, ◌-◌, ◌/◌, ◌^◌, ◌<◌, List, [], ◌∷◌, ◌++◌, suc, ap, sym, ◌∙◌, append_assoc, arith}
use Rattle.gz_lines.specs.Bytes.{next, generated}

-- the first of the bytes that are left
generated-first : (x n m : ℕ) → m < n → generated x (n - m) ≡ (next x / 2 ^ 24) ∷ generated (next x) (n - (m + 1))
generated-first x n m h =
    let same : n - m ≡ suc (n - (m + 1)) = omega arith in
    ap (λ (k : ℕ). generated x k) same

-- one more byte
pub generated_more : (made all : List ℕ) (x n m : ℕ) → m < n → made ++ generated x (n - m) ≡ all → (made ++ (next x / 2 ^ 24) ∷ []) ++ generated (next x) (n - (m + 1)) ≡ all
generated_more made all x n m h e =
    append_assoc made ((next x / 2 ^ 24) ∷ []) (generated (next x) (n - (m + 1)))
    ∙ ap (λ (rest : List ℕ). made ++ rest) (sym (generated-first x n m h))
    ∙ e
