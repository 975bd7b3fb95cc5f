-- Sites that pass a test, counted.
use Rattle.std.specs.Prelude.{ℕ, zero, suc, Bool, cond}

-- how many of the sites below n pass the test
abbrev pub count_sites : ℕ → (ℕ → Bool) → ℕ
count_sites zero p = zero
count_sites (suc n) p = cond (p n) (suc (count_sites n p)) (count_sites n p)
