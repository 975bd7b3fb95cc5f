-- Lists with more elements than are asked for.
use denote.Ref.{Bor}
use Rattle.std.proofs.Common.{ℕ, ◌≡◌, ◌≤◌, List, [], ◌∷◌, length, map, refl, arith}
use Rattle.std.specs.Prelude.{None}
use Rattle.gz_lines.specs.Counts.{one_of, two_of, three_of}

-- more fields than one, two or three after the first
pub not_one : (fields : List (Bor (List ℕ))) → 3 ≤ length fields → None ≡ one_of (map (λ x. x.now) fields)
not_one [] h = absurd (omega arith)
not_one (a ∷ []) h = absurd (omega arith)
not_one (a ∷ b ∷ []) h = absurd (omega arith)
not_one (a ∷ b ∷ c ∷ more) h = refl

pub not_two : (fields : List (Bor (List ℕ))) → 4 ≤ length fields → None ≡ two_of (map (λ x. x.now) fields)
not_two [] h = absurd (omega arith)
not_two (a ∷ []) h = absurd (omega arith)
not_two (a ∷ b ∷ []) h = absurd (omega arith)
not_two (a ∷ b ∷ c ∷ []) h = absurd (omega arith)
not_two (a ∷ b ∷ c ∷ d ∷ more) h = refl

pub not_three : (fields : List (Bor (List ℕ))) → 5 ≤ length fields → None ≡ three_of (map (λ x. x.now) fields)
not_three [] h = absurd (omega arith)
not_three (a ∷ []) h = absurd (omega arith)
not_three (a ∷ b ∷ []) h = absurd (omega arith)
not_three (a ∷ b ∷ c ∷ []) h = absurd (omega arith)
not_three (a ∷ b ∷ c ∷ d ∷ []) h = absurd (omega arith)
not_three (a ∷ b ∷ c ∷ d ∷ e ∷ more) h = refl
