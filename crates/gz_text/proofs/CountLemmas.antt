-- Lists with more elements than are asked for.
use denote.Ref.{Bor}
use Rattle.std.proofs.Common.{ℕ, ◌≡◌, ◌≤◌, List, [], ◌∷◌, length, map, refl, arith}
use Rattle.std.specs.Prelude.{None}
use Rattle.gz_text.specs.Places.{pair_of}

-- three parts are no pair
pub no_pair : (parts : List (Bor (List ℕ))) → 3 ≤ length parts → None ≡ pair_of (map (λ x. x.now) parts)
no_pair [] h = absurd (omega arith)
no_pair (a ∷ []) h = absurd (omega arith)
no_pair (a ∷ b ∷ []) h = absurd (omega arith)
no_pair (a ∷ b ∷ c ∷ more) h = refl
