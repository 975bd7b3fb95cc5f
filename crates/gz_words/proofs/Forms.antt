-- Words of no form.
use denote.Ref.{Bor}
use Rattle.std.proofs.Common.{ℕ, ◌≡◌, ◌≤◌, List, [], ◌∷◌, length, map, refl, arith}
use Rattle.std.specs.Prelude.{None}
use Rattle.gz_words.specs.Words.{form_of}

-- no form has five words
pub no_form : (words : List (Bor (List ℕ))) → 5 ≤ length words → None ≡ form_of (map (λ word. word.now) words)
no_form [] h = absurd (omega arith)
no_form (a ∷ []) h = absurd (omega arith)
no_form (a ∷ b ∷ []) h = absurd (omega arith)
no_form (a ∷ b ∷ c ∷ []) h = absurd (omega arith)
no_form (a ∷ b ∷ c ∷ d ∷ []) h = absurd (omega arith)
no_form (a ∷ b ∷ c ∷ d ∷ e ∷ more) h = refl
