-- The lines of a text, part by part.
use denote.Ref.{Bor}
use Rattle.std.proofs.Common.{ℕ, ◌≡◌, ◌+◌, ◌-◌, ◌<◌, ◌≤◌, List, [], ◌∷◌, ◌++◌, map, length, take, get_or, refl, ap, sym, ◌∙◌, arith}
use Rattle.std.proofs.lemmas.Grind.{common_steps}
use Rattle.std.specs.Prelude.{◌==◌}
use Rattle.std.specs.List.{slice_split}
use Rattle.std.specs.Str.Lines.{lines_of_parts}
use Rattle.std.proofs.lemmas.List.{take_more, map-append, length-map}
use Rattle.std.proofs.lemmas.List.Sums.{count_by-le-length}
use Rattle.std.proofs.lemmas.List.Splits.{length-slice_split}
use Rattle.std.proofs.Math.Seq.{take-length}
use Rattle.gz_text.specs.Texts.{without_return, last_line, lines}

-- the parts before the last one lose their carriage returns
lines-snoc : (xs : List (List ℕ)) (x : List ℕ) → lines_of_parts (xs ++ x ∷ []) ≡ map without_return xs ++ last_line x
lines-snoc [] x = refl
lines-snoc (y ∷ []) x = refl
lines-snoc (y ∷ z ∷ zs) x = ap (λ (ls : List (List ℕ)). without_return y ∷ ls) (lines-snoc (z ∷ zs) x)

-- a list that is not empty is what stands before its last element, and that element
front-last : {X : Type 0} (xs : List X) (d : X) → 0 < length xs → take (length xs - 1) xs ++ get_or xs (length xs - 1) d ∷ [] ≡ xs
front-last xs d some =
    let below : length xs - 1 < length xs = omega arith in
    let whole : length xs - 1 + 1 ≡ length xs = omega arith in
    sym (take_more xs (length xs - 1) d below) ∙ rw whole (take-length xs)

-- the lines of parts of which there is a last one
pub lines-parts : (parts : List (Bor (List ℕ))) (d : Bor (List ℕ)) → 0 < length parts
    → lines_of_parts (map (λ x. x.now) parts) ≡ map without_return (map (λ x. x.now) (take (length parts - 1) parts)) ++ last_line (get_or parts (length parts - 1) d).now
lines-parts parts d some =
    let front = take (length parts - 1) parts in
    let last = get_or parts (length parts - 1) d in
    ap (λ (ps : List (Bor (List ℕ))). lines_of_parts (map (λ x. x.now) ps)) (sym (front-last parts d some))
    ∙ ap lines_of_parts (map-append (λ (x : Bor (List ℕ)). x.now) front (last ∷ []))
    ∙ lines-snoc (map (λ x. x.now) front) last.now
