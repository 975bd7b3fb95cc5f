use denote.Ref.{Bor}
use Rattle.std.proofs.Common.{ℕ, List, map, ap, sym, ◌∙◌}
use Rattle.std.proofs.lemmas.List.{take_rest, drop-map}
use Rattle.gz_text.proofs.places.fields_from.Goals as goal

pub returns-then-place-fields : goal.returns-then-place-fields
returns-then-place-fields c =
    ap (λ (xs : List (Bor (List ℕ))). map (λ x. x.now) xs) (take_rest c.args.fields.now c.args.place)
    ∙ sym (drop-map (λ (x : Bor (List ℕ)). x.now) c.args.place c.args.fields.now)
