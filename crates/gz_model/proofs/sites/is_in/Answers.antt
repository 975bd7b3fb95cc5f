use Rattle.std.proofs.Common.{ℕ, ◌≡◌, ◌<◌, ◌==◌, List, length, get_or, arith, refl, sym}
use Rattle.std.proofs.lemmas.Bool.{eq-eqb}
use Rattle.std.proofs.lemmas.List.Recursion.{or_at, or_from_places}
use Rattle.gz_model.specs.Sites.{has_site}
use Rattle.gz_model.proofs.sites.is_in.Goals as goal

pub returns-then-index : goal.returns-then-index
returns-then-index c =
    let xs = c.args.sites.now in
    let s = c.args.site in
    let at : get_or xs c.loop-other.other-index c.other-item.result ≡ s = grind arith in
    sym (or_at (λ (ys : List ℕ). has_site ys s) (λ (y : ℕ). y == s) refl (λ _ _. refl) xs c.loop-other.other-index c.other-item.result (omega arith) (eq-eqb _ _ at))

pub returns : goal.returns
returns c =
    let s = c.args.site in
    sym (or_from_places (λ (ys : List ℕ). has_site ys s) (λ (y : ℕ). y == s) refl (λ _ _. refl) c.args.sites.now 0 (λ (k : ℕ) (l : k < length c.args.sites.now). c.loop-other.invariant k (omega arith)))
