use Rattle.std.proofs.Common.{sym, ◌∙◌, ◌≡◌, ap, Some}
use Rattle.gz_history.proofs.Searching.{same_of}
use Rattle.gz_history.proofs.legality.take_effect_once.Goals as goal

pub returns-else-ne-clause-broken : goal.returns-else-ne-clause-broken
returns-else-ne-clause-broken c =
    let e : c.in-Some-Some.x ≡ c.in-Some-Some.y = same_of c.in-Some-Some.x c.in-Some-Some.y (sym c.ne.ensures ∙ c.if-ne.false) in
    λ f h. c.show_one_version.ensures.broken f (λ v w p q. h c.in-Some-Some.x v w (sym c.named.ensures ∙ c.in-Some-Some.is-0) (sym c.named-2.ensures ∙ c.in-Some-Some.is-1 ∙ ap Some (sym e)) p q)
