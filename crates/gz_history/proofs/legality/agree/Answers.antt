use Rattle.std.proofs.Common.{sym, ◌∙◌, ap, Some}
use Rattle.gz_history.proofs.legality.agree.Goals as goal

pub returns-else-v-w-clause-broken : goal.returns-else-v-w-clause-broken
returns-else-v-w-clause-broken c = λ f h.
    c.name_one_write.ensures.broken f (λ x y p q. h c.in-Some-Some.v x y (sym c.shown.ensures.same ∙ c.in-Some-Some.is-0) (sym c.shown-2.ensures.same ∙ c.in-Some-Some.is-1 ∙ ap Some (sym c.if-v-w.false)) p q)
