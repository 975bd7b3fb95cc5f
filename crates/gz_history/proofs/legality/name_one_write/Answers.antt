use Rattle.std.proofs.Common.{sym, ◌∙◌}
use Rattle.gz_history.proofs.Searching.{names_tie}
use Rattle.gz_history.proofs.legality.name_one_write.Goals as goal

pub returns-in-Some-Some-clause-broken : goal.returns-in-Some-Some-clause-broken
returns-in-Some-Some-clause-broken c = λ f h.
    let t = names_tie c.in-Some-Some.x c.in-Some-Some.y (h c.in-Some-Some.x c.in-Some-Some.y (sym c.named.ensures ∙ c.in-Some-Some.is-0) (sym c.named-2.ensures ∙ c.in-Some-Some.is-1)) in
    let s = c.eq.ensures in cc
