use Rattle.std.proofs.Common.{◌∙◌, sym, ap, subst}
use Rattle.gz_core.specs.History.{Asked, GaveUp}
use Rattle.gz_client.specs.Changes.{changed}
use Rattle.gz_client.specs.Traces.{Extends}
use Rattle.gz_client.specs.declared.client.Client.{Client}
use Rattle.gz_client.proofs.client.Client.give_up.Goals as goal

pub returns-clause-ok : goal.returns-clause-ok
returns-clause-ok c =
    subst (λ (q : Client). Extends c.args.self.now q c.args.n c.args.first (λ (a : Asked). GaveUp a) c.in_ok-change.turn)
    (sym (c.take.ensures ∙ ap (λ (q : Client). changed q c.in_ok-change.change) c.in_ok-change.ensures.same)) c.in_ok-change.ensures.ok
