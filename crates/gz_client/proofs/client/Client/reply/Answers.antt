use Rattle.std.proofs.Common.{◌∙◌, sym, ap, subst}
use Rattle.gz_core.specs.History.{Asked, Handed}
use Rattle.gz_round.specs.Sites.{as_heard, written_by}
use Rattle.gz_client.specs.Changes.{changed}
use Rattle.gz_client.specs.Traces.{Extends}
use Rattle.gz_client.specs.declared.client.Client.{Client}
use Rattle.gz_client.proofs.client.Client.reply.Goals as goal

pub returns-clause-ok : goal.returns-clause-ok
returns-clause-ok c =
    subst (λ (q : Client). Extends c.args.self.now q c.args.n c.args.first (λ (a : Asked). Handed a (as_heard c.args.self.now.config.n (written_by a.op) c.args.answer.now)) c.in_ok-change.turn)
    (sym (c.take.ensures ∙ ap (λ (q : Client). changed q c.in_ok-change.change) c.in_ok-change.ensures.same)) c.in_ok-change.ensures.ok
