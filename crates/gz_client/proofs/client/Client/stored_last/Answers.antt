use Rattle.std.proofs.Common.{[], List, Some, None, sym, subst}
use Rattle.gz_core.specs.declared.requests.Out.{Out}
use Rattle.gz_core.specs.declared.requests.Turn.{Turn}
use Rattle.gz_client.specs.Changes.{changed}
use Rattle.gz_client.specs.Turning.{TurnsBy}
use Rattle.gz_client.specs.declared.client.Client.{Client}
use Rattle.gz_client.specs.declared.running.Change.{Change}
use Rattle.gz_client.specs.declared.running.Change.TheVariants.{Runs}
use Rattle.gz_client.proofs.StoringLast.{waits_on, settles_so}
use Rattle.gz_client.proofs.client.Client.stored_last.Goals as goal

pub returns-in-Some-clause-ok : goal.returns-in-Some-clause-ok
returns-in-Some-clause-ok c =
    let client : Client = c.args.self.now in
    λ first w past ms puts running round h.
    subst (λ (t : Turn). TurnsBy client (changed client c.ends.result.0) first t w past ms) (sym c.ends.ensures.turn)
    (subst (λ (k : Change). TurnsBy client (changed client k) first (record { send = c.new.result; answer = Some c.in-Some.answer }) w past ms) (sym c.ends.ensures.change)
    (subst (λ (s : List Out). TurnsBy client (changed client (Runs client.calls client.round None)) first (record { send = s; answer = Some c.in-Some.answer }) w past ms) (sym c.new.ensures)
    (settles_so client c.args.version puts c.args.n first c.args.counts c.in-Some.answer w past ms c.in-Some.ensures round h)))

pub returns-in-None-clause-ok : goal.returns-in-None-clause-ok
returns-in-None-clause-ok c =
    let client : Client = c.args.self.now in
    λ first w past ms puts running round h.
    subst (λ (t : Turn). TurnsBy client (changed client c.goes_on.result.0) first t w past ms) (sym c.goes_on.ensures.turn)
    (subst (λ (k : Change). TurnsBy client (changed client k) first (record { send = []; answer = None }) w past ms) (sym c.goes_on.ensures.change)
    (waits_on client c.args.version puts c.args.n first c.args.counts w past ms running c.in-None.ensures round h))
