use Rattle.std.proofs.Common.{◌≡◌, ◌∙◌, List, [], ◌∷◌, Some, refl, sym, ap, subst, arith}
use Rattle.gz_core.specs.Names.{Name}
use Rattle.gz_core.specs.declared.calls.Call.{Call}
use Rattle.gz_core.specs.declared.calls.Call.TheVariants.{Put}
use Rattle.gz_core.specs.declared.values.Value.TheVariants.{Put as PutOf}
use Rattle.gz_core.specs.History.{Caller, Trace}
use Rattle.gz_data.specs.Own.{IsMade}
use Rattle.gz_data.specs.Requests.{puts_from, AreAdded}
use Rattle.gz_round.specs.Following.{Ready}
use Rattle.gz_client.specs.declared.running.Puts.{Puts}
use Rattle.gz_client.specs.declared.running.Running.{Running}
use Rattle.gz_client.proofs.Beginning.{HasBegun, trace_of, trace_round, next_caller, next_name, begins, reads_few, put_running, put_begun, put_named, made_for}
use Rattle.gz_client.proofs.client.Client.begin_put.Goals.{in-Parallel, in-BlobsFirst}
use Rattle.gz_client.proofs.client.Client.begin_put.Goals as goal

pub read_first-requires-clause-opens : goal.read_first-requires-clause-opens
read_first-requires-clause-opens c =
    let own = Some (PutOf c.in_ok-put.field-0.put) in
    let w : Caller = record { name = c.args.name; call = Put c.args.key.now c.args.object.now; own = own } in
    let past : List Trace = trace_of w c.args.self.now.round ∷ [] in
    (w, past, c.in_ok-run.ensures.ready w past refl refl refl refl (put_named c.args.self.now.config c.args.name c.args.key.now c.args.object.now own c.in_ok-put.ensures.own) (λ x is. refl) (trace_round w c.args.self.now.round))

pub store-requires-clause-room : goal.store-requires-clause-room
store-requires-clause-room c =
    let own = Some (PutOf c.in_ok-put.field-0.put) in
    let w : Caller = record { name = c.args.name; call = Put c.args.key.now c.args.object.now; own = own } in
    let past : List Trace = trace_of w c.args.self.now.round ∷ [] in
    reads_few c.args.self.now.config w past c.in_ok-run.run' c.read_first.new.run c.args.first c.in_ok-send.send c.args.self.now.config.order c.requires.begin.sizes
    (c.in_ok-run.ensures.ready w past refl refl refl refl (put_named c.args.self.now.config c.args.name c.args.key.now c.args.object.now own c.in_ok-put.ensures.own) (λ x is. refl) (trace_round w c.args.self.now.round))
    c.in_ok-send.ensures

pub returns-clause-ok : goal.returns-clause-ok
returns-clause-ok c = λ next (ts : List Trace) h l.
    let client = c.args.self.now in
    let put = c.in_ok-put.field-0.put in
    let own = Some (PutOf put) in
    let call : Call = Put c.args.key.now c.args.object.now in
    let w : Caller = next_caller client call own ts in
    let named : c.args.name ≡ w.name = next_name client next c.args.name ts c.requires.name h in
    let made : IsMade client.config w.name c.args.key.now c.args.object.now put c.in_ok-put.field-0.records.items =
    subst (λ (n : Name). IsMade client.config n c.args.key.now c.args.object.now put c.in_ok-put.field-0.records.items) named c.in_ok-put.ensures in
    let ready : Ready client.config w ts c.in_ok-run.run' [] =
    c.in_ok-run.ensures.ready w ts (sym named) refl refl refl (put_named client.config w.name c.args.key.now c.args.object.now own made.own) (λ x is. refl) (sym h.round_is) in
    let puts : Puts = record { awaited = c.in_ok-awaited.awaited; counts = record { stored = 0; lost = 0 } } in
    let running : c.match-self.running ≡ put_running client.config.order c.read_first.new.run puts = elim c.match-self.branch [
      | in-Parallel m ↦ m.running-is ∙ ap (λ o. put_running o c.read_first.new.run puts) (sym m.in-Parallel.is)
      | in-BlobsFirst m ↦ m.running-is ∙ ap (λ o. put_running o c.read_first.new.run puts) (sym m.in-BlobsFirst.is)
    ] in
    let b = put_begun client.config w ts c.in_ok-run.run' c.read_first.new.run put c.in_ok-put.field-0.records.items c.in_ok-awaited.awaited c.args.first c.in_ok-send.send c.store.new.send client.config.order
    c.requires.begin.sizes refl refl (omega (arith, h.round_is, h.round_low, l)) (made_for client.config w.name c.args.key.now c.args.object.now put c.in_ok-put.field-0.records.items made) ready c.in_ok-run.ensures.stage c.in_ok-send.ensures
    (subst (λ (n : Name). AreAdded c.args.first c.in_ok-send.send c.store.new.send c.in_ok-awaited.awaited (puts_from n c.args.key.now 0 c.in_ok-put.field-0.records.items)) named c.in_ok-awaited.ensures) in (
      own,
      begins client call own c.args.first c.store.new.send next ts c.match-self.running c.read_first.new.run.round c.call_begins.result.0 c.call_begins.result.1 c.call_begins.ensures.change c.call_begins.ensures.turn h c.requires.begin.idle
          made.own (subst (λ (r : Running). HasBegun client.config w ts r c.read_first.new.run.round c.args.first c.store.new.send) (sym running) b.0) b.1,
    )
