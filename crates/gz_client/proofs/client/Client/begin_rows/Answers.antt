use Rattle.std.proofs.Common.{◌≡◌, ◌∙◌, List, [], ◌∷◌, refl, sym, subst, arith}
use Rattle.gz_core.specs.Names.{Name}
use Rattle.gz_core.specs.declared.calls.Call.{Call}
use Rattle.gz_core.specs.History.{Caller, Trace}
use Rattle.gz_data.specs.Own.{IsOwn}
use Rattle.gz_round.specs.Standing.{IsNamed}
use Rattle.gz_client.proofs.Beginning.{call_for, call_key, call_target, trace_of, trace_round, next_caller, next_name, begins, rows_begun, rows_open}
use Rattle.gz_client.proofs.client.Client.begin_rows.Goals as goal

pub open-requires-clause-ready : goal.open-requires-clause-ready
open-requires-clause-ready c =
    let call : Call = call_for c.args.target c.args.key.now in
    let w : Caller = record { name = c.args.name; call = call; own = c.args.own } in
    let past : List Trace = trace_of w c.args.self.now.round ∷ [] in
    (w, past, [], c.in_ok-run.ensures.ready w past refl (call_key c.args.target c.args.key.now) (call_target c.args.target c.args.key.now) refl c.requires.named (λ x is. call_target c.args.target c.args.key.now ∙ c.requires.writes x is) (trace_round w c.args.self.now.round))

pub returns-clause-ok : goal.returns-clause-ok
returns-clause-ok c = λ (call : Call) key target no_put is_own next (ts : List Trace) h l.
    let client = c.args.self.now in
    let w : Caller = next_caller client call c.args.own ts in
    let named : c.args.name ≡ w.name = next_name client next c.args.name ts c.requires.name h in
    let ready = c.in_ok-run.ensures.ready w ts (sym named) key target refl (subst (λ (n : Name). IsNamed n c.args.own) named c.requires.named) (λ x is. target ∙ c.requires.writes x is) (sym h.round_is) in
    let reads = c.in_ok-send.ensures.reads w ts [] ready tt in
    begins client call c.args.own c.args.first c.in_ok-send.send next ts _ c.open.new.self.round c.call_begins.result.0 c.call_begins.result.1 c.call_begins.ensures.change c.call_begins.ensures.turn h c.requires.begin.idle
    (subst (λ (n : Name). IsOwn client.config n call c.args.own) named is_own)
    (rows_begun client.config w ts c.open.new.self c.none-puts.result c.args.first c.in_ok-send.send (omega (arith, h.round_is, h.round_low, l)) no_put c.none-puts.ensures.awaited c.none-puts.ensures.counts reads
    (c.in_ok-send.ensures.runs w ts [] ready tt)) (rows_open client.config w c.in_ok-send.send no_put reads)
