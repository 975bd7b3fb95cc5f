-- What was collected of an object, a call of the history was to collect.
use Rattle.std.proofs.Common.{◌≡◌, ℕ, ◌+◌, inl, inr, List, [], ◌∷◌, Option, Some, ap, sym, ◌∙◌, subst, arith}
use Rattle.gz_core.specs.Names.{Name}
use Rattle.gz_core.specs.Calls.{key_of}
use Rattle.gz_core.specs.Rows.{RowAt}
use Rattle.gz_core.specs.Slots.{Trims, act_of, slots}
use Rattle.gz_core.specs.declared.slots.Slot.TheVariants.{Gone}
use Rattle.gz_core.specs.declared.calls.Call.{Call}
use Rattle.gz_core.specs.declared.calls.Call.TheVariants.{Put, Delete, Get, GetAt, Collect}
use Rattle.gz_core.specs.declared.requests.RowStep.{RowStep}
use Rattle.gz_core.specs.declared.requests.RowStep.TheVariants.{FastVote, Promise, ClassicVote, Decide, Trim}
use Rattle.gz_core.specs.declared.requests.Op.{Op}
use Rattle.gz_core.specs.declared.requests.Op.TheVariants.{WriteRow}
use Rattle.gz_core.specs.History.{Action, Sent, Handed, GaveUp, Rested, GaveIn, Caller, Trace}
use Rattle.gz_config.specs.declared.Config.{Config}
use Rattle.gz_round.specs.Sending.{AreAllowed, MayMake}
use Rattle.gz_round.specs.Shown.{IsShown}
use Rattle.gz_round.specs.Sites.{site_now}
use Rattle.gz_round.specs.Targets.{keep_of}
use Rattle.gz_round.proofs.Heard.{shown_more}
use Rattle.gz_ledger.specs.Histories.{IsTrimSent}
use Rattle.gz_ledger.specs.Transitions.{Transition, acceptor_of, after_transitions, sent_after}
use Rattle.gz_world.specs.Reached.{IsReached, AllTell}
use Rattle.gz_world.specs.States.{State}
use Rattle.gz_laws.specs.Floors.{IsFloorDue, AreFloorsDue}
use Rattle.gz_laws.specs.Heard.{unused, IsStepSent, SentStep}
use Rattle.gz_laws.specs.Runs.{stored_of}
use Rattle.gz_laws.proofs.Agreeing.{agreed}
use Rattle.gz_laws.proofs.Agreement.{seen_chosen}
use Rattle.gz_laws.proofs.Asking.{row_asked}
use Rattle.gz_laws.proofs.Keeping.{actions_stand}
use Rattle.gz_laws.proofs.Legality.{IsKnownRun, known, sender_in}
use Rattle.gz_laws.proofs.Promising.{OpGuard, asks_guard}
use Rattle.gz_laws.proofs.RowRules.{low_gone}
use Rattle.gz_laws.proofs.RunAnswers.{trace_shown}

-- a call that keeps so many versions is a collection
keeps_collect : (call : Call) (keep : ℕ) → keep_of call ≡ Some keep → call ≡ Collect (key_of call) keep
keeps_collect (Put key bytes) keep e = cc
keeps_collect (Delete key) keep e = cc
keeps_collect (Get key) keep e = cc
keeps_collect (GetAt key version) keep e = cc
keeps_collect (Collect key kept) keep e = let same : kept ≡ keep = cc in ap (Collect key) same

-- the call collects up to a version, and a value was shown to it so many versions above as it keeps
record MayCollect (c : Config) (w : Caller) (ms : List Action) (to : ℕ) : Type 0 where
  pub keep : ℕ
  pub collects : keep_of w.call ≡ Some keep
  pub name : Name
  pub shown : IsShown c ms (to + keep) name

collect_more : (c : Config) (w : Caller) (m : Action) (ms : List Action) (to : ℕ) → MayCollect c w ms to → MayCollect c w (m ∷ ms) to
collect_more c w m ms to h = record { keep = h.keep; collects = h.collects; name = h.name; shown = shown_more c m ms (to + h.keep) h.name h.shown }

-- so it is of a call that sent a collection
step_collects : (c : Config) (w : Caller) (past : List Trace) (ms : List Action) (step : RowStep) (to : ℕ) (x : Name) → MayMake c w past ms step → act_of step ≡ Trims to x → MayCollect c w ms to
step_collects c w past ms (FastVote v y) to x may e = cc
step_collects c w past ms (Promise v b) to x may e = cc
step_collects c w past ms (ClassicVote v b y) to x may e = cc
step_collects c w past ms (Decide v y) to x may e = cc
step_collects c w past ms (Trim u y) to x may e =
    let same : u ≡ to = cc in
    subst (MayCollect c w ms) same (record { keep = may.keep; collects = may.collects; name = may.kept.0; shown = may.kept.1 })

op_collects : (c : Config) (w : Caller) (past : List Trace) (ms : List Action) (op : Op) (to : ℕ) (x : Name) → OpGuard c w past ms op → IsStepSent op (Trims to x) → MayCollect c w ms to
op_collects c w past ms (WriteRow key expect step row) to x guard h = step_collects c w past ms step to x guard h
op_collects c w past ms op to x guard h = absurd h

sent_collects : (c : Config) (w : Caller) (past : List Trace) (ms : List Action) (to : ℕ) (x : Name) → AreAllowed c w past ms → SentStep ms (Trims to x) → MayCollect c w ms to
sent_collects c w past [] to x allowed h = absurd h
sent_collects c w past (Sent a ∷ ms) to x allowed (inl h) =
    collect_more c w (Sent a) ms to (op_collects c w past ms a.op to x (asks_guard c w past ms (site_now ms a.site) a.op (row_asked c w past ms a allowed.0)) h)
sent_collects c w past (Sent a ∷ ms) to x allowed (inr h) = collect_more c w (Sent a) ms to (sent_collects c w past ms to x allowed.1 h)
sent_collects c w past (Handed a reply ∷ ms) to x allowed (inl h) = absurd h
sent_collects c w past (Handed a reply ∷ ms) to x allowed (inr h) = collect_more c w (Handed a reply) ms to (sent_collects c w past ms to x allowed.1 h)
sent_collects c w past (GaveUp a ∷ ms) to x allowed (inl h) = absurd h
sent_collects c w past (GaveUp a ∷ ms) to x allowed (inr h) = collect_more c w (GaveUp a) ms to (sent_collects c w past ms to x allowed.1 h)
sent_collects c w past (Rested ∷ ms) to x allowed (inl h) = absurd h
sent_collects c w past (Rested ∷ ms) to x allowed (inr h) = collect_more c w Rested ms to (sent_collects c w past ms to x allowed.1 h)
sent_collects c w past (GaveIn ∷ ms) to x allowed (inl h) = absurd h
sent_collects c w past (GaveIn ∷ ms) to x allowed (inr h) = collect_more c w GaveIn ms to (sent_collects c w past ms to x allowed.1 h)

-- a version that was sent to be collected is due
trim_due : (key : List ℕ) (s : State) (ds : List Transition) (v : ℕ) → IsKnownRun key s ds → IsTrimSent (sent_after unused ds) v → IsFloorDue key s v
trim_due key s ds v k sent =
    let n = sender_in key s ds sent.write k sent.found in
    let so = n.sends in
    let t = so.trace in
    let own = so.sender.key_is in
    let h = sent_collects s.cfg t.caller so.past t.actions sent.to sent.value so.is.told.allowed (subst (SentStep t.actions) sent.trims so.sender.sent) in
    let top = sent.to + h.keep in
    let stands = actions_stand key s.net (after_transitions unused ds) s.cfg t.caller so.past t.actions k.run.requests own so.is.told.allowed so.carried in
    let shown = trace_shown s.cfg ds t.actions top h.name stands h.shown in
    let within = sent.within in
    record {
      place = n.place;
      call = n.call;
      there = n.there;
      keep = h.keep;
      collects = sym so.is.call_is ∙ keeps_collect t.caller.call h.keep h.collects ∙ ap (λ q. Collect q h.keep) own;
      version = top;
      name = h.name;
      chosen = seen_chosen key s ds top h.name k.run ((agreed key s ds k.placed k.run).chosen top h.name shown).0;
      kept = omega (arith, within);
    }

-- what a site collected was sent to be collected
stored_gone : (o : Option (ℕ × RowAt)) (etag v : ℕ) (row : RowAt) → o ≡ Some (etag, row) → slots row v ≡ Gone → acceptor_of (stored_of o) v ≡ Gone
stored_gone o etag v row is gone = ap (λ q. acceptor_of (stored_of q) v) is ∙ gone

floor_due : (key : List ℕ) (s : State) (ds : List Transition) → IsKnownRun key s ds → AreFloorsDue key s
floor_due key s ds k i told etag row is held raised =
    let st = after_transitions unused ds in
    let kept : acceptor_of (st.stored i) row.floor ≡ acceptor_of (stored_of (told.rows key)) row.floor = ap (λ o. acceptor_of o row.floor) (k.run.sites i told is).stored in
    let gone = stored_gone (told.rows key) etag row.floor row held (low_gone row row.floor raised (omega arith)) in
    trim_due key s ds row.floor k ((agreed key s ds k.placed k.run).collected row.floor i (kept ∙ gone))

pub floors_due : (key : List ℕ) (s : State) → IsReached s → AllTell s → AreFloorsDue key s
floors_due key s reached tells = let k = known key s reached tells in floor_due key s k.0 k.1
