-- What the answers of calls show was shown in the run of their object.
use Rattle.std.proofs.Common.{◌≡◌, ℕ, ◌+◌, ◌≤◌, ◌⊎◌, inl, inr, List, [], ◌∷◌, Some, None, refl, ap, sym, ◌∙◌, subst, arith}
use Rattle.std.specs.Prelude.{Option, slice_get}
use Rattle.gz_core.specs.Names.{Name}
use Rattle.gz_core.specs.Calls.{key_of}
use Rattle.gz_core.specs.declared.calls.Call.{Call}
use Rattle.gz_core.specs.declared.calls.Call.TheVariants.{Put, Delete, Get, GetAt, Collect}
use Rattle.gz_core.specs.declared.calls.Answer.{Answer}
use Rattle.gz_core.specs.declared.calls.Answer.TheVariants.{Ok, Thin, Short, Bytes, Incomplete, Gone, Absent, Unborn, Collected, NoQuorum, Contended, Unsure}
use Rattle.gz_config.specs.declared.Config.{Config}
use Rattle.gz_core.specs.History.{Action, Trace}
use Rattle.gz_round.specs.Shown.{IsShown, HasFloor}
use Rattle.gz_round.specs.Starting.{IsWithin}
use Rattle.gz_round.specs.Targets.{target_of}
use Rattle.gz_round.specs.declared.run.Target.TheVariants.{At}
use Rattle.gz_core.specs.Puts.{PutData}
use Rattle.gz_client.specs.Causes.{IsRead}
use Rattle.gz_client.specs.Traces.{IsAnswered}
use Rattle.gz_history.specs.Answers.{shows, names}
use Rattle.gz_history.specs.declared.record.CallRec.{CallRec}
use Rattle.gz_ledger.specs.Histories.{IsShownByRows}
use Rattle.gz_ledger.specs.Transitions.{Transition, after_transitions, seen_after}
use Rattle.gz_ledger.proofs.Shown.{shown_more}
use Rattle.gz_laws.specs.Carried.{ActionsCarried, TracesCarried, AreCarried}
use Rattle.gz_laws.specs.Heard.{unused, heard_of, ActionsStand}
use Rattle.gz_laws.specs.Listed.{IsTraceOf, IsAmong, AreCallsListed}
use Rattle.gz_laws.specs.Runs.{IsShownAt, IsRun}
use Rattle.gz_world.specs.States.{RequestAt, State}
use Rattle.gz_laws.proofs.Hearing.{shown_heard, floor_heard, heard_known}
use Rattle.gz_laws.proofs.Keeping.{actions_stand}

-- the trace of a call, with what it heard
pub record HasTrace (key : List ℕ) (s : State) (ds : List Transition) (call : CallRec) : Type 0 where
  pub past : List Trace
  pub trace : Trace
  pub is : IsTraceOf s.cfg call past trace
  pub carried : ActionsCarried s.cfg.n s.net trace.caller.name trace.actions
  pub stands : ActionsStand (after_transitions unused ds) trace.actions

among_trace : (c : Config) (net : List RequestAt) (call : CallRec) (ts : List Trace) → IsAmong c call ts → TracesCarried c.n net ts → (past : List Trace) × ((t : Trace) × (IsTraceOf c call past t × ActionsCarried c.n net t.caller.name t.actions))
among_trace c net call [] h carried = absurd h
among_trace c net call (t ∷ ts) (inl h) carried = (ts, (t, (h, carried.0)))
among_trace c net call (t ∷ ts) (inr h) carried = among_trace c net call ts h carried.1

pub call_trace : (key : List ℕ) (s : State) (ds : List Transition) (i : ℕ) (a : CallRec) → IsRun key s ds → AreCallsListed s → AreCarried s → slice_get s.calls i ≡ Some a → key_of a.call ≡ key → HasTrace key s ds a
call_trace key s ds i a run listed carries at own =
    let k = among_trace s.cfg s.net a (s.traces a.name.session) (listed.traces i a at) (carries a.name.session) in
    let t = k.1.0 in
    let is = k.1.1.0 in
    let mine : key_of t.caller.call ≡ key = ap key_of is.call_is ∙ own in
    record { past = k.0; trace = t; is = is; carried = k.1.1.1; stands = actions_stand key s.net (after_transitions unused ds) s.cfg t.caller k.0 t.actions run.requests mine is.told.allowed k.1.1.1 }

-- what was shown to a call was shown
pub trace_shown : (c : Config) (ds : List Transition) (ms : List Action) (v : ℕ) (x : Name) → ActionsStand (after_transitions unused ds) ms → IsShown c ms v x → IsShownByRows c (seen_after unused ds) v x
trace_shown c ds ms v x stands h = shown_more c (heard_of ms) (seen_after unused ds) v x (λ e i. heard_known (after_transitions unused ds) ms e stands i) (shown_heard c (after_transitions unused ds) ms v x stands h)

pub same_version : (u v : ℕ) → Some u ≡ Some v → u ≡ v
same_version u v e = cc

same_name : (x y : Name) → Some x ≡ Some y → x ≡ y
same_name x y e = cc

-- ---- the call that an answer names

shown_at_both : (c : Config) (ms : List Action) (u v : ℕ) (y x : Name) → u ≡ v → y ≡ x → IsShown c ms u y → IsShown c ms v x
shown_at_both c ms u v y x at named h = subst (IsShown c ms v) named (subst (λ k. IsShown c ms k y) at h)

read_shown : (c : Config) (t : Trace) (u : ℕ) (y : Name) {told : PutData → Type 0} → IsRead c t.caller t.actions u y told → IsShown c t.actions u y
read_shown c t u y read = subst (IsShown c t.actions u) read.1 read.2.shown

-- its value was shown to the call
pub answer_names : (c : Config) (past : List Trace) (t : Trace) (answer : Option Answer) (v : ℕ) (x : Name) → IsAnswered c past t answer → shows answer ≡ Some v → names t.caller.name answer ≡ Some x → IsShown c t.actions v x
answer_names c past t None v x h e named = cc
answer_names c past t (Some (Ok u)) v x h e named = shown_at_both c t.actions u v t.caller.name x (same_version u v e) (same_name t.caller.name x named) h.1.chosen.2
answer_names c past t (Some (Thin u told)) v x h e named = shown_at_both c t.actions u v t.caller.name x (same_version u v e) (same_name t.caller.name x named) h.1.chosen.2
answer_names c past t (Some (Short told)) v x h e named = cc
answer_names c past t (Some (Bytes u y bytes)) v x h e named = shown_at_both c t.actions u v y x (same_version u v e) (same_name y x named) (read_shown c t u y h.1)
answer_names c past t (Some (Incomplete u y fates)) v x h e named = shown_at_both c t.actions u v y x (same_version u v e) (same_name y x named) (read_shown c t u y h.1)
answer_names c past t (Some (Gone u y)) v x h e named = shown_at_both c t.actions u v y x (same_version u v e) (same_name y x named) h.1.shown
answer_names c past t (Some Absent) v x h e named = cc
answer_names c past t (Some (Unborn latest)) v x h e named = cc
answer_names c past t (Some (Collected floor)) v x h e named = cc
answer_names c past t (Some (NoQuorum phase heard)) v x h e named = cc
answer_names c past t (Some (Contended met)) v x h e named = cc
answer_names c past t (Some (Unsure why)) v x h e named = cc
answer_names c past t (Some answer) v x h e named = absurd h

-- ---- the version that an answer shows

latest_shown : (c : Config) (ds : List Transition) (ms : List Action) (u v : ℕ) → ActionsStand (after_transitions unused ds) ms → u ≡ v → ((u ≡ 0) ⊎ ((x : Name) × IsShown c ms u x)) → IsShownAt c ds v
latest_shown c ds ms u v stands at (inl z) = inl (sym at ∙ z)
latest_shown c ds ms u v stands at (inr k) = inr (k.0, trace_shown c ds ms v k.0 stands (subst (λ n. IsShown c ms n k.0) at k.1))

-- the version after a floor
floor_shown : (c : Config) (ds : List Transition) (ms : List Action) (floor v : ℕ) → ActionsStand (after_transitions unused ds) ms → floor + 1 ≡ v → 1 ≤ floor → HasFloor c ms floor → IsShownAt c ds v
floor_shown c ds ms floor v stands at positive h =
    let d = floor_heard c (after_transitions unused ds) ms floor stands positive h in
    inr (d.0, subst (λ n. IsShownByRows c (seen_after unused ds) n d.0) at (shown_more c (heard_of ms) (seen_after unused ds) (floor + 1) d.0 (λ e i. heard_known (after_transitions unused ds) ms e stands i) d.1))

-- versions that are asked for count from 1
pub asked_positive : (call : Call) (version : ℕ) → IsWithin call → target_of call ≡ At version → 1 ≤ version
asked_positive (GetAt key asked) version within e = let same : asked ≡ version = cc in omega (arith, same, within)
asked_positive (Put key bytes) version within e = cc
asked_positive (Delete key) version within e = cc
asked_positive (Get key) version within e = cc
asked_positive (Collect key keep) version within e = absurd within

-- a value is shown there, or there is no such version
pub answer_shows : (c : Config) (ds : List Transition) (past : List Trace) (t : Trace) (answer : Option Answer) (v : ℕ) → ActionsStand (after_transitions unused ds) t.actions → IsWithin t.caller.call → IsAnswered c past t answer → shows answer ≡ Some v → IsShownAt c ds v
answer_shows c ds past t None v stands within h e = cc
answer_shows c ds past t (Some (Ok u)) v stands within h e = inr (t.caller.name, trace_shown c ds t.actions v t.caller.name stands (answer_names c past t (Some (Ok u)) v t.caller.name h e refl))
answer_shows c ds past t (Some (Thin u told)) v stands within h e = inr (t.caller.name, trace_shown c ds t.actions v t.caller.name stands (answer_names c past t (Some (Thin u told)) v t.caller.name h e refl))
answer_shows c ds past t (Some (Short told)) v stands within h e = cc
answer_shows c ds past t (Some (Bytes u y bytes)) v stands within h e = inr (y, trace_shown c ds t.actions v y stands (answer_names c past t (Some (Bytes u y bytes)) v y h e refl))
answer_shows c ds past t (Some (Incomplete u y fates)) v stands within h e = inr (y, trace_shown c ds t.actions v y stands (answer_names c past t (Some (Incomplete u y fates)) v y h e refl))
answer_shows c ds past t (Some (Gone u y)) v stands within h e = inr (y, trace_shown c ds t.actions v y stands (answer_names c past t (Some (Gone u y)) v y h e refl))
answer_shows c ds past t (Some Absent) v stands within h e = inl (sym (same_version 0 v e))
answer_shows c ds past t (Some (Unborn latest)) v stands within h e = latest_shown c ds t.actions latest v stands (same_version latest v e) h.1.shown
answer_shows c ds past t (Some (Collected floor)) v stands within h e =
    let first = asked_positive t.caller.call h.1.version within h.1.asked in
    let gone = h.1.gone in
    floor_shown c ds t.actions floor v stands (same_version (floor + 1) v e) (omega (arith, first, gone)) h.1.heard
answer_shows c ds past t (Some (NoQuorum phase heard)) v stands within h e = cc
answer_shows c ds past t (Some (Contended met)) v stands within h e = cc
answer_shows c ds past t (Some (Unsure why)) v stands within h e = cc
answer_shows c ds past t (Some answer) v stands within h e = absurd h

-- what a call's answer shows: a version at which a value is shown, the one that it names, or none
pub record IsTold (c : Config) (ds : List Transition) (a : CallRec) (v : ℕ) : Type 0 where
  pub shown : IsShownAt c ds v
  pub named : (x : Name) → names a.name a.answer ≡ Some x → IsShownByRows c (seen_after unused ds) v x

pub call_told : (key : List ℕ) (s : State) (ds : List Transition) (a : CallRec) (v : ℕ) → HasTrace key s ds a → shows a.answer ≡ Some v → IsTold s.cfg ds a v
call_told key s ds a v h e =
    let t = h.trace in
    let is = h.is in
    let answered : IsAnswered s.cfg h.past t a.answer = subst (IsAnswered s.cfg h.past t) is.answer is.told.answered in
    record {
      shown = answer_shows s.cfg ds h.past t a.answer v h.stands (subst IsWithin (sym is.call_is) is.within) answered e;
      named = λ x named. trace_shown s.cfg ds t.actions v x h.stands (answer_names s.cfg h.past t a.answer v x answered e (subst (λ y. names y a.answer ≡ Some x) (sym is.name_is) named));
    }

pub call_shown : (key : List ℕ) (s : State) (ds : List Transition) (i v : ℕ) (a : CallRec) → IsRun key s ds → AreCallsListed s → AreCarried s → slice_get s.calls i ≡ Some a → key_of a.call ≡ key → shows a.answer ≡ Some v → IsShownAt s.cfg ds v
call_shown key s ds i v a run listed carries at own e = (call_told key s ds a v (call_trace key s ds i a run listed carries at own) e).shown
