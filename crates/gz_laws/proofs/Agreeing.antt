-- What the answers of two calls of one object have in common: the versions that they show are those of one order.
use Rattle.std.proofs.Common.{◌≡◌, ℕ, ◌<◌, ◌≤◌, inl, inr, List, [], ◌∷◌, ◌++◌, Some, None, Bool, true, false, refl, ap, sym, ◌∙◌, subst, arith}
use Rattle.gz_laws.proofs.Hearing.{le_means}
use Rattle.std.proofs.lemmas.Bool.Decides.{nat_tests}
use Rattle.std.specs.Prelude.{Option, ◌==◌, ◌&&◌, nat_le, slice_get}
use Rattle.gz_core.specs.Names.{Name}
use Rattle.gz_core.specs.Calls.{key_of}
use Rattle.gz_data.specs.Own.{IsOwn}
use Rattle.gz_core.specs.Rows.{RowAt}
use Rattle.gz_core.specs.Slots.{Act, act_of}
use Rattle.gz_core.specs.declared.calls.Answer.{Answer}
use Rattle.gz_core.specs.declared.calls.Answer.TheVariants.{Ok, Thin, Short, Bytes, Incomplete, Gone, Absent, Unborn, Collected, NoQuorum, Contended, Unsure}
use Rattle.gz_client.specs.Causes.{IsPlaced}
use Rattle.gz_core.specs.declared.calls.Call.{Call}
use Rattle.gz_config.specs.declared.Config.{Config}
use Rattle.gz_core.specs.declared.requests.RowStep.{RowStep}
use Rattle.gz_core.specs.declared.requests.RowStep.TheVariants.{FastVote, Promise, ClassicVote, Decide, Trim}
use Rattle.gz_core.specs.declared.requests.Op.{Op}
use Rattle.gz_core.specs.declared.requests.Op.TheVariants.{WriteRow}
use Rattle.gz_pick.specs.Looks.{row_top}
use Rattle.gz_core.specs.History.{Action, Sent, Handed, GaveUp, Rested, GaveIn, Caller, Trace}
use Rattle.gz_core.specs.declared.calls.Call.TheVariants.{Put, Delete, Get, GetAt, Collect}
use Rattle.gz_round.specs.Sites.{SiteNow, site_now}
use Rattle.gz_round.specs.Causes.{is_blank}
use Rattle.gz_round.specs.Shown.{heard_at, IsShown, IsCurrent}
use Rattle.gz_round.specs.Sending.{AreAllowed, MayMake}
use Rattle.gz_round.specs.Targets.{target_of, IsAskedFor}
use Rattle.gz_round.specs.declared.run.Target.TheVariants.{At}
use Rattle.gz_laws.proofs.Asking.{MayAskRow, row_asked}
use Rattle.gz_client.specs.Traces.{IsAnswered, AllKeepRules}
use Rattle.gz_history.specs.Answers.{shows, stands, IsWrite, latest_told}
use Rattle.gz_history.specs.Legal.{IsBefore}
use Rattle.gz_history.specs.declared.record.CallRec.{CallRec}
use Rattle.gz_ledger.specs.Histories.{RowSeen, Write, IsIn, IsShownByRows, IsCurrentByRows, VotesFor}
use Rattle.gz_ledger.specs.Agreements.{HasQuorums, IsAgreed}
use Rattle.gz_ledger.specs.Transitions.{Transition, after_transitions, AreTransitions, ledger_of, late_rows, seen_after, sent_after, AreCurrentTransitions}
use Rattle.gz_ledger.proofs.Shown.{current_more}
use Rattle.gz_ledger.proofs.Stores.{store_agreed, store_latest, store_above}
use Rattle.gz_laws.specs.Heard.{unused, heard_of, ActionsStand, IsStepSent, SentStep}
use Rattle.gz_laws.specs.Listed.{AreCallsListed}
use Rattle.gz_laws.specs.Carried.{AreCarried}
use Rattle.gz_laws.specs.Placed.{ArePlaced}
use Rattle.gz_laws.specs.Runs.{IsSentBy, IsShownAt, IsRun}
use Rattle.gz_world.specs.States.{State}
use Rattle.gz_laws.proofs.Currents.{current_heard}
use Rattle.gz_laws.proofs.RunAnswers.{call_trace, trace_shown, same_version}
use Rattle.gz_laws.proofs.RunSends.{heard_in_rows}
use Rattle.gz_laws.proofs.Owning.{own_of, no_write}

-- the run of an object agrees
pub agreed : (key : List ℕ) (s : State) (ds : List Transition) → ArePlaced s → IsRun key s ds → IsAgreed s.cfg (ledger_of (after_transitions unused ds))
agreed key s ds placed run = store_agreed s.cfg unused ds placed.config.quorums run.transitions

-- votes are cast at versions from 1 on
step_positive : (c : Config) (w : Caller) (past : List Trace) (ms : List Action) (step : RowStep) (v : ℕ) (x : Name) → MayMake c w past ms step → VotesFor (act_of step) v x → 1 ≤ v
step_positive c w past ms (FastVote u y) v x may votes = subst (λ k. 1 ≤ k) votes.0 may.1.above
step_positive c w past ms (Promise u b) v x may votes = absurd votes
step_positive c w past ms (ClassicVote u b y) v x may votes = subst (λ k. 1 ≤ k) votes.0 may.above
step_positive c w past ms (Decide u y) v x may votes = absurd votes
step_positive c w past ms (Trim to y) v x may votes = absurd votes

op_positive : (c : Config) (w : Caller) (past : List Trace) (ms : List Action) (now : SiteNow) (op : Op) (act : Act) (v : ℕ) (x : Name) → MayAskRow c w past ms now op → IsStepSent op act → VotesFor act v x → 1 ≤ v
op_positive c w past ms now (WriteRow key expect step row) act v x may is votes = step_positive c w past ms step v x (may refl).1.guard (subst (λ a. VotesFor a v x) (sym is) votes)
op_positive c w past ms now op act v x may is votes = absurd is

actions_positive : (c : Config) (w : Caller) (past : List Trace) (ms : List Action) (act : Act) (v : ℕ) (x : Name) → AreAllowed c w past ms → SentStep ms act → VotesFor act v x → 1 ≤ v
actions_positive c w past [] act v x allowed h votes = absurd h
actions_positive c w past (Sent a ∷ ms) act v x allowed (inl h) votes = op_positive c w past ms (site_now ms a.site) a.op act v x (row_asked c w past ms a allowed.0) h votes
actions_positive c w past (Sent a ∷ ms) act v x allowed (inr h) votes = actions_positive c w past ms act v x allowed.1 h votes
actions_positive c w past (Handed a reply ∷ ms) act v x allowed (inl h) votes = absurd h
actions_positive c w past (Handed a reply ∷ ms) act v x allowed (inr h) votes = actions_positive c w past ms act v x allowed.1 h votes
actions_positive c w past (GaveUp a ∷ ms) act v x allowed (inl h) votes = absurd h
actions_positive c w past (GaveUp a ∷ ms) act v x allowed (inr h) votes = actions_positive c w past ms act v x allowed.1 h votes
actions_positive c w past (Rested ∷ ms) act v x allowed (inl h) votes = absurd h
actions_positive c w past (Rested ∷ ms) act v x allowed (inr h) votes = actions_positive c w past ms act v x allowed.1 h votes
actions_positive c w past (GaveIn ∷ ms) act v x allowed (inl h) votes = absurd h
actions_positive c w past (GaveIn ∷ ms) act v x allowed (inr h) votes = actions_positive c w past ms act v x allowed.1 h votes

sent_positive : (c : Config) (session : ℕ) (key : List ℕ) (name : Name) (act : Act) (v : ℕ) (x : Name) (ts : List Trace) → AllKeepRules c session ts → IsSentBy key name act ts → VotesFor act v x → 1 ≤ v
sent_positive c session key name act v x [] told h votes = absurd h
sent_positive c session key name act v x (t ∷ ts) told (inl h) votes = actions_positive c t.caller ts t.actions act v x told.0.allowed h.sent votes
sent_positive c session key name act v x (t ∷ ts) told (inr h) votes = sent_positive c session key name act v x ts told.2 h votes

-- what is shown is shown at a version from 1 on
pub shown_positive : (key : List ℕ) (s : State) (ds : List Transition) (v : ℕ) (x : Name) → AreCallsListed s → ArePlaced s → IsRun key s ds → IsShownByRows s.cfg (seen_after unused ds) v x → 1 ≤ v
shown_positive key s ds v x listed placed run h =
    let p = ((agreed key s ds placed run).chosen v x h).1 in
    sent_positive s.cfg p.write.call.session key p.write.call p.write.act v x (s.traces p.write.call.session) (listed.told p.write.call.session) (run.sent p.write p.found) p.votes

-- what a call shows or writes at a version, after what was shown at another one
pub own_above : (c : Config) (name : Name) (early late : List Transition) (v w : ℕ) → HasQuorums c → AreTransitions c unused (late ++ early) → ((q : Write) → IsIn q (sent_after unused early) → q.call ≡ name → ⊥) → AreCurrentTransitions c unused name late early → 1 ≤ w
    → IsShownAt c early v → IsShownByRows c (seen_after unused (late ++ early)) w name → v < w
own_above c name early late v w q are unsent current positive (inl z) h = omega (arith, z, positive)
own_above c name early late v w q are unsent current positive (inr k) h = store_above c unused name late early v w k.0 q are unsent current k.1 h

read_above : (c : Config) (early late : List Transition) (v w : ℕ) → HasQuorums c → AreTransitions c unused (late ++ early) → IsShownAt c early v → IsCurrentByRows c (late_rows unused late early) w → v ≤ w
read_above c early late v w q are (inl z) h = omega (arith, z)
read_above c early late v w q are (inr k) h = store_latest c unused late early v w k.0 q are k.1 h

blank_low : (r : RowAt) → is_blank r ≡ true → row_top r ≤ 0
blank_low r h = zero_low (row_top r) (r.floor == 0) h
  where
    zero_low : (n : ℕ) (b : Bool) → ((n == 0) && b) ≡ true → n ≤ 0
    zero_low n b h = elim (n == 0) as (λ t. (n == 0) ≡ t → (t && b) ≡ true → n ≤ 0) [
      | true ↦ λ e k. grind (arith, nat_tests)
      | false ↦ λ e k. cc
    ] refl h

-- what an answer calls the latest version is one that it shows
latest_shown : (answer : Option Answer) (w : ℕ) → latest_told answer ≡ Some w → shows answer ≡ Some w
latest_shown (Some (Unborn latest)) w h = h
latest_shown answer w h = cc

pub stands_shows : (call : Call) (answer : Option Answer) (w : ℕ) → stands call answer ≡ Some w → shows answer ≡ Some w
stands_shows (GetAt key version) answer w h = latest_shown answer w h
stands_shows (Collect key keep) answer w h = latest_shown answer w h
stands_shows call answer w h = h

-- the place of a call's answer in the order, after what had been shown when it began
abbrev IsPlacedAbove : Call → ℕ → ℕ → Type 0
IsPlacedAbove call v w = (v ≤ w) × (IsWrite call → v < w)

-- a call that writes nothing stands at the version where rows that it heard are current, or above
current_above : (c : Config) (t : Trace) (early late : List Transition) (v w u : ℕ) → HasQuorums c → IsOwn c t.caller.name t.caller.call t.caller.own → AreTransitions c unused (late ++ early) → ActionsStand (after_transitions unused (late ++ early)) t.actions → ((e : RowSeen) → IsIn e (heard_of t.actions) → IsIn e (late_rows unused late early))
    → IsShownAt c early v → t.caller.own ≡ None → IsCurrent c t.actions u → u ≡ w → IsPlacedAbove t.caller.call v w
current_above c t early late v w u q value are stands heard shown reads current at =
    let fresh = current_heard c (after_transitions unused (late ++ early)) t.actions w (λ r. nat_le (row_top r) w) stands (λ r k. le_means (row_top r) w k) (subst (λ k. c.qc ≤ heard_at c (λ r. nat_le (row_top r) k) t.actions) at current) in
    (read_above c early late v w q are shown (current_more c (heard_of t.actions) (late_rows unused late early) w heard fresh), λ k. absurd (no_write c t.caller.name t.caller.call (own_of c t.caller None value reads) k))

-- what a call reads as the latest version is current
current_read : (c : Config) (call : Call) (answer : Option Answer) (ms : List Action) (u w : ℕ) → latest_told answer ≡ None → stands call answer ≡ Some w → IsAskedFor c (target_of call) ms u → IsCurrent c ms u
current_read c (Put key bytes) answer ms u w old e h = h
current_read c (Delete key) answer ms u w old e h = h
current_read c (Get key) answer ms u w old e h = h
current_read c (GetAt key version) answer ms u w old e h = let bad : None ≡ Some w = sym old ∙ e in cc
current_read c (Collect key keep) answer ms u w old e h = let bad : None ≡ Some w = sym old ∙ e in cc

-- a version that was collected is asked for by its number, and stands for no latest one
none_collected : (call : Call) (version floor w : ℕ) → target_of call ≡ At version → stands call (Some (Collected floor)) ≡ Some w → ⊥
none_collected (GetAt key version) asked floor w e h = cc
none_collected (Put key bytes) asked floor w e h = cc
none_collected (Delete key) asked floor w e h = cc
none_collected (Get key) asked floor w e h = cc
none_collected (Collect key keep) asked floor w e h = cc

-- a call whose own value is chosen stands above it
placed_above : (c : Config) (t : Trace) (early late : List Transition) (v w u : ℕ) → HasQuorums c → AreTransitions c unused (late ++ early) → ((q : Write) → IsIn q (sent_after unused early) → q.call ≡ t.caller.name → ⊥) → AreCurrentTransitions c unused t.caller.name late early
    → ActionsStand (after_transitions unused (late ++ early)) t.actions → ((x : Name) → IsShownByRows c (seen_after unused (late ++ early)) w x → 1 ≤ w) → IsShownAt c early v → IsPlaced c t.caller t.actions u → u ≡ w → IsPlacedAbove t.caller.call v w
placed_above c t early late v w u q are unsent current stands positive shown placed at =
    let now = trace_shown c (late ++ early) t.actions w t.caller.name stands (subst (λ k. IsShown c t.actions k t.caller.name) at placed.chosen.2) in
    let above = own_above c t.caller.name early late v w q are unsent current (positive t.caller.name now) shown now in
    (omega (arith, above), λ _. above)

answer_above : (c : Config) (past : List Trace) (t : Trace) (early late : List Transition) (v w : ℕ) (answer : Option Answer) → HasQuorums c → IsOwn c t.caller.name t.caller.call t.caller.own → AreTransitions c unused (late ++ early) → ((q : Write) → IsIn q (sent_after unused early) → q.call ≡ t.caller.name → ⊥) → AreCurrentTransitions c unused t.caller.name late early
    → ActionsStand (after_transitions unused (late ++ early)) t.actions → ((e : RowSeen) → IsIn e (heard_of t.actions) → IsIn e (late_rows unused late early)) → ((x : Name) → IsShownByRows c (seen_after unused (late ++ early)) w x → 1 ≤ w)
    → IsShownAt c early v → IsAnswered c past t answer → stands t.caller.call answer ≡ Some w → shows answer ≡ Some w → IsPlacedAbove t.caller.call v w
answer_above c past t early late v w None q value are unsent current kept heard positive shown h latest e = cc
answer_above c past t early late v w (Some (Ok u)) q value are unsent current kept heard positive shown h latest e = placed_above c t early late v w u q are unsent current kept positive shown h.1 (same_version u w e)
answer_above c past t early late v w (Some (Thin u told)) q value are unsent current kept heard positive shown h latest e = placed_above c t early late v w u q are unsent current kept positive shown h.1 (same_version u w e)
answer_above c past t early late v w (Some (Short told)) q value are unsent current kept heard positive shown h latest e = cc
answer_above c past t early late v w (Some (Bytes u y bytes)) q value are unsent current kept heard positive shown h latest e =
    current_above c t early late v w u q value are kept heard shown h.1.2.reads (current_read c t.caller.call (Some (Bytes u y bytes)) t.actions u w refl latest h.1.2.asked) (same_version u w e)
answer_above c past t early late v w (Some (Incomplete u y fates)) q value are unsent current kept heard positive shown h latest e =
    current_above c t early late v w u q value are kept heard shown h.1.2.reads (current_read c t.caller.call (Some (Incomplete u y fates)) t.actions u w refl latest h.1.2.asked) (same_version u w e)
answer_above c past t early late v w (Some (Gone u y)) q value are unsent current kept heard positive shown h latest e =
    current_above c t early late v w u q value are kept heard shown h.1.reads (current_read c t.caller.call (Some (Gone u y)) t.actions u w refl latest h.1.asked) (same_version u w e)
answer_above c past t early late v w (Some Absent) q value are unsent current kept heard positive shown h latest e =
    let at = same_version 0 w e in
    let fresh = current_heard c (after_transitions unused (late ++ early)) t.actions 0 is_blank kept blank_low h.1.blank in
    let low = read_above c early late v 0 q are shown (current_more c (heard_of t.actions) (late_rows unused late early) 0 heard fresh) in
    (omega (arith, low, at), λ k. absurd (no_write c t.caller.name t.caller.call (own_of c t.caller None value h.1.reads) k))
answer_above c past t early late v w (Some (Unborn u)) q value are unsent current kept heard positive shown h latest e = current_above c t early late v w u q value are kept heard shown h.1.reads h.1.current (same_version u w e)
answer_above c past t early late v w (Some (Collected floor)) q value are unsent current kept heard positive shown h latest e = absurd (none_collected t.caller.call h.1.version floor w h.1.asked latest)
answer_above c past t early late v w (Some (NoQuorum phase n)) q value are unsent current kept heard positive shown h latest e = cc
answer_above c past t early late v w (Some (Contended met)) q value are unsent current kept heard positive shown h latest e = cc
answer_above c past t early late v w (Some (Unsure why)) q value are unsent current kept heard positive shown h latest e = cc
answer_above c past t early late v w (Some answer) q value are unsent current kept heard positive shown h latest e = absurd h

-- a call that began after another one had ended stands above it
pub keeps_order : (key : List ℕ) (s : State) (ds : List Transition) (i j : ℕ) (a b : CallRec) → IsRun key s ds → AreCallsListed s → AreCarried s → ArePlaced s → slice_get s.calls i ≡ Some a → slice_get s.calls j ≡ Some b → key_of a.call ≡ key → key_of b.call ≡ key
    → (v w : ℕ) → IsBefore a.end b.begin → shows a.answer ≡ Some v → stands b.call b.answer ≡ Some w → (v ≤ w) × (IsWrite b.call → v < w)
keeps_order key s ds i j a b run listed carries placed ga gb ka kb v w before sa sb =
    let since = run.calls j b gb kb in
    let early = since.early in
    let late = since.late in
    let h = call_trace key s ds j b run listed carries gb kb in
    let t = h.trace in
    let is = h.is in
    let name : t.caller.name ≡ b.name = is.name_is in
    let call : t.caller.call ≡ b.call = is.call_is in
    let told : IsAnswered s.cfg h.past t b.answer = subst (IsAnswered s.cfg h.past t) is.answer is.told.answered in
    let heard : (e : RowSeen) → IsIn e (heard_of t.actions) → IsIn e (late_rows unused late early)
    = heard_in_rows s.cfg key s.net t.caller h.past t.actions (late_rows unused late early) (ap key_of call ∙ kb) is.told.allowed h.carried (λ n k tick r reply at own named e. since.heard n k tick r reply at own (named ∙ name) e) in
    let k = answer_above s.cfg h.past t early late v w b.answer placed.config.quorums is.told.own (subst (λ xs. AreTransitions s.cfg unused xs) since.split run.transitions)
    (λ q found same. since.unsent q found (same ∙ name)) (subst (λ x. AreCurrentTransitions s.cfg unused x late early) (sym name) since.current)
    (subst (λ (xs : List Transition). ActionsStand (after_transitions unused xs) t.actions) since.split h.stands) heard
    (λ x shown. shown_positive key s ds w x listed placed run (subst (λ (xs : List Transition). IsShownByRows s.cfg (seen_after unused xs) w x) (sym since.split) shown))
    (since.ended i v a ga ka before sa) told (subst (λ (q : Call). stands q b.answer ≡ Some w) (sym call) sb) (stands_shows b.call b.answer w sb) in
    (k.0, λ write. k.1 (subst IsWrite (sym call) write))
