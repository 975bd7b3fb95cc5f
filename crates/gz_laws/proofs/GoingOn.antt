-- Each step keeps calls from giving in.
use Rattle.std.proofs.Common.{◌≡◌, ℕ, ◌+◌, ◌⊎◌, inl, inr, List, [], ◌∷◌, ◌++◌, Some, None, Bool, true, false, refl, ap, sym, ◌∙◌, subst}
use Rattle.std.specs.Prelude.{Option, MatchOption, if◌then◌else◌}
use Rattle.gz_core.specs.Calls.{key_of}
use Rattle.gz_core.specs.declared.requests.Out.{Out}
use Rattle.gz_round.specs.declared.hearing.Seen.{Seen}
use Rattle.gz_core.specs.History.{Asked, Action, Sent, Handed, GaveUp, Rested, GaveIn, Trace, asked_of, sent_from, begun, turned}
use Rattle.gz_round.specs.Sending.{AreAllowed}
use Rattle.gz_round.specs.Sites.{SiteNow, site_now, after, after_reply, after_sent, is_to, seen_in, written_by, is_changed}
use Rattle.gz_client.specs.Traces.{AllKeepRules}
use Rattle.gz_ledger.specs.Transitions.{after_transitions}
use Rattle.gz_world.specs.declared.events.Effect.{Effect}
use Rattle.gz_world.specs.declared.events.Event.{Event}
use Rattle.gz_world.specs.declared.events.Event.TheVariants as events
use Rattle.gz_world.specs.Reached.{IsReached, opened, stepped, AllTell}
use Rattle.gz_world.specs.Refusals.{refusal_of}
use Rattle.gz_world.specs.States.{RequestAt, State, next_of}
use Rattle.gz_world.specs.Steps.{TurnBy, TakesTurn, HasEffect, Does, Skips, hears}
use Rattle.gz_laws.specs.Begun.{sends_of, IsBegunIn}
use Rattle.gz_laws.specs.Carried.{ActionsCarried, TracesCarried}
use Rattle.gz_laws.specs.Each.{EachTrace}
use Rattle.gz_laws.specs.Going.{NeverGaveIn, WasLeft, IsGoingOn}
use Rattle.gz_laws.specs.Heard.{unused, SentStep}
use Rattle.gz_laws.specs.Listed.{AreCallsListed}
use Rattle.gz_laws.proofs.Carrying.{carried}
use Rattle.gz_laws.proofs.GivingIn.{IsKnownCall, never}
use Rattle.gz_laws.proofs.HeardOrder.{HeardInOrder, IsInOrder, in_order}
use Rattle.gz_laws.proofs.Keeping.{keeps_newest}
use Rattle.gz_laws.proofs.Listing.{listed, traces_here}
use Rattle.gz_laws.proofs.Placing.{placed}
use Rattle.gz_laws.proofs.Running.{runs, step_tell}
use Rattle.gz_laws.proofs.Traces.{each_on, each_moved}

-- the newest call of a session is known, up to its giving in
known_call : (s : State) (session : ℕ) (t : Trace) (past : List Trace) (ms : List Action) → IsReached s → AllTell s → s.traces session ≡ t ∷ past → t.actions ≡ GaveIn ∷ ms → IsKnownCall s t.caller past ms
known_call s session t past ms reached tells is gave =
    let key = key_of t.caller.call in
    let k = runs key s reached tells in
    let st = after_transitions unused k.0 in
    let l = listed s reached in
    let told : AllKeepRules s.cfg session (t ∷ past) = subst (AllKeepRules s.cfg session) is (l.told session) in
    let mine : TracesCarried s.cfg.n s.net (t ∷ past) = subst (TracesCarried s.cfg.n s.net) is (carried s reached session) in
    let order : EachTrace (IsInOrder s.net) (t ∷ past) = subst (EachTrace (IsInOrder s.net)) is (in_order s reached tells session) in
    let begun : EachTrace (IsBegunIn key k.0) (t ∷ past) = subst (EachTrace (IsBegunIn key k.0)) is (k.1.begun session) in
    let keeps = keeps_newest s.cfg key s.net s.traces st session t past l.told k.1.requests k.1.sent is refl mine.0 in
    record {
      transitions = k.0;
      run = k.1;
      quorums = (placed s reached).config.quorums;
      allowed = (subst (AreAllowed s.cfg t.caller past) gave told.0.allowed).1;
      carried = (subst (ActionsCarried s.cfg.n s.net t.caller.name) gave mine.0).1;
      order = subst HeardInOrder gave order.0.heard;
      begun = begun.0 refl ∙ ap sends_of gave;
      mine = λ q i own. elim (subst (λ ks. SentStep ks q.act) gave (keeps.own q i own)) [ inl bad ↦ absurd bad | inr h ↦ h ];
    }

never_newest : (s : State) (session : ℕ) (t : Trace) (past : List Trace) (ms : List Action) → IsReached s → AllTell s → s.traces session ≡ t ∷ past → t.actions ≡ GaveIn ∷ ms → ⊥
never_newest s session t past ms reached tells is gave =
    let told : AllKeepRules s.cfg session (t ∷ past) = subst (AllKeepRules s.cfg session) is ((listed s reached).told session) in
    never s t.caller past ms (known_call s session t past ms reached tells is gave) (subst (AreAllowed s.cfg t.caller past) gave told.0.allowed).0

abbrev IsKeptOn : Trace → Type 0
IsKeptOn t = NeverGaveIn t.actions

sent_never : (first : ℕ) (outs : List Out) (ms : List Action) → NeverGaveIn ms → NeverGaveIn (sent_from first outs ms)
sent_never first [] ms h = h
sent_never first (o ∷ os) ms h = sent_never (first + 1) os (Sent (asked_of first o) ∷ ms) h

-- the newest calls of a state give in for nothing
abbrev NoneNow : State → Type 0
NoneNow s = (session : ℕ) (t : Trace) (past : List Trace) (ms : List Action) → s.traces session ≡ t ∷ past → t.actions ≡ GaveIn ∷ ms → ⊥

never_same : (old new : State) → ((n : ℕ) → new.traces n ≡ old.traces n) → ((n : ℕ) → EachTrace IsKeptOn (old.traces n)) → (n : ℕ) → EachTrace IsKeptOn (new.traces n)
never_same old new traces h n = subst (EachTrace IsKeptOn) (sym (traces n)) (h n)

turn_never : (old new : State) (n : ℕ) (r marked : RequestAt) (action : Asked → Action) (by : TurnBy) (effect : Effect) → TakesTurn old n r action by marked effect new → ((ms : List Action) → NeverGaveIn ms → NeverGaveIn (action by.asked ∷ ms)) → NoneNow new → AreCallsListed old
    → ((m : ℕ) → EachTrace IsKeptOn (old.traces m)) → (m : ℕ) → EachTrace IsKeptOn (new.traces m)
turn_never old new n r marked action by effect t keeps none l h =
    let session = r.name.session in
    let after = turned (next_of old) by.turn (action by.asked) by.closing by.trace in
    let ms = sent_from (next_of old) by.turn.send (action by.asked ∷ by.trace.actions) in
    let before : EachTrace IsKeptOn (by.trace ∷ by.earlier) = subst (EachTrace IsKeptOn) t.traces (h session) in
    let now : NeverGaveIn ms = sent_never (next_of old) by.turn.send (action by.asked ∷ by.trace.actions) (keeps by.trace.actions before.0) in
    let here : NeverGaveIn (by.closing ++ ms) = elim t.closing [
      | inl k ↦ elim k [
        | inl e ↦ subst (λ ks. NeverGaveIn (ks ++ ms)) (sym e) now
        | inr e ↦ absurd (none session after by.earlier ms (traces_here old new session (after ∷ by.earlier) t.moves) (ap (λ ks. ks ++ ms) e))
      ]
      | inr e ↦ subst (λ ks. NeverGaveIn (ks ++ ms)) (sym e) now
    ] in
    each_moved IsKeptOn IsKeptOn old new session after by.earlier t.moves l.told (λ u apart k. k) here before.1 h

does_never : (old new : State) (event : Event) (effect : Effect) → Does old event effect new → NoneNow new → AreCallsListed old → ((m : ℕ) → EachTrace IsKeptOn (old.traces m)) → (m : ℕ) → EachTrace IsKeptOn (new.traces m)
does_never old new events.OpenSession effect d none l h = never_same old new d.traces h
does_never old new (events.Begin session call) effect d none l h =
    let t = begun session call d.0 (next_of old) d.1.0 (old.traces session) in
    each_moved IsKeptOn IsKeptOn old new session t (old.traces session) d.1.1.moves l.told (λ u apart k. k) (sent_never (next_of old) d.1.0.send [] tt) (h session) h
does_never old new (events.Deliver n) effect d none l h = never_same old new d.1.1.sessions.traces h
does_never old new (events.Reply n which) effect d none l h = turn_never old new n d.0 _ (hears old.cfg.n d.1.0.1) d.1.1.0 effect d.1.1.1.1 (λ ms k. k) none l h
does_never old new (events.GiveUp n) effect d none l h = turn_never old new n d.0 _ (λ a. GaveUp a) d.1.0 effect d.1.1 (λ ms k. k) none l h
does_never old new (events.Crash session) effect d none l h = never_same old new d.traces h

acts_never : (old new : State) (event : Event) (effect : Effect) → HasEffect old event effect new → NoneNow new → AreCallsListed old → ((m : ℕ) → EachTrace IsKeptOn (old.traces m)) → (m : ℕ) → EachTrace IsKeptOn (new.traces m)
acts_never old new event effect acts none l h =
    elim (refusal_of old event) as (λ o. MatchOption o (Does old event effect new) (λ why. Skips old event why effect new) → (m : ℕ) → EachTrace IsKeptOn (new.traces m)) [
      | None ↦ λ d. does_never old new event effect d none l h
      | Some why ↦ λ k. never_same old new k.same.sessions.traces h
    ] acts

never_gave_in : (s : State) → IsReached s → AllTell s → (session : ℕ) → EachTrace IsKeptOn (s.traces session)
never_gave_in _ (opened s o) tells = λ n. subst (EachTrace IsKeptOn) (sym (o.traces n)) tt
never_gave_in _ (stepped old new event h step) tells =
    let mid = step.1.0 in
    let records = step.1.1.1.1 in
    let now : NoneNow mid = λ session t past ms is gave. never_newest new session t past ms (stepped old new event h step) tells (records.sessions.traces session ∙ is) gave in
    never_same mid new records.sessions.traces (acts_never old mid event step.0 step.1.1.1.0 now (listed old h) (never_gave_in old h (step_tell old new event step tells)))

-- a site is out exactly where a request to it was given up, or answered by no row though it wasn't overtaken
reply_out : (o : Option Seen) (changed : Bool) (now : SiteNow) → (after_reply o changed now).out ≡ true → ((o ≡ None) × (changed ≡ false)) ⊎ (now.out ≡ true)
reply_out (Some x) changed now h = inr h
reply_out None true now h = inr h
reply_out None false now h = inl (refl, refl)

stays_out : (o : Option Seen) (changed : Bool) (now : SiteNow) → now.out ≡ true → (after_reply o changed now).out ≡ true
stays_out (Some x) changed now h = h
stays_out None true now h = h
stays_out None false now h = refl

reply_leaves : (o : Option Seen) (changed : Bool) (now : SiteNow) → o ≡ None → changed ≡ false → (after_reply o changed now).out ≡ true
reply_leaves o changed now e f = ap (λ k. (after_reply k changed now).out) e ∙ ap (λ k. (after_reply None k now).out) f

if_out : {R : Type 0} (b : Bool) (x y : SiteNow) → (if b then x else y).out ≡ true → (b ≡ true → x.out ≡ true → R) → (y.out ≡ true → R) → R
if_out true x y h f g = f refl h
if_out false x y h f g = g h

keep_out : (b : Bool) (x y : SiteNow) → (y.out ≡ true → x.out ≡ true) → y.out ≡ true → (if b then x else y).out ≡ true
keep_out true x y f h = f h
keep_out false x y f h = h

sent_keeps : (a : Asked) (now : SiteNow) → (after_sent a now).out ≡ now.out
sent_keeps a now = elim a.awaited as (λ w. (if w then (let k : SiteNow = record { row = now.row; changed = now.changed; out = now.out; awaits = Some a; unanswered = true } in k) else now).out ≡ now.out) [ true ↦ refl | false ↦ refl ]

left_of : (ms : List Action) (s : ℕ) → NeverGaveIn ms → (site_now ms s).out ≡ true → WasLeft s ms
left_of [] s kept h = cc
left_of (Sent a ∷ ms) s kept h = inr (left_of ms s kept (if_out (is_to a s) (after_sent a (site_now ms s)) (site_now ms s) h (λ _ k. sym (sent_keeps a (site_now ms s)) ∙ k) (λ k. k)))
left_of (Handed a reply ∷ ms) s kept h =
    let now = site_now ms s in
    let o = seen_in (written_by a.op) reply in
    if_out (is_to a s) (after_reply o (is_changed reply) now) now h
    (λ to k. elim (reply_out o (is_changed reply) now k) [ inl e ↦ inl (to, e) | inr e ↦ inr (left_of ms s kept e) ]) (λ k. inr (left_of ms s kept k))
left_of (GaveUp a ∷ ms) s kept h = if_out (is_to a s) (after (GaveUp a) (site_now ms s)) (site_now ms s) h (λ to k. inl to) (λ k. inr (left_of ms s kept k))
left_of (Rested ∷ ms) s kept h = inr (left_of ms s kept h)
left_of (GaveIn ∷ ms) s kept h = absurd kept

out_of : (ms : List Action) (s : ℕ) → NeverGaveIn ms → WasLeft s ms → (site_now ms s).out ≡ true
out_of [] s kept h = absurd h
out_of (Sent a ∷ ms) s kept (inl h) = absurd h
out_of (Sent a ∷ ms) s kept (inr h) = keep_out (is_to a s) (after_sent a (site_now ms s)) (site_now ms s) (λ k. sent_keeps a (site_now ms s) ∙ k) (out_of ms s kept h)
out_of (Handed a reply ∷ ms) s kept (inl h) =
    let now = site_now ms s in
    let next = after_reply (seen_in (written_by a.op) reply) (is_changed reply) now in
    ap (λ t. (if t then next else now).out) h.0 ∙ reply_leaves (seen_in (written_by a.op) reply) (is_changed reply) now h.1.0 h.1.1
out_of (Handed a reply ∷ ms) s kept (inr h) =
    keep_out (is_to a s) (after_reply (seen_in (written_by a.op) reply) (is_changed reply) (site_now ms s)) (site_now ms s) (stays_out (seen_in (written_by a.op) reply) (is_changed reply) (site_now ms s)) (out_of ms s kept h)
out_of (GaveUp a ∷ ms) s kept (inl h) = let now = site_now ms s in ap (λ t. (if t then after (GaveUp a) now else now).out) h
out_of (GaveUp a ∷ ms) s kept (inr h) = keep_out (is_to a s) (after (GaveUp a) (site_now ms s)) (site_now ms s) (λ k. refl) (out_of ms s kept h)
out_of (Rested ∷ ms) s kept (inl h) = absurd h
out_of (Rested ∷ ms) s kept (inr h) = out_of ms s kept h
out_of (GaveIn ∷ ms) s kept h = absurd kept

-- in every world that is reached, where its sites tell what they hold
pub going_on : (s : State) → IsReached s → AllTell s → (session : ℕ) → EachTrace IsGoingOn (s.traces session)
going_on s reached tells session = each_on IsKeptOn IsGoingOn (s.traces session) (λ t h. record { never = h; out = λ i. (left_of t.actions i h, out_of t.actions i h) }) (never_gave_in s reached tells session)
