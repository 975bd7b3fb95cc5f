-- A world has no more calls and sessions than events, and no call was told of more replies and give-ups.
use Rattle.std.proofs.Common.{◌≡◌, ℕ, ◌+◌, ◌≤◌, inl, inr, List, [], ◌∷◌, ◌++◌, Bool, Some, None, true, false, length, refl, ap, sym, ◌∙◌, subst, arith, length-append, length-set}
use Rattle.std.proofs.lemmas.Bool.{cases_eq, cases_Bool, and_parts, leb-true}
use Rattle.std.specs.Prelude.{Option, MatchOption, not, nat_le, if◌then◌else◌}
use Rattle.gz_config.specs.declared.Config.{Config}
use Rattle.gz_core.specs.declared.calls.Call.{Call}
use Rattle.gz_core.specs.declared.requests.Out.{Out}
use Rattle.gz_core.specs.History.{Asked, Action, Sent, Handed, GaveUp, Rested, GaveIn, Trace, begun, turned, asked_of, sent_from}
use Rattle.gz_client.specs.Traces.{IsClosed}
use Rattle.gz_world.specs.Reached.{IsOpening, IsReached, opened, stepped}
use Rattle.gz_world.specs.Refusals.{refusal_of, is_open, or_next_skip}
use Rattle.gz_world.specs.States.{State, next_of, with_handed, with_given_up, tick_of}
use Rattle.gz_world.specs.Steps.{SessionMoves, TurnBy, TakesTurn, HasEffect, Does, Skips, answered, hears}
use Rattle.gz_world.specs.States.{RequestAt}
use Rattle.gz_world.specs.declared.events.Effect.{Effect}
use Rattle.gz_world.specs.declared.events.Entry.{Entry}
use Rattle.gz_world.specs.declared.events.Event.{Event}
use Rattle.gz_world.specs.declared.events.Event.TheVariants as events
use Rattle.gz_world.specs.declared.events.Skip.{Skip}
use Rattle.gz_world.specs.declared.events.Skip.TheVariants as skips
use Rattle.gz_history.specs.declared.record.CallRec.{CallRec}
use Rattle.gz_laws.specs.Each.{EachTrace}
use Rattle.gz_laws.specs.Listed.{IsAmong, AreCallsListed}
use Rattle.gz_laws.proofs.Closing.{closing_keeps}
use Rattle.gz_laws.proofs.Listing.{listed, traces_here, traces_there}
use Rattle.gz_laws.proofs.Placing.{acts_journal}
use Rattle.gz_laws.proofs.Traces.{each_on, each_moved}

-- how many replies and give-ups a call was told of
abbrev pub noted : List Action → ℕ
noted [] = 0
noted (Sent a ∷ ms) = noted ms
noted (Handed a reply ∷ ms) = noted ms + 1
noted (GaveUp a ∷ ms) = noted ms + 1
noted (Rested ∷ ms) = noted ms
noted (GaveIn ∷ ms) = noted ms

abbrev pub NotesFew : ℕ → Trace → Type 0
NotesFew ticks t = noted t.actions ≤ ticks

-- a session that began a call is open
abbrev pub IsOpened : ℕ → ℕ → List Trace → Type 0
IsOpened sessions session [] = Unit {0}
IsOpened sessions session (t ∷ ts) = (1 ≤ session) × (session ≤ sessions)

pub record AreFew (ticks : ℕ) (s : State) : Type 0 where
  pub calls : length s.calls ≤ ticks
  pub sessions : s.sessions ≤ ticks
  pub traces : (session : ℕ) → length (s.traces session) ≤ ticks
  pub notes : (session : ℕ) → EachTrace (NotesFew ticks) (s.traces session)
  pub are_open : (session : ℕ) → IsOpened s.sessions session (s.traces session)

noted_sent : (first : ℕ) (outs : List Out) (ms : List Action) → noted (sent_from first outs ms) ≡ noted ms
noted_sent first [] ms = refl
noted_sent first (o ∷ os) ms = noted_sent (first + 1) os (Sent (asked_of first o) ∷ ms)

noted_closing : (closing ms : List Action) → IsClosed closing → noted (closing ++ ms) ≡ noted ms
noted_closing closing ms closed = closing_keeps (λ ks. noted ks ≡ noted ms) closing ms closed refl refl refl

more_notes : (ticks : ℕ) (ts : List Trace) → EachTrace (NotesFew ticks) ts → EachTrace (NotesFew (ticks + 1)) ts
more_notes ticks ts h = each_on (NotesFew ticks) (NotesFew (ticks + 1)) ts (λ t low. omega (arith, low)) h

more_opened : (sessions more session : ℕ) (ts : List Trace) → sessions ≤ more → IsOpened sessions session ts → IsOpened more session ts
more_opened sessions more session [] le h = tt
more_opened sessions more session (t ∷ ts) le h = let low = h.1 in (h.0, omega (arith, low, le))

-- an event after which the traces are the same
few_same : (ticks : ℕ) (old new : State) → length new.calls ≤ ticks + 1 → new.sessions ≤ ticks + 1 → old.sessions ≤ new.sessions → ((n : ℕ) → new.traces n ≡ old.traces n) → AreFew ticks old → AreFew (ticks + 1) new
few_same ticks old new calls sessions more traces h = record {
  calls = calls;
  sessions = sessions;
  traces = λ n. (let low = h.traces n in let e : length (new.traces n) ≡ length (old.traces n) = ap length (traces n) in omega (arith, low, e));
  notes = λ n. subst (EachTrace (NotesFew (ticks + 1))) (sym (traces n)) (more_notes ticks (old.traces n) (h.notes n));
  are_open = λ n. subst (IsOpened new.sessions n) (sym (traces n)) (more_opened old.sessions new.sessions n (old.traces n) more (h.are_open n));
}

-- an event that changes the newest trace of a session
few_moved : (ticks : ℕ) (old new : State) (session : ℕ) (t : Trace) (ts : List Trace) → SessionMoves old session (t ∷ ts) new → AreCallsListed old → length new.calls ≤ ticks + 1 → length (t ∷ ts) ≤ ticks + 1 → noted t.actions ≤ ticks + 1
    → (1 ≤ session) × (session ≤ old.sessions) → EachTrace (NotesFew ticks) ts → AreFew ticks old → AreFew (ticks + 1) new
few_moved ticks old new session t ts moves l calls len low here past h = record {
  calls = calls;
  sessions = (let a = h.sessions in let e = moves.sessions in omega (arith, a, e));
  traces = λ n. elim (cases_eq n session) [
    | inl e ↦ (let k : length (new.traces n) ≡ length (t ∷ ts) = ap length (ap new.traces e ∙ traces_here old new session (t ∷ ts) moves) in omega (arith, k, len))
    | inr ne ↦ (let k : length (new.traces n) ≡ length (old.traces n) = ap length (traces_there old new session n (t ∷ ts) moves ne) in let a = h.traces n in omega (arith, k, a))
  ];
  notes = each_moved (NotesFew ticks) (NotesFew (ticks + 1)) old new session t ts moves l.told (λ u apart low. omega (arith, low)) low past h.notes;
  are_open = λ n. elim (cases_eq n session) [
    | inl e ↦ subst (IsOpened new.sessions n) (sym (ap new.traces e ∙ traces_here old new session (t ∷ ts) moves)) (subst (λ k. (1 ≤ k) × (k ≤ new.sessions)) (sym e) (subst (λ k. (1 ≤ session) × (session ≤ k)) (sym moves.sessions) here))
    | inr ne ↦ subst (IsOpened new.sessions n) (sym (traces_there old new session n (t ∷ ts) moves ne)) (subst (λ k. IsOpened k n (old.traces n)) (sym moves.sessions) (h.are_open n))
  ];
}

not_closed : (b : Bool) (x y : Option Skip) → b ≡ false → or_next_skip (if not b then Some skips.NoSession else x) y ≡ None → ⊥
not_closed true x y e h = cc
not_closed false x y e h = cc

begins_open : (s : State) (session : ℕ) (call : Call) → refusal_of s (events.Begin session call) ≡ None → (1 ≤ session) × (session ≤ s.sessions)
begins_open s session call h = elim (cases_Bool (is_open s.sessions session)) [
  | inl e ↦ (let p = and_parts (nat_le 1 session) (nat_le session s.sessions) e in (leb-true 1 session p.0, leb-true session s.sessions p.1))
  | inr e ↦ absurd (not_closed (is_open s.sessions session) _ _ e h)
]

turn_few : (ticks : ℕ) (old new : State) (n : ℕ) (r marked : RequestAt) (action : Asked → Action) (by : TurnBy) (effect : Effect) → TakesTurn old n r action by marked effect new → ((a : Asked) (ms : List Action) → noted (action a ∷ ms) ≡ noted ms + 1) → AreCallsListed old → AreFew ticks old → AreFew (ticks + 1) new
turn_few ticks old new n r marked action by effect t counts l h =
    let session = r.name.session in
    let first = next_of old in
    let ms = action by.asked ∷ by.trace.actions in
    let after = turned first by.turn (action by.asked) by.closing by.trace in
    let before : EachTrace (NotesFew ticks) (by.trace ∷ by.earlier) = subst (EachTrace (NotesFew ticks)) t.traces (h.notes session) in
    let low = before.0 in
    let len : length (old.traces session) ≡ length (by.trace ∷ by.earlier) = ap length t.traces in
    let most = h.traces session in
    let same : length new.calls ≡ length old.calls = ap length t.calls.1.1.1.1 ∙ length-set old.calls t.calls.0 (answered (tick_of old) by.turn.answer t.calls.1.0) in
    let few = h.calls in
    let all : noted after.actions ≡ noted by.trace.actions + 1 = noted_closing by.closing (sent_from first by.turn.send ms) t.closing ∙ noted_sent first by.turn.send ms ∙ counts by.asked by.trace.actions in
    few_moved ticks old new session after by.earlier t.moves l (omega (arith, same, few)) (omega (arith, len, most)) (omega (arith, all, low)) (subst (IsOpened old.sessions session) t.traces (h.are_open session)) before.1 h

begin_few : (ticks : ℕ) (old new : State) (session : ℕ) (call : Call) (effect : Effect) → refusal_of old (events.Begin session call) ≡ None → Does old (events.Begin session call) effect new → AreCallsListed old → AreFew ticks old → AreFew (ticks + 1) new
begin_few ticks old new session call effect is d l h =
    let b = d.1.1 in
    let turn = d.1.0 in
    let past = old.traces session in
    let t = begun session call d.0 (next_of old) turn past in
    let most = h.traces session in
    let few = h.calls in
    let same : length new.calls ≡ length old.calls + 1 = ap length b.calls ∙ length-append old.calls (_ ∷ []) in
    let none : noted t.actions ≡ 0 = noted_sent (next_of old) turn.send [] in
    few_moved ticks old new session t past b.moves l (omega (arith, same, few)) (omega (arith, most)) (omega (arith, none)) (begins_open old session call is) (h.notes session) h

does_few : (ticks : ℕ) (old new : State) (event : Event) (effect : Effect) → refusal_of old event ≡ None → Does old event effect new → AreCallsListed old → AreFew ticks old → AreFew (ticks + 1) new
does_few ticks old new events.OpenSession effect is d l h =
    let few = h.calls in let top = h.sessions in let e : length new.calls ≡ length old.calls = ap length d.calls in let more = d.sessions in
    few_same ticks old new (omega (arith, few, e)) (omega (arith, top, more)) (omega (arith, more)) d.traces h
does_few ticks old new (events.Begin session call) effect is d l h = begin_few ticks old new session call effect is d l h
does_few ticks old new (events.Deliver n) effect is d l h =
    let k = d.1.1.sessions in
    let few = h.calls in let top = h.sessions in let e : length new.calls ≡ length old.calls = ap length k.calls in let same = k.sessions in
    few_same ticks old new (omega (arith, few, e)) (omega (arith, top, same)) (omega (arith, same)) k.traces h
does_few ticks old new (events.Reply n which) effect is d l h = turn_few ticks old new n d.0 (with_handed (tick_of old) which d.0) (hears old.cfg.n d.1.0.1) d.1.1.0 effect d.1.1.1.1 (λ a ms. refl) l h
does_few ticks old new (events.GiveUp n) effect is d l h = turn_few ticks old new n d.0 (with_given_up (tick_of old) d.0) (λ a. GaveUp a) d.1.0 effect d.1.1 (λ a ms. refl) l h
does_few ticks old new (events.Crash session) effect is d l h =
    let few = h.calls in let top = h.sessions in let e : length new.calls ≡ length old.calls = ap length d.calls in let same = d.sessions in
    few_same ticks old new (omega (arith, few, e)) (omega (arith, top, same)) (omega (arith, same)) d.traces h

skips_few : (ticks : ℕ) (old new : State) (event : Event) (why : Skip) (effect : Effect) → Skips old event why effect new → AreFew ticks old → AreFew (ticks + 1) new
skips_few ticks old new event why effect k h =
    let s = k.same.sessions in
    let few = h.calls in let top = h.sessions in let e : length new.calls ≡ length old.calls = ap length s.calls in let same = s.sessions in
    few_same ticks old new (omega (arith, few, e)) (omega (arith, top, same)) (omega (arith, same)) s.traces h

acts_few : (ticks : ℕ) (old new : State) (event : Event) (effect : Effect) → HasEffect old event effect new → AreCallsListed old → AreFew ticks old → AreFew (ticks + 1) new
acts_few ticks old new event effect acts l h =
    elim (refusal_of old event) as (λ o. refusal_of old event ≡ o → MatchOption o (Does old event effect new) (λ why. Skips old event why effect new) → AreFew (ticks + 1) new) [
      | None ↦ λ is d. does_few ticks old new event effect is d l h
      | Some why ↦ λ is k. skips_few ticks old new event why effect k h
    ] refl acts

few_recorded : (ticks : ℕ) (mid new : State) → new.sessions ≡ mid.sessions → ((n : ℕ) → new.traces n ≡ mid.traces n) → new.calls ≡ mid.calls → AreFew ticks mid → AreFew ticks new
few_recorded ticks mid new sessions traces calls h = record {
  calls = subst (λ (cs : List CallRec). length cs ≤ ticks) (sym calls) h.calls;
  sessions = subst (λ k. k ≤ ticks) (sym sessions) h.sessions;
  traces = λ n. subst (λ (ts : List Trace). length ts ≤ ticks) (sym (traces n)) (h.traces n);
  notes = λ n. subst (EachTrace (NotesFew ticks)) (sym (traces n)) (h.notes n);
  are_open = λ n. subst (λ k. IsOpened k n (new.traces n)) (sym sessions) (subst (IsOpened mid.sessions n) (sym (traces n)) (h.are_open n));
}

nothing_few : (s : State) → IsOpening s → AreFew (length s.journal) s
nothing_few s o = record {
  calls = (let e : length s.calls ≡ 0 = ap length o.calls in omega (arith, e));
  sessions = (let e = o.sessions in omega (arith, e));
  traces = λ n. (let e : length (s.traces n) ≡ 0 = ap length (o.traces n) in omega (arith, e));
  notes = λ n. subst (EachTrace (NotesFew (length s.journal))) (sym (o.traces n)) tt;
  are_open = λ n. subst (IsOpened s.sessions n) (sym (o.traces n)) tt;
}

-- a call is of a session that is open
pub names_open : (cfg : Config) (sessions session : ℕ) (c : CallRec) (ts : List Trace) → IsAmong cfg c ts → IsOpened sessions session ts → (1 ≤ session) × (session ≤ sessions)
names_open cfg sessions session c [] h there = absurd h
names_open cfg sessions session c (t ∷ ts) h there = there

-- in every world that is reached
pub are_few : (s : State) → IsReached s → AreFew (length s.journal) s
are_few _ (opened s o) = nothing_few s o
are_few _ (stepped old new event h step) =
    let mid = step.1.0 in
    let entry = step.1.1.0 in
    let acts = step.1.1.1.0 in
    let records = step.1.1.1.1 in
    let len : length new.journal ≡ length old.journal + 1 = ap length records.journal ∙ length-append mid.journal (entry ∷ []) ∙ ap (λ (js : List Entry). length js + 1) (acts_journal old mid event step.0 acts) in
    subst (λ k. AreFew k new) (sym len) (few_recorded (length old.journal + 1) mid new records.sessions.sessions records.sessions.traces records.sessions.calls (acts_few (length old.journal) old mid event step.0 acts (listed old h) (are_few old h)))
