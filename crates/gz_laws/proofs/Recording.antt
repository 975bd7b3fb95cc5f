-- Each step keeps a call in the history for each trace.
use Rattle.std.proofs.Common.{◌≡◌, ℕ, ◌+◌, inl, inr, List, [], ◌∷◌, ◌++◌, Some, None, length, refl, ap, sym, ◌∙◌, subst}
use Rattle.std.proofs.lemmas.Bool.{cases_eq}
use Rattle.std.specs.Prelude.{Option, MatchOption, slice_get}
use Rattle.gz_core.specs.Names.{Name}
use Rattle.gz_core.specs.declared.calls.Answer.{Answer}
use Rattle.gz_core.specs.declared.calls.Call.{Call}
use Rattle.gz_core.specs.declared.requests.Turn.{Turn}
use Rattle.gz_core.specs.History.{Asked, Action, GaveUp, Trace, begun, turned}
use Rattle.gz_core.specs.declared.values.Value.{Value}
use Rattle.gz_history.specs.declared.record.CallRec.{CallRec}
use Rattle.gz_world.specs.declared.events.Effect.{Effect}
use Rattle.gz_world.specs.declared.events.Event.{Event}
use Rattle.gz_world.specs.declared.events.Event.TheVariants as events
use Rattle.gz_laws.specs.Recorded.{IsNamedIn, TracesRecorded, AreRecorded}
use Rattle.gz_world.specs.Reached.{IsReached, opened, stepped}
use Rattle.gz_world.specs.Refusals.{refusal_of}
use Rattle.gz_world.specs.States.{RequestAt, State, tick_of, next_of, end_at}
use Rattle.gz_world.specs.Steps.{SessionMoves, BeginsBy, TurnBy, TakesTurn, CallEnds, answered, HasEffect, Does, Skips, WorldStep, hears}
use Rattle.gz_laws.proofs.Listing.{traces_here, traces_there, answered_name}
use Rattle.gz_world.proofs.Places.{get_append, get_last, get_set_same, get_set_other}

-- no call lost its name
AreNamed : List CallRec → List CallRec → Type 0
AreNamed old new = (name : Name) → IsNamedIn old name → IsNamedIn new name

named_same : (old new : List CallRec) → new ≡ old → AreNamed old new
unfolding AreNamed
named_same old new e = λ name h. subst (λ xs. IsNamedIn xs name) (sym e) h

named_append : (old more : List CallRec) → AreNamed old (old ++ more)
unfolding AreNamed
named_append old more = λ name h. (h.0, h.1, get_append old more h.0 h.1 h.2, h.3)

named_ends : (old new : List CallRec) (name : Name) (tick : ℕ) (o : Option Answer) → CallEnds old name tick o new → AreNamed old new
unfolding AreNamed
named_ends old new name tick o ends = λ x h.
    let ended = answered tick o ends.1.0 in
    subst (λ xs. IsNamedIn xs x) (sym ends.1.1.1.1) (elim (cases_eq h.0 ends.0) [
      | inl e ↦ (let both : Some ends.1.0 ≡ Some h.1 = sym ends.1.1.0 ∙ sym (ap (slice_get old) e) ∙ h.2 in
          let same : ends.1.0 ≡ h.1 = cc in
          (ends.0, ended, get_set_same old ends.0 ends.1.0 ended ends.1.1.0, answered_name tick o ends.1.0 ∙ ap (λ (c : CallRec). c.name) same ∙ h.3))
      | inr ne ↦ (h.0, h.1, get_set_other old ends.0 h.0 ended ne ∙ h.2, h.3)
    ])

traces_recorded : (old new : List CallRec) (ts : List Trace) → AreNamed old new → TracesRecorded old ts → TracesRecorded new ts
unfolding AreNamed
traces_recorded old new [] f h = tt
traces_recorded old new (t ∷ ts) f h = (f t.caller.name h.0, traces_recorded old new ts f h.1)

recorded_same : (old new : State) → ((n : ℕ) → new.traces n ≡ old.traces n) → new.calls ≡ old.calls → AreRecorded old → AreRecorded new
recorded_same old new traces calls h = λ n. subst (TracesRecorded new.calls) (sym (traces n)) (subst (λ xs. TracesRecorded xs (old.traces n)) (sym calls) (h n))

moved_recorded : (old new : State) (session : ℕ) (ts : List Trace) → SessionMoves old session ts new → AreNamed old.calls new.calls → TracesRecorded new.calls ts → AreRecorded old → AreRecorded new
moved_recorded old new session ts moves f here h = λ n. elim (cases_eq n session) [
  | inl e ↦ subst (TracesRecorded new.calls) (sym (ap new.traces e ∙ traces_here old new session ts moves)) here
  | inr ne ↦ subst (TracesRecorded new.calls) (sym (traces_there old new session n ts moves ne)) (traces_recorded old.calls new.calls (old.traces n) f (h n))
]

named_then : (xs ys zs : List CallRec) → AreNamed xs ys → AreNamed ys zs → AreNamed xs zs
unfolding AreNamed
named_then xs ys zs f g = λ name k. g name (f name k)

begin_recorded : (old new : State) (session : ℕ) (call : Call) (own : Option Value) (turn : Turn) (effect : Effect) → BeginsBy old session call own turn effect new → AreRecorded old → AreRecorded new
begin_recorded old new session call own turn effect b h =
    let past = old.traces session in
    let fresh : CallRec = record { name = record { session = session; seq = length past + 1 }; call = call; begin = tick_of old; end = end_at (tick_of old) turn.answer; answer = turn.answer } in
    let f : AreNamed old.calls new.calls = named_then old.calls (old.calls ++ fresh ∷ []) new.calls (named_append old.calls (fresh ∷ [])) (named_same (old.calls ++ fresh ∷ []) new.calls b.calls) in
    moved_recorded old new session (begun session call own (next_of old) turn past ∷ past) b.moves f
    ((length old.calls, fresh, ap (λ xs. slice_get xs (length old.calls)) b.calls ∙ get_last old.calls fresh, refl), traces_recorded old.calls new.calls past f (h session)) h

turn_recorded : (old new : State) (n : ℕ) (r marked : RequestAt) (action : Asked → Action) (by : TurnBy) (effect : Effect) → TakesTurn old n r action by marked effect new → AreRecorded old → AreRecorded new
turn_recorded old new n r marked action by effect t h =
    let session = r.name.session in
    let before : TracesRecorded old.calls (by.trace ∷ by.earlier) = subst (TracesRecorded old.calls) t.traces (h session) in
    let f = named_ends old.calls new.calls by.trace.caller.name (tick_of old) by.turn.answer t.calls in
    moved_recorded old new session (turned (next_of old) by.turn (action by.asked) by.closing by.trace ∷ by.earlier) t.moves f (traces_recorded old.calls new.calls (by.trace ∷ by.earlier) f before) h

does_recorded : (old new : State) (event : Event) (effect : Effect) → Does old event effect new → AreRecorded old → AreRecorded new
does_recorded old new events.OpenSession effect d h = recorded_same old new d.traces d.calls h
does_recorded old new (events.Begin session call) effect d h = begin_recorded old new session call d.0 d.1.0 effect d.1.1 h
does_recorded old new (events.Deliver n) effect d h = recorded_same old new d.1.1.sessions.traces d.1.1.sessions.calls h
does_recorded old new (events.Reply n which) effect d h = turn_recorded old new n d.0 _ (hears old.cfg.n d.1.0.1) d.1.1.0 effect d.1.1.1.1 h
does_recorded old new (events.GiveUp n) effect d h = turn_recorded old new n d.0 _ (λ a. GaveUp a) d.1.0 effect d.1.1 h
does_recorded old new (events.Crash session) effect d h = recorded_same old new d.traces d.calls h

acts_recorded : (old new : State) (event : Event) (effect : Effect) → HasEffect old event effect new → AreRecorded old → AreRecorded new
acts_recorded old new event effect acts h =
    elim (refusal_of old event) as (λ o. MatchOption o (Does old event effect new) (λ why. Skips old event why effect new) → AreRecorded new) [
      | None ↦ λ d. does_recorded old new event effect d h
      | Some why ↦ λ k. recorded_same old new k.same.sessions.traces k.same.sessions.calls h
    ] acts

step_recorded : (old new : State) (event : Event) → WorldStep old event new → AreRecorded old → AreRecorded new
step_recorded old new event step h =
    let records = step.1.1.1.1 in
    recorded_same step.1.0 new records.sessions.traces records.sessions.calls (acts_recorded old step.1.0 event step.0 step.1.1.1.0 h)

-- in every world that is reached
pub recorded : (s : State) → IsReached s → AreRecorded s
recorded _ (opened s o) = λ n. subst (TracesRecorded s.calls) (sym (o.traces n)) tt
recorded _ (stepped old new event h step) = step_recorded old new event step (recorded old h)
