-- A running call is told something of a request, and turns: the client stands for its traces, with one more action.
use Rattle.std.proofs.Common.{◌≡◌, ℕ, ◌+◌, ◌<◌, ◌≤◌, ◌^◌, List, [], ◌∷◌, ◌++◌, length, Option, Some, None, refl, sym, ◌∙◌, subst, inl, inr, arith}
use Rattle.std.proofs.lemmas.Option.{none-some}
use Rattle.gz_config.specs.declared.Config.{Config}
use Rattle.gz_core.specs.Awaiting.{IsAwaited}
use Rattle.gz_core.specs.declared.calls.Answer.{Answer}
use Rattle.gz_core.specs.declared.requests.Out.{Out}
use Rattle.gz_core.specs.declared.requests.Reply.{Reply}
use Rattle.gz_core.specs.declared.requests.Turn.{Turn}
use Rattle.gz_core.specs.History.{Asked, Action, GaveIn, Rested, Caller, Trace, sent_from}
use Rattle.gz_round.specs.Rounds.{rounds_used}
use Rattle.gz_round.specs.Sending.{AreAllowed}
use Rattle.gz_round.specs.Sites.{as_heard, written_by}
use Rattle.gz_round.specs.Standing.{AreAskedAgain}
use Rattle.gz_round.proofs.Bounds.{sent_below}
use Rattle.gz_client.specs.Sends.{IsOfRow}
use Rattle.gz_client.specs.Traces.{Holds, HoldsRun, AreBelow, AreOver, Extends, IsClosed, IsAwaited as IsAwaitedBy, told_of}
use Rattle.gz_client.specs.Turning.{HasTurnedBy, KeepsBlobRules, StandsOrEnds, TurnsBy}
use Rattle.gz_client.specs.declared.client.Client.{Client}
use Rattle.gz_client.specs.declared.running.Running.{Running}
use Rattle.gz_client.proofs.Fetching.{below_after}
use Rattle.gz_client.proofs.Listed.{awaits_listed, below_ended, below_later, below_rested}
use Rattle.gz_client.proofs.Rules.{keeps_gave_up, keeps_handed}
use Rattle.gz_client.proofs.Sends.{sends_nothing}
use Rattle.gz_client.proofs.Standing.{CanHold, allowed_of, turned_holds}

-- ---- what a call is told

pub told_rules : (c : Config) (w : Caller) (n : ℕ) (o : Option Reply) (a : Asked) (ms : List Action) → IsAwaited ms a → KeepsBlobRules c w ms → KeepsBlobRules c w (told_of n o a ∷ ms)
told_rules c w n None a ms i h = keeps_gave_up c w a ms i h
told_rules c w n (Some reply) a ms i h = keeps_handed c w a (as_heard n (written_by a.op) reply) ms i h

told_below : (n : ℕ) (o : Option Reply) (a : Asked) (ms : List Action) (next : ℕ) → AreBelow next ms → AreBelow next (told_of n o a ∷ ms)
told_below n None a ms next h = below_ended ms a next h
told_below n (Some reply) a ms next h = below_ended ms a next h

-- it promises nothing by that
pub told_round : (client : Client) (next n : ℕ) (o : Option Reply) (a : Asked) (t : Trace) (ts : List Trace) → Holds client next (t ∷ ts) → client.round ≡ rounds_used ts (told_of n o a ∷ t.actions)
told_round client next n None a t ts h = let is = h.round_is in omega arith
told_round client next n (Some reply) a t ts h = let is = h.round_is in omega arith

-- ---- how an event closes

closed_below : (closing ms : List Action) (next : ℕ) → IsClosed closing → AreBelow next ms → AreBelow next (closing ++ ms)
closed_below closing ms next (inl (inl none)) h = subst (λ (cs : List Action). AreBelow next (cs ++ ms)) (sym none) h
closed_below closing ms next (inl (inr gave)) h = subst (λ (cs : List Action). AreBelow next (cs ++ ms)) (sym gave) (below_rested ms next h)
closed_below closing ms next (inr rested) h = subst (λ (cs : List Action). AreBelow next (cs ++ ms)) (sym rested) (below_rested ms next h)

-- rounds rise by at most one a request
closed_low : (c : Config) (w : Caller) (past : List Trace) (closing : List Action) (first : ℕ) (outs : List Out) (ms : List Action)
    → IsClosed closing → rounds_used past ms < 2 ^ 31 + first → AreAllowed c w past (closing ++ sent_from first outs ms)
    → rounds_used past (closing ++ sent_from first outs ms) < 2 ^ 31 + (first + length outs)
closed_low c w past closing first outs ms closed used allowed = by closed allowed
  where
    low : AreAllowed c w past (sent_from first outs ms) → rounds_used past (sent_from first outs ms) < 2 ^ 31 + (first + length outs)
    low k = omega (arith, sent_below c w past first outs ms (2 ^ 31 + first) used (omega arith) k)

    by : IsClosed closing → AreAllowed c w past (closing ++ sent_from first outs ms) → rounds_used past (closing ++ sent_from first outs ms) < 2 ^ 31 + (first + length outs)
    by (inl (inl none)) k =
        subst (λ (cs : List Action). rounds_used past (cs ++ sent_from first outs ms) < 2 ^ 31 + (first + length outs)) (sym none)
        (low (subst (λ (cs : List Action). AreAllowed c w past (cs ++ sent_from first outs ms)) none k))
    by (inl (inr gave)) k =
        let after : AreAllowed c w past (GaveIn ∷ sent_from first outs ms) = subst (λ (cs : List Action). AreAllowed c w past (cs ++ sent_from first outs ms)) gave k in
        subst (λ (cs : List Action). rounds_used past (cs ++ sent_from first outs ms) < 2 ^ 31 + (first + length outs)) (sym gave) (low after.1)
    by (inr rested) k =
        let after : AreAllowed c w past (Rested ∷ sent_from first outs ms) = subst (λ (cs : List Action). AreAllowed c w past (cs ++ sent_from first outs ms)) rested k in
        subst (λ (cs : List Action). rounds_used past (cs ++ sent_from first outs ms) < 2 ^ 31 + (first + length outs)) (sym rested) (low after.1)

-- ---- the client turns

-- a client that sends nothing turns, where what it keeps stands or the call ends by a cause
pub turns_quietly : (old new : Client) (first : ℕ) (answer : Option Answer) (w : Caller) (past : List Trace) (ms : List Action)
    → new.config ≡ old.config → new.session ≡ old.session → new.calls ≡ old.calls → new.round ≡ rounds_used past ms → StandsOrEnds old.config w past new.running ms answer
    → (IsOfRow ms → AreAskedAgain old.config ms) → TurnsBy old new first (record { send = []; answer = answer }) w past ms
turns_quietly old new first answer w past ms config session calls round stands again = λ rules below. (
  [],
  inl (inl refl),
  record { config_is = config; session_is = session; calls_are = calls; round_is = round; rules = rules; stands = stands },
  sends_nothing old.config ms first answer again,
)

stands_allowed : (c : Config) (w : Caller) (past : List Trace) (running : Option Running) (ms : List Action) (answer : Option Answer) → StandsOrEnds c w past running ms answer → AreAllowed c w past ms
stands_allowed c w past (Some running) ms None h = allowed_of c w past running ms h
stands_allowed c w past None ms (Some answer) h = h.0
stands_allowed c w past (Some running) ms (Some answer) h = absurd h
stands_allowed c w past None ms None h = absurd h

held_below : (c : Config) (next : ℕ) (running : Option Running) (t : Trace) (ts : List Trace) → t.answer ≡ None → HoldsRun c next running (t ∷ ts) → AreBelow next t.actions × AreOver ts
held_below c next None t ts e h = absurd (none-some h.0.0 (sym e ∙ h.0.1))
held_below c next (Some running) t ts e h = (h.2, h.3)

turned_client : (old new : Client) (w : Caller) (ts : List Trace) (ms : List Action) (answer : Option Answer) (next : ℕ)
    → CanHold old.config old.session w ts ms new.calls new.round next → HasTurnedBy old new w ts ms answer → Holds new next (record { caller = w; actions = ms; answer = answer } ∷ ts)
turned_client old new w ts ms answer next can turn =
    subst (λ (s : ℕ). Holds (record { config = new.config; session = s; calls = new.calls; round = new.round; running = new.running }) next (record { caller = w; actions = ms; answer = answer } ∷ ts)) (sym turn.session_is)
    (subst (λ (c : Config). Holds (record { config = c; session = old.session; calls = new.calls; round = new.round; running = new.running }) next (record { caller = w; actions = ms; answer = answer } ∷ ts)) (sym turn.config_is)
    (turned_holds old.config old.session w ts new.running ms answer new.calls new.round next can turn.stands))

-- a client that turns once its running call is told something stands for its traces with that
pub extended : (old new : Client) (n first : ℕ) (o : Option Reply) (turn : Turn)
    → ((next : ℕ) (t : Trace) (ts : List Trace) (a : Asked) → Holds old next (t ∷ ts) → IsAwaitedBy old.config t a n → next ≤ first → TurnsBy old new first turn t.caller ts (told_of old.config.n o a ∷ t.actions))
    → Extends old new n first (told_of old.config.n o) turn
extended old new n first o turn turns = λ next t ts a h awaited l.
    let told = h.told in
    let m : Action = told_of old.config.n o a in
    let listed = awaits_listed old.config t.actions a told.0.in_turn awaited.awaits in
    let rules : KeepsBlobRules old.config t.caller t.actions = record { blobs = told.0.blobs; once = told.0.once; in_turn = told.0.in_turn; first = told.0.first } in
    let held = held_below old.config next old.running t ts awaited.running h.run_is in
    let below : AreBelow first (m ∷ t.actions) = told_below old.config.n o a t.actions first (below_later t.actions next first l held.0) in
    let k = turns next t ts a h awaited l (told_rules old.config t.caller old.config.n o a t.actions listed rules) below in
    let ms : List Action = k.0 ++ sent_from first turn.send (m ∷ t.actions) in
    let same : old.round ≡ rounds_used ts (m ∷ t.actions) = told_round old next old.config.n o a t ts h in
    let used : rounds_used ts (m ∷ t.actions) < 2 ^ 31 + first = omega (arith, same, h.round_low) in
    let low : rounds_used ts ms < 2 ^ 31 + (first + length turn.send) =
    closed_low old.config t.caller ts k.0 first turn.send (m ∷ t.actions) k.1 used (stands_allowed old.config t.caller ts new.running ms turn.answer k.2.stands) in (
      k.0,
      k.1,
      turned_client old new t.caller ts ms turn.answer (first + length turn.send) (record {
        sizes = h.sizes;
        count = k.2.calls_are ∙ (h.calls_are ∙ omega arith);
        named = told.1;
        own = told.0.own;
        told = told.2;
        over = held.1;
        rules = k.2.rules;
        below = closed_below k.0 (sent_from first turn.send (m ∷ t.actions)) (first + length turn.send) k.1 (below_after first turn.send (m ∷ t.actions) below);
        round_is = k.2.round_is;
        low = omega (arith, low, k.2.round_is);
      }) k.2,
      k.3,
    )
