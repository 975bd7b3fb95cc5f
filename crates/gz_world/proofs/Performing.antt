-- What is done at an event is one step of the state, and the world fits afterwards.
use Rattle.std.proofs.Common.{◌≡◌, ℕ, ◌+◌, ◌-◌, ◌<◌, ◌≤◌, inl, inr, List, [], ◌∷◌, Some, None, Ok, Err, Bool, true, false, length, map, refl, ap, sym, ◌∙◌, subst, arith}
use Rattle.std.proofs.lemmas.Bool.Decides.{nat_tests}
use Rattle.std.specs.Prelude.{Option, IsSome, is_none, nat_le, nat_lt, option_map, ◌==◌, ◌||◌, not, ◌&&◌, if◌then◌else◌, Result, IfOk, OnErr, MatchOption, slice_get}
use Rattle.std.proofs.lemmas.Bool.{cases_lt}
use Rattle.std.proofs.lemmas.List.{length-map}
use Rattle.std.proofs.lemmas.Option.{slice_get-map}
use Rattle.gz_client.specs.declared.running.Running.{Running}
use Rattle.gz_client.specs.Traces.{Holds, HoldsRun, CanBegin}
use Rattle.gz_world.specs.declared.requests.Request.{Request}
use Rattle.gz_world.specs.declared.world.Member.{Member}
use Rattle.gz_core.specs.Configurations.{IsConfig}
use Rattle.gz_config.specs.declared.Config.{Config}
use Rattle.gz_core.specs.declared.calls.Call.{Call}
use Rattle.gz_core.specs.History.{GaveUp, Trace}
use Rattle.gz_site.specs.Told.{Told}
use Rattle.gz_site.specs.Many.{told_at}
use Rattle.gz_world.specs.States.{RequestAt, State, request_of, numbered, with_handed, with_given_up}
use Rattle.gz_world.specs.Bridge.{state_of, crashed_in}
use Rattle.gz_world.specs.Counting.{IsFull}
use Rattle.gz_world.specs.Refusals.{refusal_of, session_refusal, is_running, request_refusal, reply_refusal, or_next_skip, is_live, is_open}
use Rattle.gz_world.specs.Fits.{IsLast, StandsFor, FitsBy, Fits, IsFitting}
use Rattle.gz_world.specs.Reached.{IsReached, stepped}
use Rattle.gz_world.specs.Steps.{SameState, Does, Skips, HasEffect, WorldStep, hears, quiet, session_of}
use Rattle.gz_world.specs.Turns.{IsSmall, IsNumber, CanBeNotified, HasCall, IsSameWorld, ToldBy, Began, WasHanded, WasGivenUp}
use Rattle.gz_world.specs.Deliveries.{IsSameTold, WasDelivered, WasOpened, WasCrashed}
use Rattle.gz_world.specs.Told.{ActsBy, StaysBy, RecordedBy, IsReported, ReportsStep, StepsBy, IsReachedBy}
use Rattle.gz_world.specs.declared.events.Applied.{Applied}
use Rattle.gz_world.specs.declared.events.Effect.{Effect}
use Rattle.gz_world.specs.declared.events.Entry.{Entry}
use Rattle.gz_world.specs.declared.events.Event.{Event}
use Rattle.gz_world.specs.declared.events.Event.TheVariants as events
use Rattle.gz_world.specs.declared.events.Outcome.TheVariants as outcomes
use Rattle.gz_world.specs.declared.events.Skip.{Skip}
use Rattle.gz_world.specs.declared.events.Skip.TheVariants as skips
use Rattle.gz_world.specs.declared.world.World.{World}
use Rattle.gz_world.proofs.Places.{get_below}
use Rattle.gz_world.proofs.Members.{numbered_place, place_numbered, member_stands}
use Rattle.gz_world.proofs.Telling.{may_be_told, unless, not_false, live_found}
use Rattle.gz_world.proofs.Acting.{told_turn, begun_turn}
use Rattle.gz_world.proofs.Moving.{fits_same, state_same, same_told, delivered_moves, opened_moves, crashed_moves}

-- a world that isn't full takes more events
pub small_of : {S : Type 0} (w : World S) → IsFitting w → (IsFull w → ⊥) → IsSmall w
small_of w fitting room =
    let fits = fitting.1 in
    let events : length w.journal.items < 4000000 = elim (cases_lt (length w.journal.items) 4000000) [ inl l ↦ l | inr g ↦ absurd (room (inl g)) ] in
    let held : w.held < 1073741824 = elim (cases_lt w.held 1073741824) [ inl l ↦ l | inr g ↦ absurd (room (inr g)) ] in
    let weighs = fits.weighs in
    let opened = fits.opened in
    record { events = events; held = held; requests = omega (arith, weighs, held); sessions = omega (arith, opened, events) }

le_by : (a b : ℕ) → nat_le a b ≡ true → a ≤ b
le_by a b h = grind (arith, nat_tests)

-- an event that isn't skipped, and one that is
acts_done : (s : State) (event : Event) (effect : Effect) (new : State) → refusal_of s event ≡ None → Does s event effect new → HasEffect s event effect new
acts_done s event effect new none does = subst (λ o. MatchOption o (Does s event effect new) (λ why. Skips s event why effect new)) (sym none) does

acts_skipped : (s : State) (event : Event) (why : Skip) (effect : Effect) (new : State) → refusal_of s event ≡ Some why → Skips s event why effect new → HasEffect s event effect new
acts_skipped s event why effect new is skips = subst (λ o. MatchOption o (Does s event effect new) (λ why. Skips s event why effect new)) (sym is) skips

first_none : (a b : Option Skip) → or_next_skip a b ≡ None → a ≡ None
first_none None b h = refl
first_none (Some why) b h = cc

-- a request that isn't refused is there, and a session is open
pub there_by : (o : Option RequestAt) → (if is_none o then Some skips.NoRequest else None) ≡ None → IsSome o
there_by None h = cc
there_by (Some r) h = refl

open_test : (a b : Bool) → (a && b) ≡ true → (a ≡ true) × (b ≡ true)
open_test true true h = (refl, refl)
open_test true false h = cc
open_test false b h = cc

pub open_by : (s : State) (session : ℕ) → refusal_of s (events.Crash session) ≡ None → session ≤ s.sessions
open_by s session h =
    let t = unless (not (is_open s.sessions session)) skips.NoSession _ h in
    let o = open_test (nat_le 1 session) (nat_le session s.sessions) (not_false (is_open s.sessions session) t.0) in
    le_by session s.sessions o.1

second_none : (a b : Option Skip) → or_next_skip a b ≡ None → b ≡ None
second_none None b h = h
second_none (Some why) b h = cc

-- a session that isn't refused is open
opened_by : (sessions : ℕ) (crashed : ℕ → Bool) (session : ℕ) → session_refusal sessions crashed session ≡ None → (1 ≤ session) × (session ≤ sessions)
opened_by sessions crashed session h =
    let t = unless (not (is_open sessions session)) skips.NoSession _ h in
    let o = open_test (nat_le 1 session) (nat_le session sessions) (not_false (is_open sessions session) t.0) in
    (le_by 1 session o.0, le_by session sessions o.1)

no_run : (c : Config) (next : ℕ) (running : Option Running) (ts : List Trace) → HoldsRun c next running ts → is_running ts ≡ false → running ≡ None
no_run c next None ts h idle = refl
no_run c next (Some running) [] h idle = absurd h
no_run c next (Some running) (t ∷ ts) h idle = let e : is_none t.answer ≡ true = ap is_none h.0 in let bad : true ≡ false = sym e ∙ idle in cc

busy_none : (b : Bool) → (if b then Some skips.Busy else None) ≡ None → b ≡ false
busy_none true h = cc
busy_none false h = refl

-- a session that may begin a call: it is open, and its client is idle
pub begin_ready : {S : Type 0} (told : S → Option Told) (w : World S) (traces : ℕ → List Trace) (session : ℕ) (call : Call) → Fits traces w → IsSmall w → refusal_of (state_of told traces w) (events.Begin session call) ≡ None
    → (session ≤ length w.clients.items) × ((m : Member) → slice_get w.clients.items (session - 1) ≡ Some m → CanBegin m.client)
begin_ready told w traces session call fits small none =
    let first = first_none (session_refusal (length w.clients.items) (crashed_in w.clients.items) session) (if is_running (traces session) then Some skips.Busy else None) none in
    let second = second_none (session_refusal (length w.clients.items) (crashed_in w.clients.items) session) (if is_running (traces session) then Some skips.Busy else None) none in
    let idle = busy_none (is_running (traces session)) second in
    let opened = opened_by (length w.clients.items) (crashed_in w.clients.items) session first in (
      opened.1,
      λ m there.
          let s = member_stands w traces session m fits (place_numbered w.clients.items session m opened.0 there) in
          let few = fits.few session in
          let events = small.events in
          let calls = s.holds.calls_are in
          record { idle = no_run m.client.config s.next m.client.running (traces session) s.holds.run_is idle; few = omega (arith, few, events, calls); sizes = s.holds.sizes },
    )

some_by : (s : State) (n : ℕ) (o : Option RequestAt) → request_refusal s n o ≡ None → (r : RequestAt) × (o ≡ Some r)
some_by s n None h = cc
some_by s n (Some r) h = (r, refl)

called : {S : Type 0} (w : World S) (m : Member) (o : Option ℕ) (t : Trace) (earlier ts : List Trace) → m.last ≡ o → ts ≡ t ∷ earlier → IsLast w.calls.items o ts → HasCall w.calls.items m
called w m None t earlier ts e is h = let bad : [] ≡ t ∷ earlier = sym h ∙ is in cc
called w m (Some i) t earlier ts e is h = record { last = i; is = e; within = get_below w.calls.items i h.0 h.1.1.1.0 }

-- a client that may learn of a request
pub tell_ready : {S : Type 0} (told : S → Option Told) (w : World S) (traces : ℕ → List Trace) (n : ℕ) → Fits traces w → request_refusal (state_of told traces w) n (numbered (map request_of w.net.items) n) ≡ None
    → IsNumber n (length w.net.items) × ((r : Request) → slice_get w.net.items (n - 1) ≡ Some r → CanBeNotified w n r)
tell_ready told w traces n fits none =
    let s = state_of told traces w in
    let some = some_by s n (numbered (map request_of w.net.items) n) none in
    let place = numbered_place (map request_of w.net.items) n some.0 some.1 in
    let positive = place.0 in
    let below = get_below (map request_of w.net.items) (n - 1) some.0 place.1 in
    let len = length-map w.net.items request_of in (
      record { positive = positive; within = omega (arith, below, len, positive) },
      λ r there.
          let at : slice_get (map request_of w.net.items) (n - 1) ≡ Some (request_of r) = slice_get-map request_of w.net.items (n - 1) ∙ ap (option_map request_of) there in
          let placed = fits.requests (n - 1) (request_of r) at in
          let here = place_numbered (map request_of w.net.items) n (request_of r) positive at in
          let tells = subst (λ o. request_refusal s n o ≡ None) here none in
          let live = may_be_told s n (request_of r) tells in
          record {
            opened = placed.session;
            tells = λ m is.
                let k = member_stands w traces r.name.session m fits (place_numbered w.clients.items r.name.session m placed.opened is) in
                let f = live_found m.client k.next (traces r.name.session) n k.holds (ap (λ q. is_live q (traces r.name.session) n) k.config_is ∙ live) in
                (k.next, f.0, f.1.0, f.1.1.0, subst (Holds m.client k.next) f.1.1.1.0 k.holds, f.1.1.1.1, k.below);
            running = λ m is.
                let k = member_stands w traces r.name.session m fits (place_numbered w.clients.items r.name.session m placed.opened is) in
                let f = live_found m.client k.next (traces r.name.session) n k.holds (ap (λ q. is_live q (traces r.name.session) n) k.config_is ∙ live) in
                called w m m.last f.0 f.1.0 (traces r.name.session) refl f.1.1.1.0 k.last_is;
          },
    )

within_by : (which len : ℕ) → (if (which == 0) || nat_lt len which then Some skips.NoReply else None) ≡ None → IsNumber which len
within_by which len h = let t = unless ((which == 0) || nat_lt len which) skips.NoReply None h in let e = t.0 in record { positive = grind (arith, nat_tests); within = grind (arith, nat_tests) }

-- a reply that may be handed
pub reply_ready : {S : Type 0} (told : S → Option Told) (w : World S) (traces : ℕ → List Trace) (n which : ℕ) → Fits traces w → refusal_of (state_of told traces w) (events.Reply n which) ≡ None
    → (request_refusal (state_of told traces w) n (numbered (map request_of w.net.items) n) ≡ None) × ((r : Request) → 1 ≤ n → slice_get w.net.items (n - 1) ≡ Some r → IsNumber which (length r.replies.items))
reply_ready told w traces n which fits none =
    let s = state_of told traces w in
    let o = numbered (map request_of w.net.items) n in
    let second = second_none (request_refusal s n o) (reply_refusal which o) none in (
      first_none (request_refusal s n o) (reply_refusal which o) none,
      λ r positive there.
          let at : slice_get (map request_of w.net.items) (n - 1) ≡ Some (request_of r) = slice_get-map request_of w.net.items (n - 1) ∙ ap (option_map request_of) there in
          let here = place_numbered (map request_of w.net.items) n (request_of r) positive at in
          within_by which (length r.replies.items) (subst (λ q. reply_refusal which q ≡ None) here second),
    )

-- nothing refuses the event in a world, whatever its traces
abbrev pub IsAllowedIn : {S : Type 0} → (S → Option Told) → World S → Event → Type 0
IsAllowedIn told w event = (traces : ℕ → List Trace) → Fits traces w → refusal_of (state_of told traces w) event ≡ None

pub begin_acts : {S : Type 0} (told : S → Option Told) (old new : World S) (session : ℕ) (call : Call) (effect : Effect) → IsSmall old → IsAllowedIn told old (events.Begin session call) → Began old new session call effect → ActsBy told old (events.Begin session call) new effect
begin_acts told old new session call effect small allowed began = λ traces fits.
    let k = begun_turn told old new traces session call effect fits small began in
    (k.0, (k.1.0, acts_done (state_of told traces old) (events.Begin session call) effect (state_of told k.0 new) (allowed traces fits) k.1.1))

pub hand_acts : {S : Type 0} (told : S → Option Told) (old new : World S) (n which : ℕ) (effect : Effect) → IsSmall old → IsAllowedIn told old (events.Reply n which) → WasHanded old new n which effect → ActsBy told old (events.Reply n which) new effect
hand_acts told old new n which effect small allowed h = λ traces fits.
    let r = h.0 in
    let reply = h.1.0 in
    let m = h.1.1.0 in
    let by = h.1.1.1.1.1.1.1.1 in
    let marked = with_handed (length old.journal.items + 1) which r in
    let s = state_of told traces old in
    let none = allowed traces fits in
    let first = first_none (request_refusal s n (numbered (map request_of old.net.items) n)) (reply_refusal which (numbered (map request_of old.net.items) n)) none in
    let tells = subst (λ o. request_refusal s n o ≡ None) by.request first in
    let placed = fits.requests (n - 1) r (numbered_place (map request_of old.net.items) n r by.request).1 in
    let stands = member_stands old traces r.name.session m fits (place_numbered old.clients.items r.name.session m placed.opened by.member) in
    let heard = subst (λ (c : Config). ToldBy old new n r marked (hears c.n reply.1) m h.1.1.1.0 h.1.1.1.1.0 h.1.1.1.1.1.0 h.1.1.1.1.1.1.0 effect) stands.config_is by in
    let k = told_turn told old new traces n r marked (hears old.cfg.n reply.1) m h.1.1.1.0 h.1.1.1.1.0 h.1.1.1.1.1.0 h.1.1.1.1.1.1.0 effect fits small refl refl (may_be_told s n r tells) heard in
    (k.1.0, (k.1.1.0, acts_done s (events.Reply n which) effect (state_of told k.1.0 new) none (r, (reply, (k.0, (h.1.1.1.1.1.1.1.0, k.1.1.1))))))

pub give_up_acts : {S : Type 0} (told : S → Option Told) (old new : World S) (n : ℕ) (effect : Effect) → IsSmall old → IsAllowedIn told old (events.GiveUp n) → WasGivenUp old new n effect → ActsBy told old (events.GiveUp n) new effect
give_up_acts told old new n effect small allowed h = λ traces fits.
    let r = h.0 in
    let by = h.1.1.1.1.1.1 in
    let s = state_of told traces old in
    let none = allowed traces fits in
    let tells = subst (λ o. request_refusal s n o ≡ None) by.request none in
    let k = told_turn told old new traces n r (with_given_up (length old.journal.items + 1) r) (λ a. GaveUp a) h.1.0 h.1.1.0 h.1.1.1.0 h.1.1.1.1.0 h.1.1.1.1.1.0 effect fits small refl refl (may_be_told s n r tells) by in
    (k.1.0, (k.1.1.0, acts_done s (events.GiveUp n) effect (state_of told k.1.0 new) none (r, (k.0, k.1.1.1))))

pub deliver_acts : {S : Type 0} (told : S → Option Told) (old new : World S) (n : ℕ) (effect : Effect) → IsSmall old → IsAllowedIn told old (events.Deliver n) → WasDelivered told old new n effect → ActsBy told old (events.Deliver n) new effect
deliver_acts told old new n effect small allowed h = λ traces fits.
    let k = delivered_moves told old new traces n effect fits small h in
    (traces, (k.0, acts_done (state_of told traces old) (events.Deliver n) effect (state_of told traces new) (allowed traces fits) k.1))

pub open_acts : {S : Type 0} (told : S → Option Told) (old new : World S) (effect : Effect) → IsSmall old → WasOpened old new effect → ActsBy told old events.OpenSession new effect
open_acts told old new effect small h = λ traces fits.
    let k = opened_moves told old new traces effect fits small h in
    (traces, (k.0, k.1))

pub crash_acts : {S : Type 0} (told : S → Option Told) (old new : World S) (session : ℕ) (effect : Effect) → IsSmall old → IsAllowedIn told old (events.Crash session) → WasCrashed old new session effect → ActsBy told old (events.Crash session) new effect
crash_acts told old new session effect small allowed h = λ traces fits.
    let k = crashed_moves told old new traces session effect fits small h in
    (traces, (k.0, acts_done (state_of told traces old) (events.Crash session) effect (state_of told traces new) (allowed traces fits) k.1))

-- nothing has changed in one world
untouched : {S : Type 0} (told : S → Option Told) (w : World S) → IsSameTold told w w
untouched told w = record { cfg = refl; journal = refl; clients = refl; calls = refl; len = refl; told_is = λ i. refl; casts = refl; net = refl; held = refl }

pub skip_acts : {S : Type 0} (told : S → Option Told) (w : World S) (event : Event) (why : Skip) (effect : Effect) → IsSmall w
    → ((traces : ℕ → List Trace) → Fits traces w → Some why ≡ refusal_of (state_of told traces w) event)
    → ((traces : ℕ → List Trace) → effect ≡ quiet (outcomes.Skipped why) (session_of (state_of told traces w) event)) → ActsBy told w event w effect
skip_acts told w event why effect small refused is = λ traces fits.
    let events = small.events in (
      traces,
      (
        fits_same told w w traces (length w.journal.items + 1) fits (omega arith) (omega (arith, events)) (untouched told w),
        acts_skipped (state_of told traces w) event why effect (state_of told traces w) (sym (refused traces fits)) (record { same = state_same told w w traces (untouched told w); effect_is = is traces }),
      ),
    )

-- nothing was done
pub stays_told : {S : Type 0} (told : S → Option Told) (old new : World S) → IsSameTold told old new → StaysBy told old new
stays_told told old new same = λ traces fits.
    let events : length new.journal.items ≡ length old.journal.items = ap (λ v. length v.items) same.journal in
    let bounded = fits.bounded in
    (fits_same told old new traces (length new.journal.items) fits (omega (arith, events)) (omega (arith, events, bounded)) same, state_same told old new traces same)

pub stays_same : {S : Type 0} (told : S → Option Told) (old new : World S) → IsSameWorld old new → StaysBy told old new
stays_same told old new same = stays_told told old new (same_told told old new same)

-- the two outcomes of what may fail keep what both keep
pub both_keep : {T E : Type 0} (r : Result T E) (P : T → Type 0) (Q K : Type 0) → IfOk r P → OnErr r Q → ((x : T) → P x → K) → (Q → K) → K
both_keep (Ok x) P Q K h g f k = f x h
both_keep (Err e) P Q K h g f k = k g

-- equal states
pub states_equal : (old new : State) → SameState old new → old ≡ new
states_equal old new h = λ i. record {
  cfg = sym h.frame.cfg i;
  sites = λ k. sym (h.sites.sites k) i;
  sessions = sym h.sessions.sessions i;
  crashed = λ k. sym (h.sessions.crashed k) i;
  traces = λ k. sym (h.sessions.traces k) i;
  net = sym h.net i;
  journal = sym h.frame.journal i;
  casts = sym h.sites.casts i;
  calls = sym h.sessions.calls i;
  held = sym h.held i;
}

-- what is reported of a step is a step
pub step_of : (old : State) (event : Event) (new : State) (applied : Applied) → ReportsStep old event new applied → WorldStep old event new
step_of old event new applied t = (t.effect, (t.mid, (t.entry, (t.acts, t.records))))

-- a step keeps what is reached
pub reached_step : {S : Type 0} (told : S → Option Told) (old new : World S) (event : Event) (applied : Applied) → StepsBy told old event new applied → IsReachedBy told old → IsReachedBy told new
reached_step told old new event applied steps r =
    let k = steps r.0 r.1.0 in
    (k.0, (k.1.0, stepped (state_of told r.0 old) (state_of told k.0 new) event r.1.1 (step_of (state_of told r.0 old) event (state_of told k.0 new) applied k.1.1)))

pub reached_same : {S : Type 0} (told : S → Option Told) (old new : World S) → StaysBy told old new → IsReachedBy told old → IsReachedBy told new
reached_same told old new stays r =
    let k = stays r.0 r.1.0 in
    (r.0, (k.0, subst IsReached (states_equal (state_of told r.0 old) (state_of told r.0 new) k.1) r.1.1))

-- the world with another journal
pub fits_journal : {S : Type 0} (events : ℕ) (traces : ℕ → List Trace) (w v : World S) → FitsBy events traces w
    → v.cfg ≡ w.cfg → v.sites ≡ w.sites → v.net ≡ w.net → v.clients ≡ w.clients → v.calls ≡ w.calls → v.held ≡ w.held → FitsBy events traces v
fits_journal events traces w v fits cfg sites net clients calls held =
    let n : v.cfg.n ≡ w.cfg.n = ap (λ (c : Config). c.n) cfg in
    let many : length v.sites.items ≡ length w.sites.items = ap (λ s. length s.items) sites in
    let requests : map request_of v.net.items ≡ map request_of w.net.items = ap (λ s. map request_of s.items) net in
    let count : length (map request_of v.net.items) ≡ length (map request_of w.net.items) = ap length requests in
    let members : v.clients.items ≡ w.clients.items = ap (λ s. s.items) clients in
    let size : length v.clients.items ≡ length w.clients.items = ap length members in
    let recs : v.calls.items ≡ w.calls.items = ap (λ s. s.items) calls in
    let enough = fits.sites in
    let weighs = fits.weighs in
    let opened = fits.opened in
    record {
      config = subst IsConfig (sym cfg) fits.config;
      sites = omega (arith, n, many, enough);
      requests = λ i r h.
          let p = fits.requests i r (subst (λ xs. slice_get xs i ≡ Some r) requests h) in
          let s = p.session in
          let at = p.site in
          record { opened = p.opened; session = omega (arith, s, size); site = omega (arith, at, n) };
      clients = λ i m h.
          subst (λ q. StandsFor v.cfg q v.calls.items (i + 1) m (traces (i + 1))) (ap (λ q. q + 1) (sym count))
          (subst (λ q. StandsFor v.cfg (length (map request_of w.net.items) + 1) q (i + 1) m (traces (i + 1))) (sym recs)
          (subst (λ q. StandsFor q (length (map request_of w.net.items) + 1) w.calls.items (i + 1) m (traces (i + 1))) (sym cfg)
          (fits.clients i m (subst (λ xs. slice_get xs i ≡ Some m) members h))));
      unopened = λ s l. fits.unopened s (omega (arith, l, size));
      zeroth = fits.zeroth;
      few = fits.few;
      weighs = omega (arith, count, held, weighs);
      opened = omega (arith, size, opened);
      bounded = fits.bounded;
    }

-- a world in which only the room of the journal, or the mark that memory ran out, is another
pub record IsReserved {S : Type 0} (w v : World S) : Type 0 where
  pub cfg : v.cfg ≡ w.cfg
  pub sites : v.sites ≡ w.sites
  pub net : v.net ≡ w.net
  pub clients : v.clients ≡ w.clients
  pub calls : v.calls ≡ w.calls
  pub casts : v.casts ≡ w.casts
  pub held : v.held ≡ w.held
  pub journal : v.journal.items ≡ w.journal.items

pub fits_kept_by : {S : Type 0} (traces : ℕ → List Trace) (w v : World S) → IsReserved w v → Fits traces w → Fits traces v
fits_kept_by traces w v k fits = subst (λ n. FitsBy n traces v) (sym (ap length k.journal)) (fits_journal (length w.journal.items) traces w v fits k.cfg k.sites k.net k.clients k.calls k.held)

state_reserved : {S : Type 0} (told : S → Option Told) (traces : ℕ → List Trace) (w v : World S) → IsReserved w v → SameState (state_of told traces w) (state_of told traces v)
state_reserved told traces w v k = record {
  sites = record { sites = λ i. ap (λ s. told_at told s.items i) k.sites; casts = ap (λ c. c.list.items) k.casts };
  sessions = record { sessions = ap (λ s. length s.items) k.clients; crashed = λ n. ap (λ s. crashed_in s.items n) k.clients; traces = λ n. refl; calls = ap (λ s. s.items) k.calls };
  frame = record { cfg = k.cfg; journal = k.journal };
  net = ap (λ s. map request_of s.items) k.net;
  held = k.held;
}

pub stays_reserved : {S : Type 0} (told : S → Option Told) (w v : World S) → IsReserved w v → StaysBy told w v
stays_reserved told w v k = λ traces fits. (fits_kept_by traces w v k fits, state_reserved told traces w v k)

-- what stays, and then stays again
pub stays_then : {S : Type 0} (told : S → Option Told) (u v w : World S) → StaysBy told u v → StaysBy told v w → StaysBy told u w
stays_then told u v w a b = λ traces fits.
    let k = a traces fits in
    let j = b traces k.0 in
    (j.0, subst (λ s. SameState s (state_of told traces w)) (sym (states_equal (state_of told traces u) (state_of told traces v) k.1)) j.1)

-- the room for an entry, what an event does, and its entry make one step
pub steps_of : {S : Type 0} (told : S → Option Told) (u v w x : World S) (event : Event) (effect : Effect) (entry : Entry) (applied : Applied) → IsReserved u v → ActsBy told v event w effect → w.journal ≡ v.journal
    → RecordedBy told w event effect x entry → IsReported (length x.journal.items) entry effect applied → StepsBy told u event x applied
steps_of told u v w x event effect entry applied k acts journal records is = λ traces fits.
    let a = acts traces (fits_kept_by traces u v k fits) in
    let n : length v.journal.items ≡ length w.journal.items = sym (ap (λ s. length s.items) journal) in
    let r = records a.0 (subst (λ q. FitsBy (q + 1) a.0 w) n a.1.0) in (
      a.0,
      (
        r.0,
        record {
          effect = effect;
          mid = state_of told a.0 w;
          entry = entry;
          acts = subst (λ s. HasEffect s event effect (state_of told a.0 w)) (sym (states_equal (state_of told traces u) (state_of told traces v) (state_reserved told traces u v k))) a.1.1;
          records = r.1;
          told = is;
        },
      ),
    )

-- a step, and then a mark
pub steps_then : {S : Type 0} (told : S → Option Told) (u v w : World S) (event : Event) (applied : Applied) → StepsBy told u event v applied → IsReserved v w → StepsBy told u event w applied
steps_then told u v w event applied steps k = λ traces fits.
    let s = steps traces fits in
    (s.0, (fits_kept_by s.0 v w k s.1.0, subst (λ q. ReportsStep (state_of told traces u) event q applied) (states_equal (state_of told s.0 v) (state_of told s.0 w) (state_reserved told s.0 v w k)) s.1.1))
