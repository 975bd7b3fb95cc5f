-- The clients of sessions that an event leaves idle are as they were.
use Rattle.std.proofs.Common.{◌≡◌, ◌≢◌, ℕ, zero, suc, ◌-◌, ◌≤◌, List, [], ◌∷◌, ◌++◌, None, length, map, refl, ap, sym, ◌∙◌, subst, arith}
use Rattle.std.specs.Prelude.{Option, true, false, slice_set}
use Rattle.gz_core.specs.History.{Trace, Asked, Action}
use Rattle.gz_core.specs.declared.requests.Turn.{Turn}
use Rattle.gz_client.specs.declared.client.Client.{Client}
use Rattle.gz_core.specs.declared.calls.Call.{Call}
use Rattle.gz_history.specs.declared.record.CallRec.{CallRec}
use Rattle.gz_site.specs.Told.{Told}
use Rattle.gz_world.specs.Deliveries.{IsOfAnother, IsNoneOf, IsIdleAt, LeavesClients, is_delivery, WasDelivered, WasOpened, WasCrashed}
use Rattle.gz_world.specs.Fits.{Fits}
use Rattle.gz_world.specs.States.{RequestAt, numbered, request_of}
use Rattle.gz_world.specs.Turns.{Began, WasHanded, WasGivenUp, ToldBy}
use Rattle.gz_world.specs.declared.events.Effect.{Effect}
use Rattle.gz_world.specs.declared.events.Event.{Event}
use Rattle.gz_world.specs.declared.events.Event.TheVariants as events
use Rattle.gz_world.specs.declared.events.Outcome.{Outcome}
use Rattle.gz_world.specs.declared.events.Outcome.TheVariants as outcomes
use Rattle.gz_world.specs.declared.world.Member.{Member}
use Rattle.gz_world.specs.declared.world.World.{World}
use Rattle.gz_world.proofs.Members.{numbered_suc, numbered_place}
use Rattle.gz_world.proofs.Places.{get_append, get_set_other, get_there}

-- ---- lists by numbers

numbered_append : {A : Type 0} (xs ys : List A) (n : ℕ) → n ≤ length xs → numbered (xs ++ ys) n ≡ numbered xs n
numbered_append xs ys zero low = refl
numbered_append xs ys (suc m) low =
    let p = get_there xs m (omega (arith, low)) in
    numbered_suc (xs ++ ys) m ∙ get_append xs ys m p.0 p.1 ∙ sym (numbered_suc xs m ∙ p.1)

numbered_set : {A : Type 0} (xs : List A) (i n : ℕ) (x : A) → 1 ≤ i → i ≢ n → numbered (slice_set xs (i - 1) x) n ≡ numbered xs n
numbered_set xs i zero x positive off = refl
numbered_set xs i (suc m) x positive off =
    numbered_suc (slice_set xs (i - 1) x) m ∙ get_set_other xs (i - 1) m x (λ e. off (omega (arith, e, positive))) ∙ sym (numbered_suc xs m)

-- ---- what each event that is done leaves

-- it suffices to look at an event that is done
leaves_done : {S : Type 0} (old new : World S) (event : Event) (outcome : Outcome) → outcome ≡ outcomes.Done
    → ((session : ℕ) → IsNoneOf old event session → numbered new.clients.items session ≡ numbered old.clients.items session) → LeavesClients old event outcome new
leaves_done old new event outcome done h = subst (λ o. LeavesClients old event o new) (sym done) h

-- the same of the event that it is
leaves_at : {S : Type 0} (old new : World S) (event other : Event) (outcome : Outcome) → event ≡ other → LeavesClients old other outcome new → LeavesClients old event outcome new
leaves_at old new event other outcome is h = subst (λ e. LeavesClients old e outcome new) (sym is) h

pub open_idle : {S : Type 0} (old new : World S) (event : Event) (effect : Effect) → event ≡ events.OpenSession → WasOpened old new effect → LeavesClients old event effect.outcome new
open_idle old new event effect is h =
    leaves_at old new event events.OpenSession effect.outcome is (leaves_done old new events.OpenSession effect.outcome (ap (λ (x : Effect). x.outcome) h.1.effect_is)
    (λ session low. ap (λ xs. numbered xs session) h.1.clients ∙ numbered_append old.clients.items (record { client = h.0; crashed = false; last = None } ∷ []) session low))

pub begin_idle : {S : Type 0} (old new : World S) (event : Event) (named : ℕ) (call : Call) (effect : Effect) → event ≡ events.Begin named call → Began old new named call effect → LeavesClients old event effect.outcome new
begin_idle old new event named call effect is h =
    let b = h.1.1.1.1 in
    leaves_at old new event (events.Begin named call) effect.outcome is (leaves_done old new (events.Begin named call) effect.outcome (ap (λ (x : Effect). x.outcome) b.effect_is)
    (λ session off. ap (λ xs. numbered xs session) b.clients ∙ numbered_set old.clients.items named session _ b.opened off))

pub crash_idle : {S : Type 0} (old new : World S) (event : Event) (named : ℕ) (effect : Effect) → event ≡ events.Crash named → WasCrashed old new named effect → LeavesClients old event effect.outcome new
crash_idle old new event named effect is h =
    leaves_at old new event (events.Crash named) effect.outcome is (leaves_done old new (events.Crash named) effect.outcome (ap (λ (x : Effect). x.outcome) h.1.effect_is)
    (λ session off. ap (λ xs. numbered xs session) h.1.clients ∙ numbered_set old.clients.items named session _ h.1.opened off))

pub deliver_idle : {S : Type 0} (told : S → Option Told) (old new : World S) (event : Event) (n : ℕ) (effect : Effect) → event ≡ events.Deliver n → WasDelivered told old new n effect → LeavesClients old event effect.outcome new
deliver_idle told old new event n effect is h =
    leaves_at old new event (events.Deliver n) effect.outcome is (leaves_done old new (events.Deliver n) effect.outcome (ap (λ (x : Effect). x.outcome) h.1.1.effect_is)
    (λ session idle. ap (λ v. numbered v.items session) h.1.1.rest.clients))

-- a client that learns of a request is of the request's session
told_idle : {S : Type 0} (old new : World S) (traces : ℕ → List Trace) (n : ℕ) (r marked : RequestAt) (action : Asked → Action) (m : Member) (last : ℕ) (c : CallRec) (client : Client) (turn : Turn) (effect : Effect)
    → Fits traces old → ToldBy old new n r marked action m last c client turn effect → (session : ℕ) → IsOfAnother old n session → numbered new.clients.items session ≡ numbered old.clients.items session
told_idle old new traces n r marked action m last c client turn effect fits t session off =
    let place = numbered_place (map request_of old.net.items) n r t.request in
    ap (λ xs. numbered xs session) t.clients ∙ numbered_set old.clients.items r.name.session session _ (fits.requests (n - 1) r place.1).opened (off r t.request)

pub hand_idle : {S : Type 0} (old new : World S) (traces : ℕ → List Trace) (event : Event) (n which : ℕ) (effect : Effect) → Fits traces old → event ≡ events.Reply n which → WasHanded old new n which effect → LeavesClients old event effect.outcome new
hand_idle old new traces event n which effect fits is h =
    let t = h.1.1.1.1.1.1.1.1 in
    leaves_at old new event (events.Reply n which) effect.outcome is (leaves_done old new (events.Reply n which) effect.outcome (ap (λ (x : Effect). x.outcome) t.effect_is)
    (told_idle old new traces n h.0 _ _ h.1.1.0 h.1.1.1.0 h.1.1.1.1.0 h.1.1.1.1.1.0 h.1.1.1.1.1.1.0 effect fits t))

pub give_up_idle : {S : Type 0} (old new : World S) (traces : ℕ → List Trace) (event : Event) (n : ℕ) (effect : Effect) → Fits traces old → event ≡ events.GiveUp n → WasGivenUp old new n effect → LeavesClients old event effect.outcome new
give_up_idle old new traces event n effect fits is h =
    let t = h.1.1.1.1.1.1 in
    leaves_at old new event (events.GiveUp n) effect.outcome is (leaves_done old new (events.GiveUp n) effect.outcome (ap (λ (x : Effect). x.outcome) t.effect_is)
    (told_idle old new traces n h.0 _ _ h.1.0 h.1.1.0 h.1.1.1.0 h.1.1.1.1.0 h.1.1.1.1.1.0 effect fits t))

pub is_no_delivery : (event : Event) (n : ℕ) → event ≡ events.Deliver n → is_delivery event ≡ false → ⊥
is_no_delivery event n is none = let bad : true ≡ false = sym (ap is_delivery is) ∙ none in cc

-- ---- what comes before and after

-- what comes before and after, and leaves requests and clients alone
pub clients_between : {S : Type 0} (old start mid new : World S) (event : Event) (outcome told : Outcome) → start.net ≡ old.net → start.clients ≡ old.clients → new.clients ≡ mid.clients → told ≡ outcome
    → LeavesClients start event outcome mid → LeavesClients old event told new
clients_between old start mid new event outcome told net before after is h = subst (λ o. LeavesClients old event o new) (sym is) (λ session idle.
    ap (λ v. numbered v.items session) after ∙ h session (start_idle old start event outcome net before session idle) ∙ ap (λ v. numbered v.items session) before)
  where
    none_of : {S : Type 0} (old start : World S) (event : Event) → start.net ≡ old.net → start.clients ≡ old.clients → (session : ℕ) → IsNoneOf old event session → IsNoneOf start event session
    none_of old start events.OpenSession net before session low = subst (λ v. session ≤ length v.items) (sym before) low
    none_of old start (events.Begin named call) net before session off = off
    none_of old start (events.Deliver n) net before session idle = tt
    none_of old start (events.Reply n which) net before session off = λ r there. off r (ap (λ v. numbered (map request_of v.items) n) (sym net) ∙ there)
    none_of old start (events.GiveUp n) net before session off = λ r there. off r (ap (λ v. numbered (map request_of v.items) n) (sym net) ∙ there)
    none_of old start (events.Crash named) net before session off = off

    start_idle : {S : Type 0} (old start : World S) (event : Event) (outcome : Outcome) → start.net ≡ old.net → start.clients ≡ old.clients → (session : ℕ) → IsIdleAt old event outcome session → IsIdleAt start event outcome session
    start_idle old start event outcomes.Done net before session idle = none_of old start event net before session idle
    start_idle old start event (outcomes.Skipped why) net before session idle = tt
