-- Each step keeps the run of each object.
use Rattle.std.proofs.Common.{◌≡◌, ℕ, ◌-◌, ◌<◌, inl, inr, List, [], ◌∷◌, Some, None, Bool, true, refl, ap, sym, ◌∙◌, subst}
use Rattle.std.proofs.lemmas.Bool.{cases_eq, false≢true}
use Rattle.std.specs.Prelude.{Option, MatchOption, IfSome, IsSome, not, slice_get}
use Rattle.std.specs.List.{filter}
use Rattle.std.proofs.lemmas.List.Elements.{All-contains, filter_passes}
use Rattle.gz_core.specs.Awaiting.{awaiting}
use Rattle.gz_config.specs.declared.Config.{Config}
use Rattle.gz_core.specs.declared.requests.Reply.{Reply}
use Rattle.gz_core.specs.History.{Asked, Action, GaveUp, is_row_request}
use Rattle.gz_core.specs.Rows.{IsRow}
use Rattle.gz_round.specs.Sites.{site_now, as_heard, written_by}
use Rattle.gz_client.specs.Traces.{AllKeepRules, Awaits}
use Rattle.gz_site.specs.Told.{Told, Tells, IsEmpty}
use Rattle.gz_model.specs.Casts.{has_cast}
use Rattle.gz_ledger.specs.Transitions.{Transition, after_transitions, AreTransitions}
use Rattle.gz_world.specs.declared.events.Effect.{Effect}
use Rattle.gz_world.specs.declared.events.Event.{Event}
use Rattle.gz_world.specs.declared.events.Event.TheVariants as events
use Rattle.gz_laws.specs.Begun.{IsBegunIn}
use Rattle.gz_laws.specs.Carried.{IsRequestOf, ActionCarried, TracesCarried, AreCarried}
use Rattle.gz_laws.specs.Each.{EachTrace}
use Rattle.gz_laws.specs.Heard.{unused}
use Rattle.gz_laws.specs.Listed.{AreCallsListed}
use Rattle.gz_laws.specs.Placed.{ArePlaced}
use Rattle.gz_world.specs.Reached.{IsOpening, IsReached, opened, stepped, AllTell}
use Rattle.gz_world.specs.Refusals.{refusal_of}
use Rattle.gz_laws.specs.Runs.{stored_of, IsSentBy, IsRun}
use Rattle.gz_laws.specs.Rows.{IfKept}
use Rattle.gz_world.specs.States.{RequestAt, State, tick_of, numbered, with_handed, with_given_up}
use Rattle.gz_world.specs.Steps.{Answers, DeliversBy, SitesStay, TurnBy, TakesTurn, hears, HasEffect, Does, Skips, WorldStep}
use Rattle.gz_laws.proofs.Carrying.{carried, awaits_carried}
use Rattle.gz_laws.proofs.Keeping.{awaited_key, handed_stands}
use Rattle.gz_laws.proofs.Listing.{listed}
use Rattle.gz_world.proofs.Members.{numbered_place}
use Rattle.gz_laws.proofs.Placing.{placed, handed_alike, given_up_alike}
use Rattle.gz_laws.proofs.RunBegins.{begin_run}
use Rattle.gz_laws.proofs.RunDelivers.{deliver_run}
use Rattle.gz_laws.proofs.RunTools.{since_on}
use Rattle.gz_laws.proofs.RunTurns.{turn_run}

-- nothing that the run reads has changed
same_run : (key : List ℕ) (old new : State) (ds : List Transition) → new.cfg ≡ old.cfg → ((i : ℕ) → new.sites i ≡ old.sites i) → ((n : ℕ) → new.traces n ≡ old.traces n) → new.net ≡ old.net → new.calls ≡ old.calls → new.casts ≡ old.casts → IsRun key old ds → (more : List Transition) × IsRun key new more
same_run key old new ds cfg sites traces net calls casts run = (
  ds,
  record {
    transitions = subst (λ c. AreTransitions c unused ds) (sym cfg) run.transitions;
    sites = λ i told is. run.sites i told (sym (sites i) ∙ is);
    requests = λ n r there is. run.requests n r (subst (λ xs. numbered xs n ≡ Some r) net there) is;
    casts = λ v b x i. ap (λ cs. has_cast cs key v b x i) casts ∙ run.casts v b x i;
    sent = λ q i. subst (IsSentBy key q.call q.act) (sym (traces q.call.session)) (run.sent q i);
    begun = λ n. subst (EachTrace (IsBegunIn key ds)) (sym (traces n)) (run.begun n);
    calls = λ j b there is.
        let since = run.calls j b (subst (λ xs. slice_get xs j ≡ Some b) calls there) is in
        since_on key old new ds ds b b cfg refl refl since (record { later = since.late; split = since.split; current = since.current; rows = λ e h. h })
        (λ n i tick r reply at own same e. since.heard n i tick r reply (subst (λ xs. numbered xs n ≡ Some r) net at) own same e)
        (λ i v a at own before show. since.ended i v a (subst (λ xs. slice_get xs i ≡ Some a) calls at) own before show);
  },
)

same_request : (a b : RequestAt) → Some a ≡ Some b → a ≡ b
same_request a b e = cc

-- the request that a running call learns of is the one that it awaits
pub told_request : (old new : State) (n : ℕ) (r marked : RequestAt) (action : Asked → Action) (by : TurnBy) (effect : Effect) → TakesTurn old n r action by marked effect new → AreCarried old → IsRequestOf old.net by.trace.caller.name by.asked r
told_request old new n r marked action by effect t carries =
    let mine : TracesCarried old.cfg.n old.net (by.trace ∷ by.earlier) = subst (TracesCarried old.cfg.n old.net) t.traces (carries r.name.session) in
    let k = awaits_carried old.cfg.n old.cfg old.net by.trace.caller.name by.trace.actions by.asked mine.0 t.awaited.awaits in
    let same = same_request k.0 r (sym k.1.there ∙ ap (numbered old.net) t.awaited.number_is ∙ t.request) in
    subst (λ (q : RequestAt). IsRequestOf old.net by.trace.caller.name by.asked q) same k.1

-- a request about a row that is awaited is awaited of its site
pub awaits_row : (c : Config) (ms : List Action) (a : Asked) → is_row_request a.op ≡ true → Awaits c ms a → (site_now ms a.site).awaits ≡ Some a
awaits_row c ms a row (inl k) = k.1
awaits_row c ms a row (inr blob) = let p : Asked → Bool = λ b. not (is_row_request b.op) in absurd (false≢true (sym (ap not row) ∙ All-contains (λ b. p b ≡ true) (filter p (awaiting ms)) a (filter_passes p (awaiting ms)) blob))

-- the reply that it learns of is one of that request
pub handed_action : (old new : State) (n which : ℕ) (r : RequestAt) (reply : ℕ × Reply) (by : TurnBy) (effect : Effect) → numbered r.replies which ≡ Some reply → TakesTurn old n r (hears old.cfg.n reply.1) by (with_handed (tick_of old) which r) effect new → AreCarried old
    → ActionCarried old.cfg.n old.net by.trace.caller.name (hears old.cfg.n reply.1 by.asked)
handed_action old new n which r reply by effect there t carries =
    let request = told_request old new n r (with_handed (tick_of old) which r) (hears old.cfg.n reply.1) by effect t carries in (
      r,
      (
        request,
        record {
          place = which - 1;
          tick = reply.0;
          made = reply.1;
          there = (numbered_place r.replies which reply there).1;
          heard = ap (λ op. as_heard old.cfg.n (written_by op) reply.1) (sym request.op_is);
        },
      ),
    )

hand_run : (key : List ℕ) (old new : State) (ds : List Transition) (n which : ℕ) (r : RequestAt) (reply : ℕ × Reply) (by : TurnBy) (effect : Effect) → numbered r.replies which ≡ Some reply → TakesTurn old n r (hears old.cfg.n reply.1) by (with_handed (tick_of old) which r) effect new
    → AreCallsListed old → AreCarried old → ArePlaced old → IsRun key old ds → (more : List Transition) × IsRun key new more
hand_run key old new ds n which r reply by effect there t listed carries placed run =
    let name = by.trace.caller.name in
    let action = handed_action old new n which r reply by effect there t carries in
    let told : AllKeepRules old.cfg r.name.session (by.trace ∷ by.earlier) = subst (AllKeepRules old.cfg r.name.session) t.traces (listed.told r.name.session) in
    turn_run key old new ds n r (with_handed (tick_of old) which r) (hears old.cfg.n reply.1) by effect t (handed_alike (tick_of old) which r)
    (λ same. handed_stands key old.cfg.n old.net (after_transitions unused ds) name by.asked (as_heard old.cfg.n (written_by by.asked.op) reply.1) run.requests (λ row. awaited_key old.cfg by.trace.caller by.earlier by.trace.actions by.asked.site by.asked told.0.allowed (awaits_row old.cfg by.trace.actions by.asked row t.awaited.awaits) ∙ same) action)
    (λ act h. h) (λ a. refl) action listed carries placed run

give_up_run : (key : List ℕ) (old new : State) (ds : List Transition) (n : ℕ) (r : RequestAt) (by : TurnBy) (effect : Effect) → TakesTurn old n r (λ a. GaveUp a) by (with_given_up (tick_of old) r) effect new
    → AreCallsListed old → AreCarried old → ArePlaced old → IsRun key old ds → (more : List Transition) × IsRun key new more
give_up_run key old new ds n r by effect t listed carries placed run =
    turn_run key old new ds n r (with_given_up (tick_of old) r) (λ a. GaveUp a) by effect t (given_up_alike (tick_of old) r) (λ _. tt) (λ act h. h) (λ a. refl)
    (r, told_request old new n r (with_given_up (tick_of old) r) (λ a. GaveUp a) by effect t carries) listed carries placed run

does_run : (key : List ℕ) (old new : State) (ds : List Transition) (event : Event) (effect : Effect) → Does old event effect new → AllTell old → AreCallsListed old → AreCarried old → ArePlaced old → IsRun key old ds → (more : List Transition) × IsRun key new more
does_run key old new ds events.OpenSession effect d tell l c p run = same_run key old new ds d.frame.cfg d.sites.sites d.traces d.net d.calls d.sites.casts run
does_run key old new ds (events.Begin session call) effect d tell l c p run = begin_run key old new ds session call d.0 d.1.0 effect d.1.1 l c p run
does_run key old new ds (events.Deliver n) effect d tell l c p run = deliver_run key old new ds n d.0 d.1.0 effect d.1.1 (tell d.0.site (p.requests n d.0 d.1.1.request).site) run
does_run key old new ds (events.Reply n which) effect d tell l c p run = hand_run key old new ds n which d.0 d.1.0 d.1.1.0 effect d.1.1.1.0 d.1.1.1.1 l c p run
does_run key old new ds (events.GiveUp n) effect d tell l c p run = give_up_run key old new ds n d.0 d.1.0 effect d.1.1 l c p run
does_run key old new ds (events.Crash session) effect d tell l c p run = same_run key old new ds d.frame.cfg d.sites.sites d.traces d.net d.calls d.sites.casts run

pub acts_run : (key : List ℕ) (old new : State) (ds : List Transition) (event : Event) (effect : Effect) → HasEffect old event effect new → AllTell old → AreCallsListed old → AreCarried old → ArePlaced old → IsRun key old ds → (more : List Transition) × IsRun key new more
acts_run key old new ds event effect acts tell l c p run =
    elim (refusal_of old event) as (λ o. MatchOption o (Does old event effect new) (λ why. Skips old event why effect new) → (more : List Transition) × IsRun key new more) [
      | None ↦ λ d. does_run key old new ds event effect d tell l c p run
      | Some why ↦ λ k. same_run key old new ds k.same.frame.cfg k.same.sites.sites k.same.sessions.traces k.same.net k.same.sessions.calls k.same.sites.casts run
    ] acts

-- a site that tells has always told
pub told_before : (o p : Option Told) (R : Told → Told → Type 0) → Tells o p R → IsSome p → IsSome o
told_before None None R h some = some
told_before None (Some new) R h some = absurd h
told_before (Some old) p R h some = refl

abbrev StillTell : State → State → Type 0
StillTell old new = (i : ℕ) → IsSome (new.sites i) → IsSome (old.sites i)

stay_tell : (old new : State) → SitesStay old new → StillTell old new
stay_tell old new stay = λ i h. subst (λ (o : Option Told). IsSome o) (stay.sites i) h

deliver_tell : (old new : State) (n : ℕ) (r : RequestAt) (reply : Reply) (effect : Effect) → DeliversBy old n r reply effect new → StillTell old new
deliver_tell old new n r reply effect d = λ i h. elim (cases_eq i r.site) [
  | inl e ↦ subst (λ k. IsSome (old.sites k)) (sym e) (told_before (old.sites r.site) (new.sites r.site) (λ before after. Answers before r.op reply after) d.site (subst (λ k. IsSome (new.sites k)) e h))
  | inr ne ↦ subst (λ (o : Option Told). IsSome o) (d.others i ne) h
]

does_tell : (old new : State) (event : Event) (effect : Effect) → Does old event effect new → StillTell old new × (new.cfg ≡ old.cfg)
does_tell old new events.OpenSession effect d = (stay_tell old new d.sites, d.frame.cfg)
does_tell old new (events.Begin session call) effect d = (stay_tell old new d.1.1.sites, d.1.1.frame.cfg)
does_tell old new (events.Deliver n) effect d = (deliver_tell old new n d.0 d.1.0 effect d.1.1, d.1.1.frame.cfg)
does_tell old new (events.Reply n which) effect d = (stay_tell old new d.1.1.1.1.sites, d.1.1.1.1.frame.cfg)
does_tell old new (events.GiveUp n) effect d = (stay_tell old new d.1.1.sites, d.1.1.frame.cfg)
does_tell old new (events.Crash session) effect d = (stay_tell old new d.sites, d.frame.cfg)

acts_tell : (old new : State) (event : Event) (effect : Effect) → HasEffect old event effect new → StillTell old new × (new.cfg ≡ old.cfg)
acts_tell old new event effect acts =
    elim (refusal_of old event) as (λ o. MatchOption o (Does old event effect new) (λ why. Skips old event why effect new) → StillTell old new × (new.cfg ≡ old.cfg)) [
      | None ↦ λ d. does_tell old new event effect d
      | Some why ↦ λ k. (stay_tell old new k.same.sites, k.same.frame.cfg)
    ] acts

pub step_tell : (old new : State) (event : Event) → WorldStep old event new → AllTell new → AllTell old
step_tell old new event step tell =
    let mid = step.1.0 in
    let records = step.1.1.1.1 in
    let k = acts_tell old mid event step.0 step.1.1.1.0 in
    λ i l. k.0 i (stay_tell mid new records.sites i (tell i (subst (λ (c : Config). i < c.n) (sym (records.cfg ∙ k.1)) l)))

step_run : (key : List ℕ) (old new : State) (ds : List Transition) (event : Event) → WorldStep old event new → AllTell old → AreCallsListed old → AreCarried old → ArePlaced old → IsRun key old ds → (more : List Transition) × IsRun key new more
step_run key old new ds event step tell l c p run =
    let mid = step.1.0 in
    let records = step.1.1.1.1 in
    let k = acts_run key old mid ds event step.0 step.1.1.1.0 tell l c p run in
    same_run key mid new k.0 records.cfg records.sites.sites records.sessions.traces records.net records.sessions.calls records.sites.casts k.1

-- a site that holds nothing
empty_site : (key : List ℕ) (o : Option Told) (told : Told) → IfSome o IsEmpty → o ≡ Some told → IsEmpty told
empty_site key None told empty e = cc
empty_site key (Some other) told empty e = let same : other ≡ told = cc in subst IsEmpty same empty

opening_run : (key : List ℕ) (s : State) → IsOpening s → IsRun key s []
opening_run key s o = record {
  transitions = tt;
  sites = λ i told is.
      let empty = empty_site key (s.sites i) told (o.sites i) is in
      record { stored = sym (ap stored_of (empty.rows key)); used = sym empty.top; rule = subst (IfKept IsRow) (sym (empty.rows key)) tt };
  requests = λ n r there is. let bad : numbered [] n ≡ Some r = subst (λ xs. numbered xs n ≡ Some r) o.net there in let k = (numbered_place [] n r bad).1 in cc;
  casts = λ v b x i. ap (λ cs. has_cast cs key v b x i) o.casts;
  sent = λ q i. absurd i;
  begun = λ n. subst (EachTrace (IsBegunIn key [])) (sym (o.traces n)) tt;
  calls = λ j b there is. let bad : slice_get [] j ≡ Some b = subst (λ xs. slice_get xs j ≡ Some b) o.calls there in cc;
}

-- what happened to an object in a world that is reached is a run, where its sites tell what they hold
pub runs : (key : List ℕ) (s : State) → IsReached s → AllTell s → (ds : List Transition) × IsRun key s ds
runs key _ (opened s o) tell = ([], opening_run key s o)
runs key _ (stepped old new event h step) tell =
    let before = step_tell old new event step tell in
    let k = runs key old h before in
    step_run key old new k.0 event step before (listed old h) (carried old h) (placed old h) k.1
