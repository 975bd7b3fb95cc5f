-- What a client makes of what its rows came to: the call waits for its fragments, asks for those of a value, or ends by a cause.
use Rattle.std.proofs.Common.{◌≡◌, ℕ, ◌+◌, Bool, true, false, List, [], ◌∷◌, ◌++◌, length, Option, Some, None, refl, sym, ap, ◌∙◌, subst, inl, inr, arith}
use Rattle.std.proofs.lemmas.Bool.{false≢true}
use Rattle.std.proofs.lemmas.Option.{same_Some, none-some}
use Rattle.gz_config.specs.declared.Config.{Config}
use Rattle.gz_core.specs.Configurations.{IsConfig}
use Rattle.gz_core.specs.Names.{Name}
use Rattle.gz_core.specs.Calls.{key_of}
use Rattle.gz_core.specs.Puts.{PutData}
use Rattle.gz_core.specs.declared.calls.Answer.{Answer}
use Rattle.gz_core.specs.declared.calls.Answer.TheVariants.{Ok, Thin, Gone, Absent, Unborn, Collected, NoQuorum, Contended, Unsure}
use Rattle.gz_core.specs.declared.calls.Call.{Call}
use Rattle.gz_core.specs.declared.calls.Call.TheVariants.{Put, Delete, Get, GetAt, Collect}
use Rattle.gz_core.specs.declared.requests.Out.{Out}
use Rattle.gz_core.specs.declared.requests.Turn.{Turn}
use Rattle.gz_core.specs.declared.values.Value.{Value}
use Rattle.gz_core.specs.declared.values.Value.TheVariants.{Tomb, Put as PutOf}
use Rattle.gz_core.specs.History.{Action, Rested, GaveIn, Caller, Trace, IsClosing, sent_from}
use Rattle.gz_data.specs.Own.{IsOwn}
use Rattle.gz_data.specs.Gathered.{AreAsked, Gathers}
use Rattle.gz_data.specs.Requests.{gets_from, AreAdded}
use Rattle.gz_data.specs.Storing.{IsCountOf}
use Rattle.gz_data.specs.declared.storing.Storing.{Storing as Counts}
use Rattle.gz_round.specs.declared.outcome.Outcome.{Outcome as RowOutcome}
use Rattle.gz_round.specs.declared.outcome.Outcome.TheVariants.{Goes, Placed as PlacedAt, Learnt, Ends}
use Rattle.gz_round.specs.declared.run.Run.{Run}
use Rattle.gz_round.specs.Causes.{EndsBy, IsChosenOwn}
use Rattle.gz_round.specs.Counting.{IsGoing, outs}
use Rattle.gz_round.specs.Sending.{AreAllowed}
use Rattle.gz_round.specs.Standing.{AreAskedAgain}
use Rattle.gz_round.specs.Starting.{AreRowRequests, MakeNoStep, ReadAlone}
use Rattle.gz_round.proofs.Beside.{again_sent, beside_rested, beside_sent, beside_trans, going_beside, chosen_beside, noticed_beside, rounds_beside}
use Rattle.gz_round.proofs.GivingIn.{count_all}
use Rattle.gz_round.proofs.Passes.{alone_stepless}
use Rattle.gz_client.specs.Blobs.{is_put, has_asked, has_fetched}
use Rattle.gz_client.specs.Causes.{CannotStore, HasCause, IsOpen, IsPlaced}
use Rattle.gz_client.specs.Changes.{changed}
use Rattle.gz_client.specs.Running.{GathersValue, HasRows, SettlesBy, StandsFor, WaitsToStore}
use Rattle.gz_client.specs.Sends.{IsTurn, tells_chosen}
use Rattle.gz_client.specs.Traces.{AreBelow}
use Rattle.gz_client.specs.Turning.{FollowsBy, GathersFrom, HasFollowed, HasTurnedBy, IsPutValue, PlacedAnswer, PlacesBy, ReadsBy}
use Rattle.gz_client.specs.declared.client.Client.{Client}
use Rattle.gz_client.specs.declared.running.Change.{Change}
use Rattle.gz_client.specs.declared.running.Change.TheVariants.{Runs, Counts as CountsAre, Keeps}
use Rattle.gz_client.specs.declared.running.Puts.{Puts}
use Rattle.gz_client.specs.declared.running.Running.{Running}
use Rattle.gz_client.specs.declared.running.Running.TheVariants.{Storing, Asking, Placed, Gathering}
use Rattle.gz_client.proofs.Fetching.{CanFetch, fetched, fetch_gathers, fetch_rules, gets_blobs, below_after, sent_both}
use Rattle.gz_client.proofs.Puts.{puts_rested}
use Rattle.gz_client.proofs.Rules.{asked_more, can_store, keeps_rested}
use Rattle.gz_client.proofs.Sends.{again_or_out, goes_undone, gets_rising, sends_gets, sends_rows}
use Rattle.gz_client.proofs.Sent.{puts_unfetched}

-- ---- the causes of answers

-- a put that is chosen ends by a cause, where its counters end it
pub settled_cause : (c : Config) (w : Caller) (ms : List Action) (version : ℕ) (counts : Counts) (answer : Answer)
    → IsOpen c w ms → IsPlaced c w ms version → is_put w.call ≡ true → IsCountOf ms counts → SettlesBy c version counts (Some answer) → HasCause c w ms answer
settled_cause c w ms version counts (Ok u) open_still placed put count s =
    (open_still, subst (IsPlaced c w ms) (sym s.0) placed, (λ p. let same = count.stored in omega (arith, s.1)))
settled_cause c w ms version counts (Thin u told) open_still placed put count s =
    let same_stored = count.stored in
    let same_lost = count.lost in
    (open_still, subst (IsPlaced c w ms) (sym s.0) placed, record { put = put; lost = omega (arith, s.3); told_is = s.1 ∙ same_stored; few = omega (arith, s.1, s.2) })
settled_cause c w ms version counts answer open_still placed put count s = absurd s

pub put_writes : (c : Config) (name : Name) (call : Call) (own : Option Value) → IsOwn c name call own → is_put call ≡ true → IsPutValue own
put_writes c name (Put key object) own h put = (h.0, h.1)
put_writes c name (Delete key) own h put = absurd (false≢true put)
put_writes c name (Get key) own h put = absurd (false≢true put)
put_writes c name (GetAt key version) own h put = absurd (false≢true put)
put_writes c name (Collect key keep) own h put = absurd (false≢true put)

value_of : Value → Bool
value_of (Tomb name) = false
value_of (PutOf x) = true

writes_put : (c : Config) (name : Name) (call : Call) (own : Option Value) → IsOwn c name call own → IsPutValue own → is_put call ≡ true
unfolding value_of
writes_put c name (Put key object) own h x = refl
writes_put c name (Delete key) own h x = absurd (false≢true (ap value_of (same_Some (Tomb name) (PutOf x.0) (sym h ∙ x.1))))
writes_put c name (Get key) own h x = absurd (none-some (PutOf x.0) (sym h ∙ x.1))
writes_put c name (GetAt key version) own h x = absurd (none-some (PutOf x.0) (sym h ∙ x.1))
writes_put c name (Collect key keep) own h x = absurd (none-some (PutOf x.0) (sym h ∙ x.1))

-- a call whose own value is chosen ends by a cause
placed_cause : (c : Config) (w : Caller) (ms : List Action) (version : ℕ) (counts : Counts) (answer : Answer)
    → IsOpen c w ms → IsPlaced c w ms version → IsOwn c w.name w.call w.own → IsCountOf ms counts → PlacedAnswer c w.own version counts answer → HasCause c w ms answer
placed_cause c w ms version counts answer open_still placed own count (inl s) = settled_cause c w ms version counts answer open_still placed (writes_put c w.name w.call w.own own s.0) count s.1
placed_cause c w ms version counts answer open_still placed own count (inr s) =
    subst (HasCause c w ms) (sym s.1) (open_still, placed, (λ put. absurd (s.0 (put_writes c w.name w.call w.own own put))))

-- a call ends by what its rows come to
ended_cause : (c : Config) (w : Caller) (ms : List Action) (answer : Answer) → EndsBy c w ms answer → (CannotStore c w ms → ⊥) → has_fetched ms ≡ false → HasCause c w ms answer
ended_cause c w ms Absent h can unfetched = (record { going = h.0; can = can }, h.1, unfetched)
ended_cause c w ms (Unborn latest) h can unfetched = (record { going = h.0; can = can }, h.1, unfetched)
ended_cause c w ms (Collected floor) h can unfetched = (record { going = h.0; can = can }, h.1, unfetched)
ended_cause c w ms (NoQuorum phase heard) h can unfetched = (can, h, unfetched)
ended_cause c w ms (Contended m) h can unfetched = (can, h, unfetched)
ended_cause c w ms (Unsure why) h can unfetched = (can, h, unfetched)
ended_cause c w ms answer h can unfetched = absurd h

-- ---- rows that rest

-- a call that goes on didn't give in
closed_by_none : (c : Config) (closing ms : List Action) → IsConfig c → IsClosing closing → IsGoing c (closing ++ ms) → closing ≡ []
closed_by_none c closing ms config (inl none) going = none
closed_by_none c closing ms config (inr gave) going =
    let k : IsGoing c (GaveIn ∷ ms) = subst (λ cs. IsGoing c (cs ++ ms)) gave going in
    let out : outs c (GaveIn ∷ ms) ≡ c.n = count_all c.n in
    let q = config.quorums in
    absurd (omega (arith, out, k.enough, config.some, q.majority))

-- the rows of a call are done with, and rest, where its value is chosen
rows_placed : (c : Config) (w : Caller) (past : List Trace) (ms : List Action) (v : ℕ) → AreAllowed c w past ms → IsGoing c ms → has_asked ms ≡ true → IsChosenOwn c w ms v → HasRows c w past (Rested ∷ ms)
rows_placed c w past ms v allowed going asked chosen = record {
  allowed = (inl (v, chosen), allowed);
  going = going_beside c ms (Rested ∷ ms) (beside_rested ms) going;
  asked = asked_more Rested ms asked;
  rests = λ s. refl;
}

-- ---- the client turns

-- a put that is chosen waits
placed_waits : (client : Client) (run : Run) (puts : Puts) (version first : ℕ) (send : List Out) (calls round : ℕ) (running : Running) (turn : Turn) (w : Caller) (past : List Trace) (ms : List Action)
    → AreRowRequests send → MakeNoStep send → HasFollowed client.config w past run puts [] (sent_from first send ms) (PlacedAt version) → PlacesBy client run puts version send (Runs calls round (Some running)) turn
    → FollowsBy client (changed client (Runs calls round (Some running))) first turn w past [] ms
placed_waits client run puts version first send calls round running turn w past ms sent stepless h p =
    let c : Config = client.config in
    let ns : List Action = sent_from first send ms in
    let done = h.turned in
    let counts = h.fragments.counts in
    let same_stored = counts.stored in
    let same_lost = counts.lost in
    let few = p.5.0 in
    let spare = p.5.1 in
    let waits : WaitsToStore c w past version puts (Rested ∷ ns) = record {
      rows = rows_placed c w past ns version done.allowed done.comes.0 h.asked done.comes.1;
      placed = record { chosen = chosen_beside c w ns (Rested ∷ ns) version (beside_rested ns) done.comes.1; noticed = noticed_beside c w ns (Rested ∷ ns) version (beside_rested ns) done.comes.2 };
      put = writes_put c w.name w.call w.own h.own (subst IsPutValue done.own_is p.4);
      fragments = puts_rested c w puts ns h.fragments;
      unsettled = record { few = omega arith; lost = omega arith };
    } in (
      Rested ∷ [],
      inr refl,
      subst (λ (t : Turn). HasTurnedBy client (changed client (Runs calls round (Some running))) w past (Rested ∷ sent_from first t.send ms) t.answer) (sym p.2) (record {
        config_is = refl;
        session_is = refl;
        calls_are = p.0;
        round_is = p.1 ∙ done.round_is;
        rules = keeps_rested c w ns h.rules;
        stands = subst (λ (r : Running). StandsFor c w past r (Rested ∷ ns)) (sym p.3) waits;
      }),
      subst (λ (t : Turn). IsTurn c ms first t (Rested ∷ [])) (sym p.2) (sends_rows c ms first send None (Rested ∷ []) sent (λ done. stepless) (λ a e other. absurd (none-some a e)) (inr done.reads)),
    )

settles_tells : (c : Config) (v : ℕ) (counts : Counts) (answer : Answer) → SettlesBy c v counts (Some answer) → tells_chosen answer ≡ true
settles_tells c v counts (Ok u) h = refl
settles_tells c v counts (Thin u told) h = refl
settles_tells c v counts answer h = absurd h

-- the answer of a call whose own value is chosen says so
placed_tells : (c : Config) (own : Option Value) (v : ℕ) (counts : Counts) (answer : Answer) → PlacedAnswer c own v counts answer → tells_chosen answer ≡ true
placed_tells c own v counts answer (inl h) = settles_tells c v counts answer h.1
placed_tells c own v counts answer (inr h) = ap tells_chosen h.1

-- a call whose own value is chosen ends
placed_ends : (client : Client) (run : Run) (puts : Puts) (version first : ℕ) (send : List Out) (calls round : ℕ) (turn : Turn) (w : Caller) (past : List Trace) (closing ms : List Action)
    → AreRowRequests send → MakeNoStep send → HasFollowed client.config w past run puts closing (sent_from first send ms) (PlacedAt version) → PlacesBy client run puts version send (Runs calls round None) turn
    → FollowsBy client (changed client (Runs calls round None)) first turn w past closing ms
placed_ends client run puts version first send calls round turn w past closing ms sent stepless h p =
    let c : Config = client.config in
    let ns : List Action = closing ++ sent_from first send ms in
    let done = h.turned in
    let own : PlacedAnswer c w.own version puts.counts p.2.0 = subst (λ (o : Option Value). PlacedAnswer c o version puts.counts p.2.0) done.own_is p.2.2 in (
      closing,
      inl h.closing_is,
      subst (λ (t : Turn). HasTurnedBy client (changed client (Runs calls round None)) w past (closing ++ sent_from first t.send ms) t.answer) (sym p.2.1) (record {
        config_is = refl;
        session_is = refl;
        calls_are = p.0;
        round_is = p.1 ∙ done.round_is;
        rules = h.rules;
        stands = (
          done.allowed,
          placed_cause c w ns version puts.counts p.2.0 (record { going = done.comes.0; can = can_store c w ns h.asked }) (record { chosen = done.comes.1; noticed = done.comes.2 }) h.own h.fragments.counts own,
        );
      }),
      subst (λ (t : Turn). IsTurn c ms first t closing) (sym p.2.1) (sends_rows c ms first send (Some p.2.0) closing sent (λ done. stepless) (λ a e other. absurd (false≢true (sym other ∙ ap tells_chosen (sym (same_Some p.2.0 a e)) ∙ placed_tells c run.own version puts.counts p.2.0 p.2.2))) (again_or_out c closing (sent_from first send ms) h.closing_is done.reads)),
    )

pub follows_placed : (client : Client) (run : Run) (puts : Puts) (version first : ℕ) (send : List Out) (change : Change) (turn : Turn) (w : Caller) (past : List Trace) (closing ms : List Action)
    → AreRowRequests send → MakeNoStep send → HasFollowed client.config w past run puts closing (sent_from first send ms) (PlacedAt version) → PlacesBy client run puts version send change turn
    → FollowsBy client (changed client change) first turn w past closing ms
follows_placed client run puts version first send (Runs calls round (Some running)) turn w past closing ms sent stepless h p =
    let none : closing ≡ [] = closed_by_none client.config closing (sent_from first send ms) h.sizes h.closing_is h.turned.comes.0 in
    subst (λ (cs : List Action). HasFollowed client.config w past run puts cs (sent_from first send ms) (PlacedAt version) → FollowsBy client (changed client (Runs calls round (Some running))) first turn w past cs ms) (sym none)
    (λ k. placed_waits client run puts version first send calls round running turn w past ms sent stepless k p) h
follows_placed client run puts version first send (Runs calls round None) turn w past closing ms sent stepless h p = placed_ends client run puts version first send calls round turn w past closing ms sent stepless h p
follows_placed client run puts version first send (CountsAre n counts) turn w past closing ms sent stepless h p = absurd p
follows_placed client run puts version first send (Keeps n came) turn w past closing ms sent stepless h p = absurd p

-- a call goes on
pub follows_on : (client : Client) (run : Run) (puts : Puts) (first : ℕ) (send : List Out) (w : Caller) (past : List Trace) (closing ms : List Action)
    → AreRowRequests send → HasFollowed client.config w past run puts closing (sent_from first send ms) Goes
    → FollowsBy client (changed client (Runs client.calls run.round (Some (Asking run puts)))) first (record { send = send; answer = None }) w past closing ms
follows_on client run puts first send w past closing ms sent h = (
  closing,
  inl h.closing_is,
  record {
    config_is = refl;
    session_is = refl;
    calls_are = refl;
    round_is = h.turned.stands.round_is;
    rules = h.rules;
    stands = record { runs = h.turned; phases = h.phases refl; fragments = h.fragments; first = h.first };
  },
  sends_rows client.config ms first send None closing sent (λ done. absurd (goes_undone closing h.closing_is done)) (λ a e other. absurd (none-some a e)) (again_or_out client.config closing (sent_from first send ms) h.closing_is h.turned.again),
)

-- a call ends by its rows
pub follows_ended : (client : Client) (run : Run) (puts : Puts) (answer : Answer) (first : ℕ) (send : List Out) (w : Caller) (past : List Trace) (closing ms : List Action)
    → AreRowRequests send → ReadAlone send → HasFollowed client.config w past run puts closing (sent_from first send ms) (Ends answer)
    → FollowsBy client (changed client (Runs client.calls run.round None)) first (record { send = send; answer = Some answer }) w past closing ms
follows_ended client run puts answer first send w past closing ms sent alone h =
    let c : Config = client.config in
    let ns : List Action = closing ++ sent_from first send ms in (
      closing,
      inl h.closing_is,
      record {
        config_is = refl;
        session_is = refl;
        calls_are = refl;
        round_is = h.turned.round_is;
        rules = h.rules;
        stands = (h.turned.allowed, ended_cause c w ns answer h.turned.comes (can_store c w ns h.asked) (puts_unfetched c w puts ns h.fragments));
      },
      sends_rows c ms first send (Some answer) closing sent (λ done. alone_stepless send alone) (λ a e other. alone) (again_or_out c closing (sent_from first send ms) h.closing_is h.turned.reads),
    )

-- a call that learnt the value of a delete ends
pub follows_gone : (client : Client) (run : Run) (puts : Puts) (version : ℕ) (name : Name) (first : ℕ) (send : List Out) (w : Caller) (past : List Trace) (closing ms : List Action)
    → AreRowRequests send → ReadAlone send → HasFollowed client.config w past run puts closing (sent_from first send ms) (Learnt version (Tomb name))
    → FollowsBy client (changed client (Runs client.calls run.round None)) first (record { send = send; answer = Some (Gone version name) }) w past closing ms
follows_gone client run puts version name first send w past closing ms sent alone h =
    let c : Config = client.config in
    let ns : List Action = closing ++ sent_from first send ms in (
      closing,
      inl h.closing_is,
      record {
        config_is = refl;
        session_is = refl;
        calls_are = refl;
        round_is = h.turned.round_is;
        rules = h.rules;
        stands = (h.turned.allowed, (record { going = h.turned.comes.0; can = can_store c w ns h.asked }, h.turned.comes.1, puts_unfetched c w puts ns h.fragments));
      },
      sends_rows c ms first send (Some (Gone version name)) closing sent (λ done. alone_stepless send alone) (λ a e other. alone) (again_or_out c closing (sent_from first send ms) h.closing_is h.turned.reads),
    )

-- a call that learnt a put's value gathers it
fetches : (client : Client) (run : Run) (puts : Puts) (version : ℕ) (put : PutData) (first : ℕ) (send sends : List Out) (running : Running) (w : Caller) (past : List Trace) (ms : List Action)
    → AreRowRequests send → ReadAlone send → HasFollowed client.config w past run puts [] (sent_from first send ms) (Learnt version (PutOf put)) → AreBelow first ms → GathersFrom run.key version put first send sends running
    → FollowsBy client (changed client (Runs client.calls run.round (Some running))) first (record { send = sends; answer = None }) w past [] ms
fetches client run puts version put first send sends (Gathering k g awaited) w past ms sent alone h below p =
    let c : Config = client.config in
    let key : List ℕ = key_of w.call in
    let ns : List Action = sent_from first send ms in
    let n : ℕ = first + length send in
    let done = h.turned in
    let can : CanFetch c w past puts g.version g.value ns = subst (λ (x : PutData). CanFetch c w past puts g.version x ns) (sym p.2) (subst (λ (v : ℕ). CanFetch c w past puts v put ns) (sym p.1) (record {
      allowed = done.allowed;
      going = done.comes.0;
      asked = h.asked;
      learnt = done.comes.1;
      fragments = h.fragments;
      rules = h.rules;
      well = p.3;
    })) in
    let gathers : (os : List Action) → AreAsked key g.value os → Gathers key os g =
    subst (λ (q : List ℕ). (os : List Action) → AreAsked q g.value os → Gathers q os g) done.key_is
    (subst (λ (x : PutData). (os : List Action) → AreAsked run.key x os → Gathers run.key os g) (sym p.2) p.5) in
    let added : AreAdded first send sends awaited (gets_from g.value.name key 0 g.value.fragments) =
    subst (λ (q : List ℕ). AreAdded first send sends awaited (gets_from g.value.name q 0 g.value.fragments)) done.key_is
    (subst (λ (x : PutData). AreAdded first send sends awaited (gets_from x.name run.key 0 x.fragments)) (sym p.2) p.6) in
    let later : AreBelow n ns = below_after first send ms below in
    let later_sent : sent_from first sends ms ≡ fetched w n g.value ns = ap (λ (s : List Out). sent_from first s ms) added.sent ∙ sent_both first send (gets_from g.value.name key 0 g.value.fragments) ms in
    let beside = beside_trans ns (fetched w n g.value ns) (Rested ∷ fetched w n g.value ns)
    (beside_sent n (gets_from g.value.name key 0 g.value.fragments) ns (gets_blobs g.value.name key 0 g.value.fragments)) (beside_rested (fetched w n g.value ns)) in (
      Rested ∷ [],
      inr refl,
      subst (λ (os : List Action). HasTurnedBy client (changed client (Runs client.calls run.round (Some (Gathering k g awaited)))) w past (Rested ∷ os) None) (sym later_sent) (record {
        config_is = refl;
        session_is = refl;
        calls_are = refl;
        round_is = done.round_is ∙ sym (rounds_beside past ns (Rested ∷ fetched w n g.value ns) beside);
        rules = keeps_rested c w (fetched w n g.value ns) (fetch_rules c w past puts g.version n g.value ns can later);
        stands = subst (λ (q : List ℕ). GathersValue c w past q g awaited (Rested ∷ fetched w n g.value ns)) (sym (p.0 ∙ done.key_is))
            (fetch_gathers c w past puts n g awaited ns can later p.4 gathers added.awaited_is added.count);
      }),
      sends_gets c ms first send sends (gets_from g.value.name key 0 g.value.fragments) None (Rested ∷ []) sent alone added.sent (gets_rising g.value.name key 0 g.value.fragments)
          (subst (AreAskedAgain c) (sym later_sent) (again_sent c n (gets_from g.value.name key 0 g.value.fragments) ns (gets_blobs g.value.name key 0 g.value.fragments) done.reads)),
    )
fetches client run puts version put first send sends (Storing r q) w past ms sent alone h below p = absurd p
fetches client run puts version put first send sends (Asking r q) w past ms sent alone h below p = absurd p
fetches client run puts version put first send sends (Placed v q) w past ms sent alone h below p = absurd p

-- a call that learnt a value ends, or gathers it
pub follows_learnt : (client : Client) (run : Run) (puts : Puts) (version : ℕ) (value : Value) (first : ℕ) (send : List Out) (change : Change) (turn : Turn) (w : Caller) (past : List Trace) (closing ms : List Action)
    → AreRowRequests send → ReadAlone send → HasFollowed client.config w past run puts closing (sent_from first send ms) (Learnt version value) → AreBelow first ms → ReadsBy client run version value first send change turn
    → FollowsBy client (changed client change) first turn w past closing ms
follows_learnt client run puts version (Tomb name) first send change turn w past closing ms sent alone h below p =
    subst (λ (t : Turn). FollowsBy client (changed client change) first t w past closing ms) (sym p.1)
    (subst (λ (k : Change). FollowsBy client (changed client k) first (record { send = send; answer = Some (Gone version name) }) w past closing ms) (sym p.0)
    (follows_gone client run puts version name first send w past closing ms sent alone h))
follows_learnt client run puts version (PutOf put) first send change turn w past closing ms sent alone h below p =
    let none : closing ≡ [] = closed_by_none client.config closing (sent_from first send ms) h.sizes h.closing_is h.turned.comes.0 in
    let here : HasFollowed client.config w past run puts [] (sent_from first send ms) (Learnt version (PutOf put)) =
    subst (λ (cs : List Action). HasFollowed client.config w past run puts cs (sent_from first send ms) (Learnt version (PutOf put))) none h in
    let goes = fetches client run puts version put first send turn.send p.0 w past ms sent alone here below p.3 in
    subst (λ (cs : List Action). FollowsBy client (changed client change) first turn w past cs ms) (sym none)
    (subst (λ (k : Change). FollowsBy client (changed client k) first turn w past [] ms) (sym p.1)
    (subst (λ (o : Option Answer). FollowsBy client (changed client (Runs client.calls run.round (Some p.0))) first (record { send = turn.send; answer = o }) w past [] ms) (sym p.2) goes))
