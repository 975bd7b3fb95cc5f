-- What a running call keeps shows that it goes on, and a client that turned stands for its traces.
use Rattle.std.proofs.Common.{◌≡◌, ℕ, suc, ◌+◌, ◌<◌, ◌^◌, true, List, [], ◌∷◌, length, Option, Some, None, is_some, option_map, refl, sym, ap, ◌∙◌, subst, inl, inr, ◌⊎◌, arith}
use Rattle.std.specs.Prelude.{not, slice_get}
use Rattle.std.specs.List.{All, Contains}
use Rattle.std.proofs.lemmas.Bool.{cases_lt}
use Rattle.std.proofs.lemmas.Option.{same_Some, none-some, slice_get_within}
use Rattle.std.proofs.lemmas.List.Elements.{All-nil, All-cons}
use Rattle.gz_config.specs.declared.Config.{Config}
use Rattle.gz_core.specs.Awaiting.{awaiting, without_rows, AreInTurn}
use Rattle.gz_core.specs.Blobs.{BlobAt}
use Rattle.gz_core.specs.Configurations.{IsConfig}
use Rattle.gz_core.specs.declared.fates.Fate.{Fate}
use Rattle.gz_core.specs.declared.calls.Answer.{Answer}
use Rattle.gz_core.specs.History.{Asked, Action, Caller, Trace, is_row_request}
use Rattle.gz_core.proofs.Awaited.{contains_filter, contains_none}
use Rattle.gz_data.specs.Blobs.{Outcome, is_put_blob, blob_now, blob_at, fate_by, fate_now, wholes}
use Rattle.gz_data.specs.Gathered.{GatheredAt, IsGathered, Gathers, IsOver}
use Rattle.gz_data.specs.Own.{IsOwn}
use Rattle.gz_data.specs.Whole.{Piece}
use Rattle.gz_data.specs.declared.requests.AwaitedBlob.{AwaitedBlob}
use Rattle.gz_data.proofs.Blobs.{puts_counted, asked_comes}
use Rattle.gz_round.specs.Rounds.{rounds_used}
use Rattle.gz_round.specs.Sending.{AreAllowed}
use Rattle.gz_client.specs.Blobs.{is_put}
use Rattle.gz_client.specs.Causes.{CannotStore, IsOpen, IsUnsettled}
use Rattle.gz_client.specs.Running.{StandsFor, PutsStand, GathersValue}
use Rattle.gz_client.specs.Going.{GathersFragments, HasWork, AwaitsSome, GoesOn}
use Rattle.gz_client.specs.Traces.{Holds, AllKeepRules, AreOver, AreBelow}
use Rattle.gz_client.specs.Turning.{KeepsBlobRules, StandsOrEnds}
use Rattle.gz_client.specs.declared.running.Puts.{Puts}
use Rattle.gz_client.specs.declared.running.Running.{Running}
use Rattle.gz_client.specs.declared.running.Running.TheVariants.{Storing, Asking, Placed, Gathering}
use Rattle.gz_client.proofs.Counted.{counted_some}
use Rattle.gz_client.proofs.Rules.{asked_awaits, can_store}
use Rattle.gz_client.proofs.Sent.{put_not_row, about_not_row, blobs_unasked, puts_unfetched}

-- ---- a call that runs is allowed what it did, and could go on

pub allowed_of : (c : Config) (w : Caller) (past : List Trace) (running : Running) (ms : List Action) → StandsFor c w past running ms → AreAllowed c w past ms
allowed_of c w past (Storing run puts) ms h = h.ready.stands.allowed
allowed_of c w past (Asking run puts) ms h = h.runs.stands.allowed
allowed_of c w past (Placed version puts) ms h = h.rows.allowed
allowed_of c w past (Gathering key g awaited) ms h = h.rows.allowed

unsettled_can : (c : Config) (w : Caller) (ms : List Action) → IsUnsettled c ms → CannotStore c w ms → ⊥
unsettled_can c w ms h short = let few = h.lost in let many = short.lost in absurd (omega arith)

pub open_of : (c : Config) (w : Caller) (past : List Trace) (running : Running) (ms : List Action) → StandsFor c w past running ms → IsOpen c w ms
open_of c w past (Storing run puts) ms h = record { going = h.going; can = unsettled_can c w ms h.unsettled }
open_of c w past (Asking run puts) ms h = record { going = h.runs.going; can = can_store c w ms (asked_awaits ms h.runs.waits.0 h.runs.waits.1 h.runs.waits.3) }
open_of c w past (Placed version puts) ms h = record { going = h.rows.going; can = can_store c w ms h.rows.asked }
open_of c w past (Gathering key g awaited) ms h = record { going = h.rows.going; can = can_store c w ms h.rows.asked }

-- ---- and awaits a request

-- a request for a blob that is awaited
AwaitsBlob : List Action → Type 0
AwaitsBlob ms = (a : Asked) × Contains (without_rows (awaiting ms)) a

-- a put that isn't settled awaits a request
put_awaits : (c : Config) (w : Caller) (puts : Puts) (ms : List Action) → AreInTurn ms → is_put w.call ≡ true → PutsStand c w puts ms → IsUnsettled c ms → AwaitsBlob ms
unfolding AwaitsBlob
put_awaits c w puts ms turn put h unsettled =
    let counted = puts_counted ms turn in
    let all = h.all put in
    let few = unsettled.few in
    let lost = unsettled.lost in
    let found = counted_some (λ (a : Asked). is_put_blob a.op) (awaiting ms) (omega arith) in
    (found.0, contains_filter (λ (a : Asked). not (is_row_request a.op)) (awaiting ms) found.0 found.1 (ap not (put_not_row found.0.op found.2)))

-- either something came of each fragment, or nothing did of one
each_or_one : (fates : List (Option Fate)) → All (λ (fate : Option Fate). is_some fate ≡ true) fates ⊎ ((i : ℕ) × (slice_get fates i ≡ Some None))
each_or_one [] = inl (All-nil (λ (fate : Option Fate). is_some fate ≡ true))
each_or_one (None ∷ fates) = inr (0, refl)
each_or_one (Some fate ∷ fates) = elim (each_or_one fates) [
  | inl all ↦ inl (All-cons (λ (f : Option Fate). is_some f ≡ true) (Some fate) fates refl all)
  | inr one ↦ inr (suc one.0, one.1)
]

no_fate : (key : List ℕ) (g : GatheredAt) (i : ℕ) (o : Option Outcome) → option_map (fate_by key g.value i) o ≡ None → o ≡ None
no_fate key g i None e = refl
no_fate key g i (Some outcome) e = absurd (none-some (fate_by key g.value i outcome) (sym e))

-- a call that gathers awaits a request
get_awaits : (key : List ℕ) (g : GatheredAt) (ms : List Action) → AreInTurn ms → IsGathered g → Gathers key ms g → (IsOver g → ⊥) → AwaitsBlob ms
unfolding AwaitsBlob
get_awaits key g ms turn rules gathers lacks = elim (each_or_one g.fates) [
  | inl all ↦ absurd (lacks (inr all))
  | inr one ↦
      let inside : one.0 < g.value.k + g.value.m = omega (arith, slice_get_within g.fates one.0 None one.1, rules.count) in
      let none : fate_now key g.value ms one.0 ≡ None = same_Some (fate_now key g.value ms one.0) None (sym (gathers.fates one.0 inside) ∙ one.1) in
      let b : BlobAt = blob_at key g.value one.0 in
      let found = asked_comes ms b turn (gathers.asked one.0 inside) (no_fate key g one.0 (blob_now ms b).outcome none) in
      (found.0, contains_filter (λ (a : Asked). not (is_row_request a.op)) (awaiting ms) found.0 found.1 (ap not (about_not_row b found.0.op found.2)))
]

pub awaits_of : (c : Config) (w : Caller) (past : List Trace) (running : Running) (ms : List Action) → AreInTurn ms → StandsFor c w past running ms → AwaitsSome c ms
unfolding AwaitsBlob
awaits_of c w past (Storing run puts) ms turn h = inr (put_awaits c w puts ms turn h.put h.fragments h.unsettled)
awaits_of c w past (Asking run puts) ms turn h = inl h.runs.waits
awaits_of c w past (Placed version puts) ms turn h = inr (put_awaits c w puts ms turn h.put h.fragments h.unsettled)
awaits_of c w past (Gathering key g awaited) ms turn h = inr (get_awaits key g ms turn h.rules h.gathers h.lacks)

-- ---- and has work

pub few_whole : (g : GatheredAt) → IsGathered g → (IsOver g → ⊥) → length g.pieces < g.value.k
few_whole g rules lacks = elim (cases_lt (length g.pieces) g.value.k) [
  | inl l ↦ l
  | inr l ↦ absurd (lacks (inl (omega (arith, l, rules.few))))
]

gathers_work : (c : Config) (w : Caller) (past : List Trace) (key : List ℕ) (g : GatheredAt) (awaited : List AwaitedBlob) (ms : List Action) → AreInTurn ms
    → GathersValue c w past key g awaited ms → GathersFragments c w ms
unfolding AwaitsBlob
gathers_work c w past key g awaited ms turn h =
    let blob = get_awaits key g ms turn h.rules h.gathers h.lacks in
    record {
      version = g.version;
      value = g.value;
      rests = h.rows.rests;
      learnt = h.learnt;
      asked = λ (i : ℕ) (l : i < g.value.k + g.value.m). subst (λ k. (blob_now ms (blob_at k g.value i)).asked ≡ true) h.key_is (h.gathers.asked i l);
      few = subst (λ k. length (wholes k g.value ms) < g.value.k) h.key_is (subst (λ (ps : List Piece). length ps < g.value.k) h.gathers.pieces (few_whole g h.rules h.lacks));
      waits = λ (e : without_rows (awaiting ms) ≡ []). contains_none blob.0 (subst (λ (rs : List Asked). Contains rs blob.0) e blob.1);
    }

work_of : (c : Config) (w : Caller) (past : List Trace) (running : Running) (ms : List Action) → AreInTurn ms → StandsFor c w past running ms → HasWork c w past ms
work_of c w past (Storing run puts) ms turn h = inl (record { put = h.put; order = h.order; unasked = blobs_unasked ms h.only; unsettled = h.unsettled })
work_of c w past (Asking run puts) ms turn h = inr (inl (record { run = run; runs = h.runs; phases = h.phases; unfetched = puts_unfetched c w puts ms h.fragments; first = h.first }))
work_of c w past (Placed version puts) ms turn h = inr (inr (inl (record { version = version; rests = h.rows.rests; placed = h.placed; put = h.put; unsettled = h.unsettled })))
work_of c w past (Gathering key g awaited) ms turn h = inr (inr (inr (gathers_work c w past key g awaited ms turn h)))

pub goes_on : (c : Config) (w : Caller) (past : List Trace) (running : Running) (ms : List Action) → AreInTurn ms → StandsFor c w past running ms → GoesOn c w past ms
goes_on c w past running ms turn h = record { open_still = open_of c w past running ms h; awaits = awaits_of c w past running ms turn h; work = work_of c w past running ms turn h }

-- ---- a client that turned

-- what the traces want of a client that turned, whose newest call has done this
pub record CanHold (c : Config) (session : ℕ) (w : Caller) (ts : List Trace) (ms : List Action) (calls round next : ℕ) : Type 0 where
  pub sizes : IsConfig c
  pub count : calls ≡ length ts + 1
  pub named : w.name ≡ record { session = session; seq = length ts + 1 }
  pub own : IsOwn c w.name w.call w.own
  pub told : AllKeepRules c session ts
  pub over : AreOver ts
  pub rules : KeepsBlobRules c w ms
  pub below : AreBelow next ms
  pub round_is : round ≡ rounds_used ts ms
  pub low : round < 2 ^ 31 + next

pub turned_holds : (c : Config) (session : ℕ) (w : Caller) (ts : List Trace) (running : Option Running) (ms : List Action) (answer : Option Answer) (calls round next : ℕ)
    → CanHold c session w ts ms calls round next → StandsOrEnds c w ts running ms answer
    → Holds (record { config = c; session = session; calls = calls; round = round; running = running }) next (record { caller = w; actions = ms; answer = answer } ∷ ts)
turned_holds c session w ts (Some running) ms None calls round next h stands = record {
  sizes = h.sizes;
  calls_are = h.count ∙ omega arith;
  round_is = let is = h.round_is in omega arith;
  round_low = h.low;
  told = (
    record {
      own = h.own;
      allowed = allowed_of c w ts running ms stands;
      blobs = h.rules.blobs;
      once = h.rules.once;
      in_turn = h.rules.in_turn;
      first = h.rules.first;
      answered = goes_on c w ts running ms h.rules.in_turn stands;
    },
    h.named,
    h.told,
  );
  run_is = (refl, stands, h.below, h.over);
}
turned_holds c session w ts None ms (Some answer) calls round next h stands = record {
  sizes = h.sizes;
  calls_are = h.count ∙ omega arith;
  round_is = let is = h.round_is in omega arith;
  round_low = h.low;
  told = (
    record { own = h.own; allowed = stands.0; blobs = h.rules.blobs; once = h.rules.once; in_turn = h.rules.in_turn; first = h.rules.first; answered = stands.1 },
    h.named,
    h.told,
  );
  run_is = ((answer, refl), h.over);
}
turned_holds c session w ts (Some running) ms (Some answer) calls round next h stands = absurd stands
turned_holds c session w ts None ms None calls round next h stands = absurd stands
