-- A put that stores its fragments first goes on so, looks, or ends short, as its counters say.
use Rattle.std.proofs.lemmas.Option.{none-some}
use Rattle.std.proofs.Common.{◌≡◌, ℕ, zero, suc, ◌+◌, ◌<◌, ◌≤◌, List, [], Option, Some, None, option_map, refl, sym, subst, inl, inr, arith}
use Rattle.std.proofs.lemmas.Bool.{cases_lt}
use Rattle.gz_config.specs.declared.Config.{Config}
use Rattle.gz_core.specs.Calls.{key_of}
use Rattle.gz_core.specs.Configurations.{IsConfig}
use Rattle.gz_core.specs.declared.calls.Answer.TheVariants.{Short}
use Rattle.gz_core.specs.declared.requests.Out.{Out}
use Rattle.gz_core.specs.History.{Action, Caller, Trace, sent_from}
use Rattle.gz_data.specs.declared.storing.Storing.{Storing as Counts}
use Rattle.gz_round.specs.declared.run.Run.{Run}
use Rattle.gz_round.specs.Rounds.{rounds_used}
use Rattle.gz_round.specs.Standing.{Runs as RunsOn}
use Rattle.gz_round.specs.Starting.{AreRowRequests, reads_from}
use Rattle.gz_round.proofs.Phases.{phases_blobs, phases_sent}
use Rattle.gz_client.specs.Blobs.{HasStoredFirst}
use Rattle.gz_client.specs.Causes.{CannotStore}
use Rattle.gz_client.specs.Changes.{changed, counted, counted_in}
use Rattle.gz_client.specs.Running.{StoresFirst}
use Rattle.gz_client.specs.Turning.{HasCountedFirst, StandsOrEnds, TurnsBy}
use Rattle.gz_client.specs.declared.client.Client.{Client}
use Rattle.gz_client.specs.declared.running.Change.TheVariants.{Runs, Counts as CountsAre}
use Rattle.gz_client.specs.declared.running.Puts.{Puts}
use Rattle.gz_client.specs.declared.running.Running.{Running}
use Rattle.gz_client.specs.declared.running.Running.TheVariants.{Storing, Asking}
use Rattle.gz_client.proofs.Extending.{turns_quietly}
use Rattle.gz_client.proofs.Puts.{puts_rows_sent}
use Rattle.gz_client.proofs.Rules.{AreRows, first_sent, keeps_rows}
use Rattle.gz_client.proofs.Sends.{blobs_no_row, goes_undone, reads_sent, sends_rows}
use Rattle.gz_client.proofs.Sent.{blobs_unasked}

below_if : (a b : ℕ) → (b ≤ a → ⊥) → a < b
below_if a b h = elim (cases_lt a b) [
  | inl l ↦ l
  | inr l ↦ absurd (h (omega (arith, l)))
]

-- neither enough are stored, nor too many lost
pub stores_on : (client : Client) (run : Run) (puts : Puts) (n first : ℕ) (counts : Counts) (w : Caller) (past : List Trace) (ms : List Action)
    → client.running ≡ Some (Storing run puts) → (client.config.k + client.config.f ≤ counts.stored → ⊥) → (client.config.m + 1 ≤ counts.lost + client.config.f → ⊥)
    → client.round ≡ rounds_used past ms → HasCountedFirst client.config w past run (counted n counts puts) ms
    → TurnsBy client (changed client (CountsAre n counts)) first (record { send = []; answer = None }) w past ms
stores_on client run puts n first counts w past ms running few spare round h =
    let c : Config = client.config in
    let stored = below_if counts.stored (c.k + c.f) few in
    let lost = below_if (counts.lost + c.f) (c.m + 1) spare in
    let same_stored = h.fragments.counts.stored in
    let same_lost = h.fragments.counts.lost in
    let stands : StoresFirst c w past run (counted n counts puts) ms = record {
      ready = h.ready;
      look = h.look;
      going = h.going;
      put = h.put;
      order = h.order;
      only = h.only;
      fragments = h.fragments;
      unsettled = record { few = omega arith; lost = omega arith };
    } in
    turns_quietly client (changed client (CountsAre n counts)) first None w past ms refl refl refl round
    (subst (λ (r : Option Running). StandsOrEnds c w past (option_map (counted_in n counts) r) ms None) (sym running) stands) (λ e. absurd (blobs_no_row ms h.only e))

-- too many are lost
pub ends_short : (client : Client) (run : Run) (puts : Puts) (n first : ℕ) (counts : Counts) (w : Caller) (past : List Trace) (ms : List Action)
    → client.config.m + 1 ≤ counts.lost + client.config.f → client.round ≡ rounds_used past ms → HasCountedFirst client.config w past run (counted n counts puts) ms
    → TurnsBy client (changed client (Runs client.calls client.round None)) first (record { send = []; answer = Some (Short counts.stored) }) w past ms
ends_short client run puts n first counts w past ms many round h =
    let c : Config = client.config in
    let same_lost = h.fragments.counts.lost in
    let short : CannotStore c w ms = record { put = h.put; order = h.order; unasked = blobs_unasked ms h.only; lost = omega arith } in
    turns_quietly client (changed client (Runs client.calls client.round None)) first (Some (Short counts.stored)) w past ms refl refl refl round
    (h.ready.stands.allowed, (h.going, short, h.fragments.counts.stored)) (λ e. absurd (blobs_no_row ms h.only e))

pub reads_are_rows : (key : List ℕ) (s n : ℕ) → AreRows (reads_from key s n)
reads_are_rows key s zero = tt
reads_are_rows key s (suc n) = (refl, reads_are_rows key (s + 1) n)

-- enough are stored: it looks
pub looks : (client : Client) (run later : Run) (puts : Puts) (first : ℕ) (send : List Out) (w : Caller) (past : List Trace) (ms : List Action)
    → client.config.k + client.config.f ≤ puts.counts.stored → IsConfig client.config → HasCountedFirst client.config w past run puts ms
    → RunsOn client.config w past later (sent_from first send ms) → send ≡ reads_from (key_of w.call) 0 client.config.n
    → TurnsBy client (changed client (Runs client.calls later.round (Some (Asking later puts)))) first (record { send = send; answer = None }) w past ms
looks client run later puts first send w past ms enough config h runs reads = λ rules below.
    let c : Config = client.config in
    let same_stored = h.fragments.counts.stored in
    let rows : AreRows send = subst AreRows (sym reads) (reads_are_rows (key_of w.call) 0 c.n) in
    let stored : HasStoredFirst c w ms = λ put order. omega (arith, enough, same_stored) in (
      [],
      inl (inl refl),
      record {
        config_is = refl;
        session_is = refl;
        calls_are = refl;
        round_is = runs.stands.round_is;
        rules = keeps_rows c w first send ms rows stored below rules;
        stands = record { runs = runs; phases = phases_sent c w past later.stage first send ms (phases_blobs c w past later.stage ms h.only); fragments = puts_rows_sent c w puts first send ms rows h.fragments; first = first_sent c w first send ms stored };
      },
      sends_rows c ms first send None [] (subst AreRowRequests (sym reads) (reads_sent (key_of w.call) c.n (omega (arith, config.sites)))) (λ done. absurd (goes_undone [] (inl refl) done)) (λ a e other. absurd (none-some a e)) (inr runs.again),
    )
