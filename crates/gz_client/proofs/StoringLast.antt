-- A put that is chosen waits for its fragments, or ends, as its counters say.
use Rattle.std.proofs.Common.{◌≡◌, ℕ, List, [], Option, Some, None, option_map, refl, sym, subst, arith}
use Rattle.gz_config.specs.declared.Config.{Config}
use Rattle.gz_core.specs.declared.calls.Answer.{Answer}
use Rattle.gz_core.specs.History.{Action, Caller, Trace}
use Rattle.gz_data.specs.declared.storing.Storing.{Storing as Counts}
use Rattle.gz_round.specs.Rounds.{rounds_used}
use Rattle.gz_client.specs.Changes.{changed, counted, counted_in}
use Rattle.gz_client.specs.Running.{SettlesBy, WaitsToStore}
use Rattle.gz_client.specs.Turning.{HasCountedLast, StandsOrEnds, TurnsBy}
use Rattle.gz_client.specs.declared.client.Client.{Client}
use Rattle.gz_client.specs.declared.running.Change.TheVariants.{Runs, Counts as CountsAre}
use Rattle.gz_client.specs.declared.running.Puts.{Puts}
use Rattle.gz_client.specs.declared.running.Running.{Running}
use Rattle.gz_client.specs.declared.running.Running.TheVariants.{Placed}
use Rattle.gz_client.proofs.Extending.{turns_quietly}
use Rattle.gz_client.proofs.Following.{settled_cause}
use Rattle.gz_client.proofs.Rules.{can_store}

-- neither enough are stored, nor too many lost
pub waits_on : (client : Client) (version : ℕ) (puts : Puts) (n first : ℕ) (counts : Counts) (w : Caller) (past : List Trace) (ms : List Action)
    → client.running ≡ Some (Placed version puts) → SettlesBy client.config version counts None → client.round ≡ rounds_used past ms → HasCountedLast client.config w past version (counted n counts puts) ms
    → TurnsBy client (changed client (CountsAre n counts)) first (record { send = []; answer = None }) w past ms
waits_on client version puts n first counts w past ms running settles round h =
    let c : Config = client.config in
    let few = settles.0 in
    let spare = settles.1 in
    let same_stored = h.fragments.counts.stored in
    let same_lost = h.fragments.counts.lost in
    let stands : WaitsToStore c w past version (counted n counts puts) ms = record {
      rows = h.rows;
      placed = h.placed;
      put = h.put;
      fragments = h.fragments;
      unsettled = record { few = omega arith; lost = omega arith };
    } in
    turns_quietly client (changed client (CountsAre n counts)) first None w past ms refl refl refl round
    (subst (λ (r : Option Running). StandsOrEnds c w past (option_map (counted_in n counts) r) ms None) (sym running) stands) (λ row. absurd (h.told row))

-- its counters end it
pub settles_so : (client : Client) (version : ℕ) (puts : Puts) (n first : ℕ) (counts : Counts) (answer : Answer) (w : Caller) (past : List Trace) (ms : List Action)
    → SettlesBy client.config version counts (Some answer) → client.round ≡ rounds_used past ms → HasCountedLast client.config w past version (counted n counts puts) ms
    → TurnsBy client (changed client (Runs client.calls client.round None)) first (record { send = []; answer = Some answer }) w past ms
settles_so client version puts n first counts answer w past ms settles round h =
    let c : Config = client.config in
    turns_quietly client (changed client (Runs client.calls client.round None)) first (Some answer) w past ms refl refl refl round
    (h.rows.allowed, settled_cause c w ms version counts answer (record { going = h.rows.going; can = can_store c w ms h.rows.asked }) h.placed h.put h.fragments.counts settles) (λ row. absurd (h.told row))
