-- What happens beside the rows of a call, once they are done with or while they wait: requests for blobs, and that its row requests
-- rest. What was heard and sent of rows stays, and so does what they come to.
use Rattle.std.proofs.Common.{◌≡◌, ℕ, ◌+◌, ◌<◌, ◌≤◌, max, Bool, true, false, ◌==◌, cond, List, [], ◌∷◌, Some, None, is_some, refl, sym, ap, ◌∙◌, inl, inr, arith, leb}
use Rattle.gz_core.specs.Names.{Name}
use Rattle.gz_core.specs.Values.{name_of}
use Rattle.gz_core.specs.Rows.{RowAt}
use Rattle.gz_core.specs.declared.values.Value.{Value}
use Rattle.gz_core.specs.declared.calls.Answer.{Answer}
use Rattle.gz_core.specs.declared.calls.Answer.TheVariants.{Absent, Unborn, Collected, NoQuorum, Contended, Unsure}
use Rattle.gz_core.specs.declared.calls.UnsureWhy.{UnsureWhy}
use Rattle.gz_core.specs.declared.calls.UnsureWhy.TheVariants.{NoQuorum as UnsureNoQuorum, Contended as UnsureContended, Trimmed as UnsureTrimmed}
use Rattle.gz_core.specs.declared.calls.Phase.{Phase}
use Rattle.gz_config.specs.declared.Config.{Config}
use Rattle.gz_core.specs.declared.requests.Out.{Out}
use Rattle.gz_pick.specs.Looks.{row_top}
use Rattle.gz_pick.specs.Evidences.{votes_for, decides}
use Rattle.gz_round.specs.declared.run.Run.{Run}
use Rattle.gz_round.specs.declared.outcome.Outcome.{Outcome}
use Rattle.gz_round.specs.declared.outcome.Outcome.TheVariants.{Goes, Placed, Learnt, Ends}
use Rattle.gz_core.specs.History.{Asked, Action, Sent, Rested, Caller, Trace, is_row_request, asked_of, sent_from}
use Rattle.gz_round.specs.Sites.{SiteNow, site_now, known, row_seen, is_about_rows, AreBlobs, WasHeard}
use Rattle.gz_round.specs.Sent.{met, voted, last_vote, phase_of, top_round, promise_by, IsUnpromised}
use Rattle.gz_round.specs.Shown.{heard_at, IsShown, IsCurrent, IsQuorumHeard, HasFloor, IsValueHeard}
use Rattle.gz_round.specs.Targets.{target_of}
use Rattle.gz_round.specs.Rounds.{top_rounds, rounds_used}
use Rattle.gz_round.specs.Sending.{AreAllowed, MayRest}
use Rattle.gz_round.specs.Counting.{outs, known_count, IsGoing, WasSent, IsNoticed}
use Rattle.gz_round.specs.Causes.{EndsBy, ComesTo, IsChosenOwn, IsLearnt, IsUnborn, IsCutOff, IsOvertaken, UnsureCause, is_blank}
use Rattle.gz_round.specs.Standing.{Runs, AreAskedAgain}
use Rattle.gz_round.specs.Following.{Ready, AreDone}
use Rattle.gz_round.proofs.Lists.{count_same}
use Rattle.gz_round.proofs.Heard.{heard_at_more}
use Rattle.gz_round.proofs.Askable.{ahead_askable}
use Rattle.gz_round.proofs.Targets.{asked_by}
use Rattle.gz_round.proofs.Known.{evidence_same}
use Rattle.gz_round.proofs.Votes.{voted_last}
use Rattle.gz_round.proofs.Stages.{unpromised_more}
use Rattle.gz_round.proofs.Blobs.{blob_site, blob_met, blob_vote, blob_phase, blob_round, blob_unsent, blob_allowed, blob_ready, blob_again, blob_runs}

-- nothing of rows has happened in between, but that row requests may rest
pub record IsBeside (ms ns : List Action) : Type 0 where
  pub row : (s : ℕ) → (site_now ns s).row ≡ (site_now ms s).row
  pub out : (s : ℕ) → (site_now ns s).out ≡ (site_now ms s).out
  pub unanswered : (s : ℕ) → (site_now ns s).unanswered ≡ (site_now ms s).unanswered
  pub met : met ns ≡ met ms
  pub vote : (x : Name) → last_vote x ns ≡ last_vote x ms
  pub phase : phase_of ns ≡ phase_of ms
  pub round : top_round ns ≡ top_round ms
  pub counted : (c : Config) (p : RowAt → Bool) → heard_at c p ms ≤ heard_at c p ns
  pub heard : (s : ℕ) (row : RowAt) → WasHeard ms s row → WasHeard ns s row
  pub sent : (a : Asked) → WasSent ms a → WasSent ns a
  pub promised : (v : ℕ) → IsUnpromised ms v → IsUnpromised ns v

pub beside_refl : (ms : List Action) → IsBeside ms ms
beside_refl ms = record { row = λ s. refl; out = λ s. refl; unanswered = λ s. refl; met = refl; vote = λ x. refl; phase = refl; round = refl; counted = λ c p. omega arith; heard = λ s row h. h; sent = λ a h. h; promised = λ v h. h }

pub beside_trans : (ms ns os : List Action) → IsBeside ms ns → IsBeside ns os → IsBeside ms os
beside_trans ms ns os h k = record {
  row = λ (s : ℕ). k.row s ∙ h.row s;
  out = λ (s : ℕ). k.out s ∙ h.out s;
  unanswered = λ (s : ℕ). k.unanswered s ∙ h.unanswered s;
  met = k.met ∙ h.met;
  vote = λ (x : Name). k.vote x ∙ h.vote x;
  phase = k.phase ∙ h.phase;
  round = k.round ∙ h.round;
  counted = λ (c : Config) (p : RowAt → Bool). omega (arith, h.counted c p, k.counted c p);
  heard = λ (s : ℕ) (row : RowAt) (w : WasHeard ms s row). k.heard s row (h.heard s row w);
  sent = λ (a : Asked) (w : WasSent ms a). k.sent a (h.sent a w);
  promised = λ (v : ℕ) (u : IsUnpromised ms v). k.promised v (h.promised v u);
}

-- an action of a request for a blob
pub beside_blob : (m : Action) (ms : List Action) → is_about_rows m ≡ false → IsBeside ms (m ∷ ms)
beside_blob m ms e = record {
  row = λ (s : ℕ). ap (λ now. now.row) (blob_site m ms s e);
  out = λ (s : ℕ). ap (λ now. now.out) (blob_site m ms s e);
  unanswered = λ (s : ℕ). ap (λ now. now.unanswered) (blob_site m ms s e);
  met = blob_met m ms e;
  vote = λ (x : Name). blob_vote x m ms e;
  phase = blob_phase m ms e;
  round = blob_round m ms e;
  counted = λ (c : Config) (p : RowAt → Bool). heard_at_more c p m ms;
  heard = λ (s : ℕ) (row : RowAt) (w : WasHeard ms s row). inr w;
  sent = λ (a : Asked) (w : WasSent ms a). inr w;
  promised = λ (v : ℕ) (u : IsUnpromised ms v). unpromised_more m ms v (blob_unsent promise_by m e) u;
}

-- row requests rest
pub beside_rested : (ms : List Action) → IsBeside ms (Rested ∷ ms)
beside_rested ms = record { row = λ s. refl; out = λ s. refl; unanswered = λ s. refl; met = refl; vote = λ x. refl; phase = refl; round = refl; counted = λ (c : Config) (p : RowAt → Bool). heard_at_more c p Rested ms; heard = λ s row w. inr w; sent = λ a w. inr w; promised = λ v u. u }

-- requests for blobs
abbrev pub AreBlobOuts : List Out → Type 0
AreBlobOuts [] = Unit {0}
AreBlobOuts (out ∷ outs) = (is_row_request out.op ≡ false) × AreBlobOuts outs

-- are sent at one event
pub beside_sent : (first : ℕ) (outs : List Out) (ms : List Action) → AreBlobOuts outs → IsBeside ms (sent_from first outs ms)
beside_sent first [] ms e = beside_refl ms
beside_sent first (o ∷ os) ms e = beside_trans ms (Sent (asked_of first o) ∷ ms) (sent_from (first + 1) os (Sent (asked_of first o) ∷ ms)) (beside_blob (Sent (asked_of first o)) ms e.0) (beside_sent (first + 1) os (Sent (asked_of first o) ∷ ms) e.1)

pub allowed_sent : (c : Config) (w : Caller) (past : List Trace) (first : ℕ) (outs : List Out) (ms : List Action) → AreBlobOuts outs → AreAllowed c w past ms → AreAllowed c w past (sent_from first outs ms)
allowed_sent c w past first [] ms e h = h
allowed_sent c w past first (o ∷ os) ms e h = allowed_sent c w past (first + 1) os (Sent (asked_of first o) ∷ ms) e.1 (blob_allowed c w past (Sent (asked_of first o)) ms e.0 h)

-- while the call runs on
pub runs_sent : (c : Config) (w : Caller) (past : List Trace) (run : Run) (first : ℕ) (outs : List Out) (ms : List Action) → AreBlobOuts outs → Runs c w past run ms → Runs c w past run (sent_from first outs ms)
runs_sent c w past run first [] ms e h = h
runs_sent c w past run first (o ∷ os) ms e h = runs_sent c w past run (first + 1) os (Sent (asked_of first o) ∷ ms) e.1 (blob_runs c w past run (Sent (asked_of first o)) ms e.0 h)

-- a call that runs on is ready for what comes next
pub runs_ready : (c : Config) (w : Caller) (past : List Trace) (run : Run) (ms : List Action) → Runs c w past run ms → Ready c w past run ms
runs_ready c w past run ms h = record { stands = h.stands; stage = h.stage; unnoticed = h.unnoticed; above = ahead_askable c run run.stage ms h.stands.knows h.ahead }

-- a call to which nothing of rows has happened yet
pub blobs_sent : (first : ℕ) (outs : List Out) (ms : List Action) → AreBlobOuts outs → AreBlobs ms → AreBlobs (sent_from first outs ms)
blobs_sent first [] ms e h = h
blobs_sent first (o ∷ os) ms e h = blobs_sent (first + 1) os (Sent (asked_of first o) ∷ ms) e.1 (e.0, h)

pub ready_sent : (c : Config) (w : Caller) (past : List Trace) (run : Run) (first : ℕ) (outs : List Out) (ms : List Action) → AreBlobOuts outs → Ready c w past run ms → Ready c w past run (sent_from first outs ms)
ready_sent c w past run first [] ms e h = h
ready_sent c w past run first (o ∷ os) ms e h = ready_sent c w past run (first + 1) os (Sent (asked_of first o) ∷ ms) e.1 (blob_ready c w past run (Sent (asked_of first o)) ms e.0 h)

-- rests that are allowed
pub allowed_rested : (c : Config) (w : Caller) (past : List Trace) (ms : List Action) → MayRest c w ms → AreAllowed c w past ms → AreAllowed c w past (Rested ∷ ms)
allowed_rested c w past ms may h = (may, h)

-- sites that are asked again
pub again_sent : (c : Config) (first : ℕ) (outs : List Out) (ms : List Action) → AreBlobOuts outs → AreAskedAgain c ms → AreAskedAgain c (sent_from first outs ms)
again_sent c first [] ms e h = h
again_sent c first (o ∷ os) ms e h = again_sent c (first + 1) os (Sent (asked_of first o) ∷ ms) e.1 (blob_again c (Sent (asked_of first o)) ms e.0 h)

voted_beside : (x : Name) (ms ns : List Action) → IsBeside ms ns → voted x ns ≡ voted x ms
voted_beside x ms ns b = sym (voted_last x ns) ∙ (ap (λ o. is_some o) (b.vote x) ∙ voted_last x ms)

pub rounds_beside : (past : List Trace) (ms ns : List Action) → IsBeside ms ns → rounds_used past ns ≡ rounds_used past ms
rounds_beside past ms ns b = ap (λ (n : ℕ). max (top_rounds past) n) b.round

pub outs_beside : (c : Config) (ms ns : List Action) → IsBeside ms ns → outs c ns ≡ outs c ms
outs_beside c ms ns b = count_same c.n (λ s. (site_now ns s).out) (λ s. (site_now ms s).out) (λ (s : ℕ) (l : s < c.n). b.out s)

known_same : (now then : SiteNow) → now.row ≡ then.row → now.out ≡ then.out → known now ≡ known then
known_same now then row out = ap (λ o. cond o None (row_seen now.row)) out ∙ ap (λ r. cond then.out None (row_seen r)) row

pub known_beside : (ms ns : List Action) (s : ℕ) → IsBeside ms ns → known (site_now ns s) ≡ known (site_now ms s)
known_beside ms ns s b = known_same (site_now ns s) (site_now ms s) (b.row s) (b.out s)

pub known_count_beside : (c : Config) (ms ns : List Action) → IsBeside ms ns → known_count c ns ≡ known_count c ms
known_count_beside c ms ns b = count_same c.n (λ s. is_some (known (site_now ns s))) (λ s. is_some (known (site_now ms s))) (λ (s : ℕ) (l : s < c.n). ap (λ o. is_some o) (known_beside ms ns s b))

pub going_beside : (c : Config) (ms ns : List Action) → IsBeside ms ns → IsGoing c ms → IsGoing c ns
going_beside c ms ns b h =
    let few = h.few in
    let enough = h.enough in
    let same_met = b.met in
    let same_outs = outs_beside c ms ns b in
    record { few = omega arith; enough = omega arith }

pub shown_beside : (c : Config) (ms ns : List Action) (v : ℕ) (x : Name) → IsBeside ms ns → IsShown c ms v x → IsShown c ns v x
shown_beside c ms ns v x b (inl k) = inl (k.0, omega (arith, k.1, b.counted c (λ r. votes_for k.0 x v (Some r))))
shown_beside c ms ns v x b (inr k) = inr (omega (arith, k, b.counted c (λ r. decides x v (Some r))))

pub current_beside : (c : Config) (ms ns : List Action) (v : ℕ) → IsBeside ms ns → IsCurrent c ms v → IsCurrent c ns v
current_beside c ms ns v b h = omega (arith, h, b.counted c (λ r. leb (row_top r) v))

quorum_beside : (c : Config) (ms ns : List Action) → IsBeside ms ns → IsQuorumHeard c ms → IsQuorumHeard c ns
quorum_beside c ms ns b h = omega (arith, h, b.counted c (λ r. true))

pub value_beside : (ms ns : List Action) (v : ℕ) (x : Value) → IsBeside ms ns → IsValueHeard ms v x → IsValueHeard ns v x
value_beside ms ns v x b h = (h.0, h.1, b.heard h.0 h.1 h.2, h.3)

pub chosen_beside : (c : Config) (w : Caller) (ms ns : List Action) (v : ℕ) → IsBeside ms ns → IsChosenOwn c w ms v → IsChosenOwn c w ns v
chosen_beside c w ms ns v b h = (h.0, h.1, shown_beside c ms ns v w.name b h.2)

pub learnt_beside : (c : Config) (w : Caller) (ms ns : List Action) (v : ℕ) (x : Value) → IsBeside ms ns → IsLearnt c w ms v x → IsLearnt c w ns v x
learnt_beside c w ms ns v x b h = record { reads = h.reads; asked = asked_by c (target_of w.call) ms ns v (current_beside c ms ns v b) (quorum_beside c ms ns b) h.asked; shown = shown_beside c ms ns v (name_of x) b h.shown; heard = value_beside ms ns v x b h.heard }

pub noticed_beside : (c : Config) (w : Caller) (ms ns : List Action) (v : ℕ) → IsBeside ms ns → IsNoticed c w ms v → IsNoticed c w ns v
noticed_beside c w ms ns v b h s l kept quiet seen last x own done =
    let notice = h s l (sym (b.out s) ∙ kept) (sym (b.unanswered s) ∙ quiet) seen (sym (b.row s) ∙ last) x own done in
    (notice.0, b.sent _ notice.1)

cut_beside : (c : Config) (ms ns : List Action) (phase : Phase) (heard : ℕ) → IsBeside ms ns → IsCutOff c ms phase heard → IsCutOff c ns phase heard
cut_beside c ms ns phase heard b h =
    let few = h.few in
    let lost = h.lost in
    let same_met = b.met in
    let same_outs = outs_beside c ms ns b in
    record { few = omega arith; lost = omega arith; phase_is = h.phase_is ∙ sym b.phase; heard_is = h.heard_is ∙ sym (known_count_beside c ms ns b) }

overtaken_beside : (c : Config) (ms ns : List Action) (m : ℕ) → IsBeside ms ns → IsOvertaken c ms m → IsOvertaken c ns m
overtaken_beside c ms ns m b h = (let same = b.met in omega (arith, h.0), h.1 ∙ sym b.met)

floor_beside : (c : Config) (ms ns : List Action) (floor : ℕ) → IsBeside ms ns → HasFloor c ms floor → HasFloor c ns floor
floor_beside c ms ns floor b h = omega (arith, h, b.counted c (λ r. r.floor == floor))

unsure_beside : (c : Config) (w : Caller) (ms ns : List Action) (why : UnsureWhy) → IsBeside ms ns → UnsureCause c w ms why → UnsureCause c w ns why
unsure_beside c w ms ns (UnsureNoQuorum phase heard) b h = cut_beside c ms ns phase heard b h
unsure_beside c w ms ns (UnsureContended m) b h = overtaken_beside c ms ns m b h
unsure_beside c w ms ns (UnsureTrimmed floor) b h =
    (going_beside c ms ns b h.0, record { version = h.1.version; voted = b.vote w.name ∙ h.1.voted; gone = h.1.gone; heard = floor_beside c ms ns floor b h.1.heard; none = evidence_same c ms ns h.1.version (λ (s : ℕ). known_beside ms ns s b) h.1.none; later = b.promised (h.1.version + 1) h.1.later })

unborn_beside : (c : Config) (w : Caller) (ms ns : List Action) (latest : ℕ) → IsBeside ms ns → IsUnborn c w ms latest → IsUnborn c w ns latest
unborn_beside c w ms ns latest b h = record { reads = h.reads; version = h.version; asked = h.asked; above = h.above; current = current_beside c ms ns latest b h.current; shown = elim h.shown [ inl none ↦ inl none | inr k ↦ inr (k.0, shown_beside c ms ns latest k.0 b k.1) ] }

pub ends_beside : (c : Config) (w : Caller) (ms ns : List Action) (answer : Answer) → IsBeside ms ns → EndsBy c w ms answer → EndsBy c w ns answer
ends_beside c w ms ns Absent b h = (going_beside c ms ns b h.0, record { reads = h.1.reads; asked = h.1.asked; blank = omega (arith, h.1.blank, b.counted c is_blank) })
ends_beside c w ms ns (Unborn latest) b h = (going_beside c ms ns b h.0, unborn_beside c w ms ns latest b h.1)
ends_beside c w ms ns (Collected floor) b h = (going_beside c ms ns b h.0, record { reads = h.1.reads; version = h.1.version; asked = h.1.asked; gone = h.1.gone; heard = floor_beside c ms ns floor b h.1.heard; quorum = quorum_beside c ms ns b h.1.quorum })
ends_beside c w ms ns (NoQuorum phase heard) b h = (voted_beside w.name ms ns b ∙ h.0, cut_beside c ms ns phase heard b h.1)
ends_beside c w ms ns (Contended m) b h = (voted_beside w.name ms ns b ∙ h.0, overtaken_beside c ms ns m b h.1)
ends_beside c w ms ns (Unsure why) b h = (voted_beside w.name ms ns b ∙ h.0, unsure_beside c w ms ns why b h.1)
ends_beside c w ms ns answer b h = absurd h

-- what the rows of a call come to
pub comes_beside : (c : Config) (w : Caller) (ms ns : List Action) (outcome : Outcome) → IsBeside ms ns → ComesTo c w ms outcome → ComesTo c w ns outcome
comes_beside c w ms ns Goes b h = absurd h
comes_beside c w ms ns (Placed v) b h = (going_beside c ms ns b h.0, chosen_beside c w ms ns v b h.1, noticed_beside c w ms ns v b h.2)
comes_beside c w ms ns (Learnt v x) b h = (going_beside c ms ns b h.0, learnt_beside c w ms ns v x b h.1)
comes_beside c w ms ns (Ends answer) b h = ends_beside c w ms ns answer b h

-- and that they are done with, where sites are still asked again
pub done_beside : (c : Config) (w : Caller) (past : List Trace) (run : Run) (ms ns : List Action) (outcome : Outcome) → IsBeside ms ns → AreAllowed c w past ns → AreAskedAgain c ns → AreDone c w past run ms outcome → AreDone c w past run ns outcome
done_beside c w past run ms ns outcome b allowed reads h = record { key_is = h.key_is; own_is = h.own_is; allowed = allowed; reads = reads; comes = comes_beside c w ms ns outcome b h.comes; round_is = h.round_is ∙ sym (rounds_beside past ms ns b) }
