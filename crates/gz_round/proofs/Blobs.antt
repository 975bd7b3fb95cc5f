-- What happens to requests for blobs leaves all that a call knows of rows, and what it keeps of them.
use Rattle.std.proofs.Common.{◌≡◌, ℕ, ◌+◌, ◌<◌, max, false, ◌&&◌, ◌==◌, List, [], ◌∷◌, Option, Some, None, is_some, refl, sym, ap, ◌∙◌, subst, inl, inr, ◌⊎◌, arith}
use Rattle.std.proofs.lemmas.Bool.{cond-false, true≢false}
use Rattle.gz_config.specs.declared.Config.{Config}
use Rattle.gz_core.specs.declared.requests.RowStep.{RowStep}
use Rattle.gz_core.specs.declared.requests.Op.{Op}
use Rattle.gz_core.specs.declared.requests.Op.TheVariants.{WriteRow}
use Rattle.gz_round.specs.declared.run.Run.{Run}
use Rattle.gz_core.specs.History.{Action, Sent, Handed, GaveUp, Rested, GaveIn, Caller, Trace, is_row_request}
use Rattle.gz_round.specs.Sites.{site_now, unheard, concerns, is_about_rows, tells_of_row, up_to_rows, AreBlobs, known, heard_in, seen_in, written_by, is_changed}
use Rattle.gz_round.specs.Sent.{vote_by, phase_by, promise_by, of_step, of_sent, or_earlier, last_sent, phase_or_look, round_after, top_round, last_vote, phase_of, overtakes, met}
use Rattle.gz_round.specs.Rounds.{cast_by, top_rounds}
use Rattle.gz_round.specs.Sending.{IsAllowed, AreAllowed, MayRead, IsUndecided}
use Rattle.gz_round.specs.Counting.{outs, known_count, IsGoing}
use Rattle.gz_round.specs.Standing.{Stands, IsSound, AreAskedAgain, Runs, mark_of}
use Rattle.gz_core.specs.Names.{Name, BallotAt}
use Rattle.gz_round.specs.declared.run.Stage.{Stage}
use Rattle.gz_round.specs.declared.run.Stage.TheVariants.{Look, Fast, Prepare, Accept}
use Rattle.gz_round.specs.Goals.{looked_in, IsUnmet, IsSkipping, AreServed, stage_step}
use Rattle.gz_round.specs.Following.{Ready}
use Rattle.gz_round.proofs.Lists.{count_same}
use Rattle.gz_round.proofs.Actions.{now_other}
use Rattle.gz_round.proofs.Heard.{current_more}
use Rattle.gz_round.proofs.Known.{undecided_same, skipping_same}
use Rattle.gz_round.proofs.Notices.{unnoticed_more, blob_tells}
use Rattle.gz_round.proofs.Askable.{askably_still, askable_same}
use Rattle.gz_round.proofs.Serves.{settled_more}
use Rattle.gz_round.proofs.Stages.{IsQuiet, AreKnownBy, stage_more}

-- it concerns no site
pub blob_other : (m : Action) (s : ℕ) → is_about_rows m ≡ false → concerns m s ≡ false
blob_other (Sent a) s e = ap (λ t. t && (a.site == s)) e
blob_other (Handed a reply) s e = ap (λ t. t && (a.site == s)) e
blob_other (GaveUp a) s e = ap (λ t. t && (a.site == s)) e
blob_other Rested s e = absurd (true≢false e)
blob_other GaveIn s e = absurd (true≢false e)

pub blob_site : (m : Action) (ms : List Action) (s : ℕ) → is_about_rows m ≡ false → site_now (m ∷ ms) s ≡ site_now ms s
blob_site m ms s e = now_other m ms s (blob_other m s e)

-- it shows no row
pub blob_heard : (m : Action) → is_about_rows m ≡ false → heard_in m ≡ None
blob_heard (Handed a reply) e = cond-false (is_row_request a.op) (seen_in (written_by a.op) reply) None e
blob_heard m e = refl

-- nor that a write was overtaken
blob_overtakes : (m : Action) → is_about_rows m ≡ false → overtakes m ≡ false
blob_overtakes (Handed a reply) e = ap (λ t. t && is_changed reply) e
blob_overtakes m e = refl

pub blob_met : (m : Action) (ms : List Action) → is_about_rows m ≡ false → met (m ∷ ms) ≡ met ms
blob_met m ms e = cond-false (overtakes m) (met ms + 1) (met ms) (blob_overtakes m e)

op_unwritten : {T : Type 0} (f : RowStep → Option T) (op : Op) → is_row_request op ≡ false → of_step f op ≡ None
op_unwritten f (WriteRow key expect step row) e = absurd (true≢false e)
op_unwritten f op e = refl

-- it writes none
pub blob_unsent : {T : Type 0} (f : RowStep → Option T) (m : Action) → is_about_rows m ≡ false → of_sent f m ≡ None
blob_unsent f (Sent a) e = op_unwritten f a.op e
blob_unsent f m e = refl

pub blob_vote : (x : Name) (m : Action) (ms : List Action) → is_about_rows m ≡ false → last_vote x (m ∷ ms) ≡ last_vote x ms
blob_vote x m ms e = ap (λ o. or_earlier o (last_vote x ms)) (blob_unsent (vote_by x) m e)

pub blob_phase : (m : Action) (ms : List Action) → is_about_rows m ≡ false → phase_of (m ∷ ms) ≡ phase_of ms
blob_phase m ms e = ap (λ o. phase_or_look (or_earlier o (last_sent phase_by ms))) (blob_unsent phase_by m e)

blob_quiet : (w : Caller) (m : Action) (ms : List Action) → is_about_rows m ≡ false → IsQuiet w m ms
blob_quiet w m ms e = record {
  vote = blob_unsent (vote_by w.name) m e;
  phase = blob_phase m ms e;
  promise = blob_unsent promise_by m e;
  cast = blob_unsent cast_by m e;
}

pub blob_round : (m : Action) (ms : List Action) → is_about_rows m ≡ false → top_round (m ∷ ms) ≡ top_round ms
blob_round m ms e = ap (λ o. round_after o (top_round ms)) (blob_unsent promise_by m e)

blob_known : (m : Action) (ms : List Action) → is_about_rows m ≡ false → AreKnownBy m ms
blob_known m ms e s row k = inl (sym (ap known (blob_site m ms s e)) ∙ k)

-- nothing of rows forbids it
blob_may : (c : Config) (w : Caller) (past : List Trace) (ms : List Action) (m : Action) → is_about_rows m ≡ false → IsAllowed c w past ms m
blob_may c w past ms (Sent a) e = λ row. absurd (true≢false (sym row ∙ e))
blob_may c w past ms (Handed a reply) e = λ row. absurd (true≢false (sym row ∙ e))
blob_may c w past ms (GaveUp a) e = λ row. absurd (true≢false (sym row ∙ e))
blob_may c w past ms Rested e = absurd (true≢false e)
blob_may c w past ms GaveIn e = absurd (true≢false e)

pub blob_allowed : (c : Config) (w : Caller) (past : List Trace) (m : Action) (ms : List Action) → is_about_rows m ≡ false → AreAllowed c w past ms → AreAllowed c w past (m ∷ ms)
blob_allowed c w past m ms e h = (blob_may c w past ms m e, h)

-- what a call keeps goes on to stand
pub blob_stands : (c : Config) (w : Caller) (past : List Trace) (run : Run) (m : Action) (ms : List Action) → is_about_rows m ≡ false → Stands c w past run ms → Stands c w past run (m ∷ ms)
blob_stands c w past run m ms e h =
    let quiet = blob_quiet w m ms e in
    record {
      name_is = h.name_is;
      key_is = h.key_is;
      target_is = h.target_is;
      own_is = h.own_is;
      named = h.named;
      writes = h.writes;
      knows = record {
        rows_len = h.knows.rows_len;
        marks_len = h.knows.marks_len;
        rows = λ (s : ℕ) (l : s < c.n). h.knows.rows s l ∙ ap (λ now. Some (known now)) (sym (blob_site m ms s e));
        marks = λ (s : ℕ) (l : s < c.n). h.knows.marks s l ∙ ap (λ now. Some (mark_of now)) (sym (blob_site m ms s e));
      };
      met_is = h.met_is ∙ sym (blob_met m ms e);
      vote_is = h.vote_is ∙ sym (blob_vote w.name m ms e);
      wrote_is = h.wrote_is ∙ sym quiet.phase;
      round_is = h.round_is ∙ ap (λ (n : ℕ). max (top_rounds past) n) (sym (blob_round m ms e));
      sites = λ (s : ℕ). subst (λ now. IsSound now s) (sym (blob_site m ms s e)) (h.sites s);
      allowed = blob_allowed c w past m ms e h.allowed;
    }

pub blob_ready : (c : Config) (w : Caller) (past : List Trace) (run : Run) (m : Action) (ms : List Action) → is_about_rows m ≡ false → Ready c w past run ms → Ready c w past run (m ∷ ms)
blob_ready c w past run m ms e r = record {
  stands = blob_stands c w past run m ms e r.stands;
  stage = stage_more c w past m ms run.stage (blob_known m ms e) (blob_quiet w m ms e) r.stage;
  unnoticed = unnoticed_more m ms (blob_tells m e) r.unnoticed;
  above = askably_still c run run run.stage ms (m ∷ ms) refl (λ (v : ℕ) (b : BallotAt). askable_same c ms (m ∷ ms) v b (λ (s : ℕ). blob_site m ms s e)) r.above;
}

blob_outs : (c : Config) (m : Action) (ms : List Action) → is_about_rows m ≡ false → outs c (m ∷ ms) ≡ outs c ms
blob_outs c m ms e = count_same c.n (λ s. (site_now (m ∷ ms) s).out) (λ s. (site_now ms s).out) (λ (s : ℕ) (l : s < c.n). ap (λ now. now.out) (blob_site m ms s e))

blob_going : (c : Config) (m : Action) (ms : List Action) → is_about_rows m ≡ false → IsGoing c ms → IsGoing c (m ∷ ms)
blob_going c m ms e h =
    let few = h.few in
    let enough = h.enough in
    let same_met = blob_met m ms e in
    let same_outs = blob_outs c m ms e in
    record { few = omega arith; enough = omega arith }

-- the goal of a phase stays unmet
blob_undecided : (c : Config) (m : Action) (ms : List Action) (v : ℕ) → is_about_rows m ≡ false → IsUndecided c ms v → IsUndecided c (m ∷ ms) v
blob_undecided c m ms v e h = undecided_same c ms (m ∷ ms) v (λ (s : ℕ). ap known (blob_site m ms s e)) h

blob_unmet : (c : Config) (run : Run) (m : Action) (ms : List Action) (stage : Stage) → is_about_rows m ≡ false → IsUnmet c run stage ms → IsUnmet c run stage (m ∷ ms)
blob_unmet c run m ms Look e (inl few) =
    let same : known_count c (m ∷ ms) ≡ known_count c ms = count_same c.n (λ s. is_some (known (site_now (m ∷ ms) s))) (λ s. is_some (known (site_now ms s))) (λ (s : ℕ) (l : s < c.n). ap (λ now. is_some (known now)) (blob_site m ms s e)) in
    inl (omega arith)
blob_unmet c run m ms Look e (inr none) = inr (none.0, blob_undecided c m ms (looked_in run) e none.1)
blob_unmet c run m ms (Fast v) e none = blob_undecided c m ms v e none
blob_unmet c run m ms (Prepare v b found) e none = blob_undecided c m ms v e none
blob_unmet c run m ms (Accept v b x) e none = blob_undecided c m ms v e none

-- nothing came of a row request
blob_untold : (m : Action) → is_about_rows m ≡ false → tells_of_row m ≡ false
blob_untold (Sent a) e = refl
blob_untold (Handed a reply) e = e
blob_untold (GaveUp a) e = e
blob_untold Rested e = refl
blob_untold GaveIn e = refl

-- or just begun above a floor
blob_phase_unmet : (c : Config) (w : Caller) (run : Run) (m : Action) (ms : List Action) (stage : Stage) → is_about_rows m ≡ false → IsUnmet c run stage ms ⊎ IsSkipping c w stage ms → IsUnmet c run stage (m ∷ ms) ⊎ IsSkipping c w stage (m ∷ ms)
blob_phase_unmet c w run m ms stage e (inl unmet) = inl (blob_unmet c run m ms stage e unmet)
blob_phase_unmet c w run m ms stage e (inr skipping) = inr (skipping_same c w ms (m ∷ ms) stage (λ (s : ℕ). ap known (blob_site m ms s e)) (λ (u : ℕ). current_more c m ms u) (cond-false (tells_of_row m) (m ∷ ms) (up_to_rows ms) (blob_untold m e)) skipping)

-- and all that may be asked was asked
blob_served : (c : Config) (w : Caller) (m : Action) (ms : List Action) (step : Option RowStep) → is_about_rows m ≡ false → AreServed c w ms step → AreServed c w (m ∷ ms) step
blob_served c w m ms step e h s l idle kept =
    let stays : site_now (m ∷ ms) s ≡ site_now ms s = blob_site m ms s e in
    let old = h s l (sym (ap (λ now. now.awaits) stays) ∙ idle) (sym (ap (λ now. now.out) stays) ∙ kept) in
    (old.0, ap (λ now. now.row) stays ∙ old.1, ap (λ now. now.changed) stays ∙ old.2, settled_more w m ms s old.0 step old.3)

-- each site is asked again
pub blob_again : (c : Config) (m : Action) (ms : List Action) → is_about_rows m ≡ false → AreAskedAgain c ms → AreAskedAgain c (m ∷ ms)
blob_again c m ms e h s l may idle = ap (λ now. now.out) (blob_site m ms s e) ∙ h s l (subst MayRead (blob_site m ms s e) may) (sym (ap (λ now. now.awaits) (blob_site m ms s e)) ∙ idle)

-- and the call runs on
pub blob_runs : (c : Config) (w : Caller) (past : List Trace) (run : Run) (m : Action) (ms : List Action) → is_about_rows m ≡ false → Runs c w past run ms → Runs c w past run (m ∷ ms)
blob_runs c w past run m ms e h =
    record {
      stands = blob_stands c w past run m ms e h.stands;
      stage = stage_more c w past m ms run.stage (blob_known m ms e) (blob_quiet w m ms e) h.stage;
      unmet = blob_phase_unmet c w run m ms run.stage e h.unmet;
      few = h.few;
      ahead = h.ahead;
      served = blob_served c w m ms (stage_step run) e h.served;
      unnoticed = unnoticed_more m ms (blob_tells m e) h.unnoticed;
      again = blob_again c m ms e h.again;
      going = blob_going c m ms e h.going;
      waits = (h.waits.0, h.waits.1, h.waits.2, ap (λ now. now.awaits) (blob_site m ms h.waits.0 e) ∙ h.waits.3);
    }

-- a call to which nothing of rows has happened knows nothing of them
pub blobs_site : (ms : List Action) (s : ℕ) → AreBlobs ms → site_now ms s ≡ unheard
blobs_site [] s e = refl
blobs_site (m ∷ ms) s e = blob_site m ms s e.0 ∙ blobs_site ms s e.1

pub blobs_met : (ms : List Action) → AreBlobs ms → met ms ≡ 0
blobs_met [] e = refl
blobs_met (m ∷ ms) e = blob_met m ms e.0 ∙ blobs_met ms e.1

-- and none of its actions was one that could be forbidden
pub blobs_allowed : (c : Config) (w : Caller) (past : List Trace) (ms : List Action) → AreBlobs ms → AreAllowed c w past ms
blobs_allowed c w past [] e = tt
blobs_allowed c w past (m ∷ ms) e = blob_allowed c w past m ms e.0 (blobs_allowed c w past ms e.1)
