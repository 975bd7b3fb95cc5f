-- How a call votes at a version at once, also where what is known there is its goal already.
use Rattle.std.proofs.Common.{◌≡◌, ℕ, ◌+◌, ◌<◌, ◌≤◌, true, false, List, [], Option, Some, None, is_some, refl, sym, ap, ◌∙◌, subst, inl, inr, ◌⊎◌, arith}
use Rattle.gz_core.specs.declared.values.Value.{Value}
use Rattle.gz_core.specs.Rows.{RowAt}
use Rattle.gz_config.specs.declared.Config.{Config}
use Rattle.gz_core.specs.declared.requests.RowStep.{RowStep}
use Rattle.gz_core.specs.declared.requests.RowStep.TheVariants.{FastVote}
use Rattle.gz_core.specs.declared.requests.Out.{Out}
use Rattle.gz_core.specs.History.{Action, Caller, Trace, sent_from}
use Rattle.gz_round.specs.declared.run.Run.{Run}
use Rattle.gz_round.specs.declared.run.Stage.TheVariants.{Fast}
use Rattle.gz_round.specs.declared.following.Next.TheVariants.{Vote, Chosen}
use Rattle.gz_round.specs.declared.outcome.Outcome.TheVariants.{Goes}
use Rattle.gz_round.specs.Evidence.{IsAfterEvidence}
use Rattle.gz_round.specs.Sites.{site_now, up_to_rows}
use Rattle.gz_round.specs.Floors.{top_floor_of, AreRows}
use Rattle.gz_round.specs.Sending.{MayMake, NoEvidence, NoneGone, IsUndecided, rows_known}
use Rattle.gz_round.specs.Asking.{IsLeftBy, is_notice, round_of}
use Rattle.gz_round.specs.Standing.{Runs, StageStands, AreVotesBelow}
use Rattle.gz_round.specs.Following.{Asks, HasAsked, HeldBy, HeldOf, IsPlain, MayMakeOf, HasTurned, IsStageAt, NextMeans}
use Rattle.gz_round.specs.Goals.{AreServed, HasGone, IsAboveFloor, IsFewIn, IsSkipping, is_overtaken_in, stage_step, step_in, vote_for}
use Rattle.gz_round.specs.Acting.{VotesNext, HasCast, BeginsFast, Skips, GoesOnAbove, RunsOut, IsGoalUnmet, Finishes, IsShortIn, is_waiting, version_in}
use Rattle.gz_round.specs.Goals.{looked_in}
use Rattle.gz_round.specs.Steps.{IsStepOf}
use Rattle.gz_round.proofs.Arms.{stands_stage}
use Rattle.gz_round.proofs.Targets.{vote_passes}
use Rattle.gz_round.proofs.HeardFloors.{floor_reached, listed_inside, none_gone}
use Rattle.gz_round.proofs.PastFloors.{skip_means}
use Rattle.gz_round.proofs.Known.{listed_known, skipping_same}
use Rattle.gz_round.proofs.Votes.{last_voted_at, unvoted_at_next, unvoted_before}
use Rattle.gz_round.proofs.Turns.{again_from, current_sent, going_sent, heard_from, idle_of, over_sent, rows_sent, untaken_from, vote_is_step, waits_from}

-- the vote for the call's value, which it has
vote_is : (c : Config) (w : Caller) (past : List Trace) (run : Run) (ms : List Action) (v : ℕ) (step : Option RowStep) → (n : VotesNext c w past run ms v) → step ≡ vote_for v run.own → step ≡ Some (FastVote v n.vote.own.0)
vote_is c w past run ms v step n is = is ∙ ap (vote_for v) (n.stands.own_is ∙ n.vote.own.1)

-- a call that votes next may ask each site for its vote
pub votes_ask : (c : Config) (w : Caller) (past : List Trace) (run : Run) (ms : List Action) (v : ℕ) (step : Option RowStep) → VotesNext c w past run ms v → step ≡ vote_for v run.own → Asks c w past (record run { stage = Fast v }) ms step
votes_ask c w past run ms v step n is =
    let step_is : step ≡ Some (FastVote v n.vote.own.0) = vote_is c w past run ms v step n is in
    record {
      stands = stands_stage c w past run ms (Fast v) n.stands;
      may = subst (MayMakeOf c w past ms) (sym step_is) (n.vote.own.1, n.vote.may);
      held = subst (HeldOf c w past ms) (sym step_is) (n.vote.unpromised, n.vote.votes);
      unnoticed = n.unnoticed;
    }

-- its vote is a step
pub cast_is_step : (c : Config) (w : Caller) (past : List Trace) (run : Run) (ms : List Action) (v : ℕ) (step : Option RowStep) → VotesNext c w past run ms v → step ≡ vote_for v run.own → IsStepOf step
cast_is_step c w past run ms v step n is = subst IsStepOf (sym is) (vote_is_step v run.own n.vote.may.above)

vote_plain : (v : ℕ) (own : Option Value) → IsPlain (vote_for v own)
vote_plain v None = tt
vote_plain v (Some x) = refl

-- which is awaited
pub cast_plain : (run : Run) (v : ℕ) (step : Option RowStep) → step ≡ vote_for v run.own → IsPlain step
cast_plain run v step is = subst IsPlain (sym is) (vote_plain v run.own)

vote_round : (v : ℕ) (own : Option Value) → round_of (vote_for v own) ≡ 0
vote_round v None = refl
vote_round v (Some x) = refl

-- and uses no round
pub cast_round : (run new : Run) (v : ℕ) (step : Option RowStep) → step ≡ vote_for v run.own → IsLeftBy (record run { stage = Fast v }) new step → new.round ≤ run.round
cast_round run new v step is left =
    let none : round_of step ≡ 0 = ap round_of is ∙ vote_round v run.own in
    omega (arith, none, left.round)

-- each site was asked for the vote
pub has_cast : (c : Config) (w : Caller) (past : List Trace) (run new : Run) (ms : List Action) (v first : ℕ) (sent : List Out) (step : Option RowStep) → VotesNext c w past run ms v → step ≡ vote_for v run.own →
    (Asks c w past (record run { stage = Fast v }) ms step → HasAsked c w past new ms (sent_from first sent ms) step) → IsLeftBy (record run { stage = Fast v }) new step → HasCast c w past new (sent_from first sent ms) v
has_cast c w past run new ms v first sent step n is asked left =
    let done = asked (votes_ask c w past run ms v step n is) in
    let step_is : step ≡ Some (FastVote v n.vote.own.0) = vote_is c w past run ms v step n is in
    let made : MayMake c w past (sent_from first sent ms) (FastVote v n.vote.own.0) = subst (MayMakeOf c w past (sent_from first sent ms)) step_is done.may in
    let kept : HeldBy c w past (sent_from first sent ms) (FastVote v n.vote.own.0) = subst (HeldOf c w past (sent_from first sent ms)) step_is done.held in
    let steps : step ≡ stage_step new = is ∙ (ap (vote_for v) (sym left.own) ∙ ap (λ st. step_in st new.own) (sym left.stage)) in
    record {
      votes = record {
        stands = done.stands;
        going = going_sent c first sent ms n.going;
        unnoticed = done.unnoticed (cast_plain run v step is);
        vote = record { may = made.1; own = n.vote.own; unpromised = kept.0; votes = kept.1 };
      };
      stage_is = left.stage;
      served = subst (AreServed c w (sent_from first sent ms)) steps done.served;
    }

-- where a request is awaited then, the call runs on
pub cast_runs : (c : Config) (w : Caller) (past : List Trace) (run : Run) (ms : List Action) (v : ℕ) → HasCast c w past run ms v → IsSkipping c w (Fast v) ms → is_waiting run ≡ true → HasTurned c w past run ms Goes
cast_runs c w past run ms v h skipping waits =
    let runs : Runs c w past run ms = record {
      stands = h.votes.stands;
      stage = subst (λ st. StageStands c w past st ms) (sym h.stage_is) h.votes.vote;
      unmet = inr (subst (λ st. IsSkipping c w st ms) (sym h.stage_is) skipping);
      few = subst (λ st. IsFewIn c run st) (sym h.stage_is) tt;
      ahead = subst (λ st. is_overtaken_in run st ≡ false) (sym h.stage_is) refl;
      again = again_from c w ms (stage_step run) h.served;
      served = h.served;
      unnoticed = h.votes.unnoticed;
      going = h.votes.going;
      waits = waits_from c run ms h.votes.stands.knows waits;
    } in
    ([], inl refl, runs)

-- requests leave what came of row requests before
rows_then : (first : ℕ) (sent : List Out) (ms : List Action) → up_to_rows (sent_from first sent ms) ≡ up_to_rows ms
rows_then first sent ms = over_sent (λ ns. up_to_rows ns ≡ up_to_rows ms) (λ a ns e. e) first sent ms refl

-- a vote that has just begun has still, once it was asked for
skipping_sent : (c : Config) (w : Caller) (ms : List Action) (v first : ℕ) (sent : List Out) → AreVotesBelow w ms v → IsAboveFloor c ms v ⊎ (HasGone c ms v × NoEvidence c ms v × IsAfterEvidence c ms v) → IsSkipping c w (Fast v) (sent_from first sent ms)
skipping_sent c w ms v first sent below h =
    let here : IsSkipping c w (Fast v) ms = (unvoted_before w.name ms v (unvoted_at_next w ms v below), h) in
    skipping_same c w ms (sent_from first sent ms) (Fast v) (rows_sent first sent ms) (λ (u : ℕ). current_sent c u first sent ms) (rows_then first sent ms) here

-- a vote at a version that was collected, where no value is known to be chosen
pub below_skipping : (c : Config) (w : Caller) (past : List Trace) (run : Run) (ms : List Action) (v floor first : ℕ) (sent : List Out) → BeginsFast c w past run ms v → v ≤ floor → floor ≡ top_floor_of run.rows → IsSkipping c w (Fast v) (sent_from first sent ms)
below_skipping c w past run ms v floor first sent b at top =
    let above = b.votes.vote.may.above in
    let gone : HasGone c ms v = elim (floor_reached run.rows) [
      | inl none ↦ absurd (omega arith)
      | inr f ↦ (
          let inside : f.0 < c.n = listed_inside c run ms b.votes.stands.knows f.0 (Some f.1) f.2 in
          (f.0, f.1, inside, listed_known c run ms b.votes.stands.knows f.0 f.1 inside f.2, omega (arith, f.3)))
    ] in
    let after : IsAfterEvidence c ms v = elim b.follows [
      | inl none ↦ absurd (omega (arith, none gone.0 gone.1 gone.2 gone.3, gone.4))
      | inr follows ↦ follows
    ] in
    skipping_sent c w ms v first sent b.first (inr (gone, b.none, after))

-- a vote two above a floor
pub above_skipping : (c : Config) (w : Caller) (past : List Trace) (run : Run) (ms : List Action) (v first : ℕ) (sent : List Out) → Skips c w past run ms v → IsSkipping c w (Fast v) (sent_from first sent ms)
above_skipping c w past run ms v first sent s = skipping_sent c w ms v first sent s.first (inl s.above)

-- where no site takes the vote at a version that was collected, the call votes two above the floor
pub below_skips : (c : Config) (w : Caller) (past : List Trace) (run new : Run) (ms : List Action) (v floor first : ℕ) (sent : List Out) → BeginsFast c w past run ms v → HasCast c w past new (sent_from first sent ms) v → sent ≡ [] →
    AreRows run.rows → new.rows ≡ run.rows → v ≤ floor → floor ≡ top_floor_of run.rows → Skips c w past new ms (floor + 2)
below_skips c w past run new ms v floor first sent b cast none are rows at top =
    let here : HasCast c w past new ms v = subst (λ outs. HasCast c w past new (sent_from first outs ms) v) none cast in
    let n : VotesNext c w past new ms v = here.votes in
    let some : is_some new.own ≡ true = ap (λ o. is_some o) (n.stands.own_is ∙ n.vote.own.1) in
    let other : new.last_vote ≡ Some v → ⊥ = λ (e : new.last_vote ≡ Some v). let low : v < v = b.first v (last_voted_at w.name ms v (sym n.stands.vote_is ∙ e)) in omega arith in
    let at_version : IsStageAt new.stage v = subst (λ st. IsStageAt st v) (sym here.stage_is) refl in
    let next = skip_means c w past new ms v floor n.stands (vote_passes c w ms v n.stands.writes n.vote) at_version some (subst AreRows (sym rows) are) at (top ∙ ap top_floor_of (sym rows)) other in
    record { votes = record { stands = n.stands; going = n.going; unnoticed = n.unnoticed; vote = next.0 }; first = next.1; above = next.2 }

cast_idle : (c : Config) (w : Caller) (past : List Trace) (run : Run) (ms : List Action) (v : ℕ) → HasCast c w past run ms v → is_waiting run ≡ false → (s : ℕ) → s < c.n → (site_now ms s).awaits ≡ None
cast_idle c w past run ms v h quiet s l = idle_of c run ms s (site_now ms s).awaits h.votes.stands.knows quiet l refl

-- no known row has the version two above the greatest floor collected
above_gone : (c : Config) (ms : List Action) (v : ℕ) → IsAboveFloor c ms v → NoneGone c ms v
above_gone c ms v h s row l e = omega (arith, h.top s row l e)

-- where no site takes the vote two above a floor, the call goes on from there
pub skip_goes_on : (c : Config) (w : Caller) (past : List Trace) (run new : Run) (ms : List Action) (v first : ℕ) (sent : List Out) → Skips c w past run ms v → HasCast c w past new (sent_from first sent ms) v → sent ≡ [] → is_waiting new ≡ false → GoesOnAbove c w past new ms v
skip_goes_on c w past run new ms v first sent s cast none quiet =
    let here : HasCast c w past new ms v = subst (λ outs. HasCast c w past new (sent_from first outs ms) v) none cast in
    record { cast = here; gone = above_gone c ms v s.above; idle = cast_idle c w past new ms v here quiet }

fast_plain : (v : ℕ) (own : Option Value) (made : RowStep) → vote_for v own ≡ Some made → is_notice made ≡ false
fast_plain v own made e = subst IsPlain e (vote_plain v own)

-- where no value is known to be chosen there, the phase has ended
pub above_out : (c : Config) (w : Caller) (past : List Trace) (run : Run) (ms : List Action) (v : ℕ) → GoesOnAbove c w past run ms v → NoEvidence c ms v → RunsOut c w past run ms
above_out c w past run ms v g none =
    let h : HasCast c w past run ms v = g.cast in
    let at : version_in run.stage (looked_in run) ≡ v = ap (λ st. version_in st (looked_in run)) h.stage_is in
    let undecided : IsUndecided c ms v = record { evident = none; gone = g.gone } in
    record {
      stands = h.votes.stands;
      stage = subst (λ st. StageStands c w past st ms) (sym h.stage_is) h.votes.vote;
      going = h.votes.going;
      unnoticed = h.votes.unnoticed;
      short = subst (λ st. IsShortIn c run.rows st) (sym h.stage_is) tt;
      ahead = subst (λ st. is_overtaken_in run st ≡ false) (sym h.stage_is) refl;
      above = subst (λ (n : ℕ). 1 ≤ n) (sym at) h.votes.vote.may.above;
      none = subst (IsUndecided c ms) (sym at) undecided;
      idle = g.idle;
      heard = heard_from c w ms (stage_step run) h.served g.idle;
      again = again_from c w ms (stage_step run) h.served;
      untaken = λ (made : RowStep) (k : stage_step run ≡ Some made).
          let is : vote_for v run.own ≡ Some made = ap (λ st. step_in st run.own) (sym h.stage_is) ∙ k in
          untaken_from c w ms made (fast_plain v run.own made is) (subst (AreServed c w ms) k h.served) g.idle;
    }

-- else the call votes at a later one
pub above_votes : (c : Config) (w : Caller) (past : List Trace) (run : Run) (ms : List Action) (v u : ℕ) → GoesOnAbove c w past run ms v → v < u → NextMeans c w run ms (Vote u) → IsGoalUnmet c w past (record run { stage = Fast u }) ms
above_votes c w past run ms v u g l n =
    let h : HasCast c w past run ms v = g.cast in
    record {
      ready = record { stands = stands_stage c w past run ms (Fast u) h.votes.stands; stage = n.0; unnoticed = h.votes.unnoticed; above = tt };
      going = h.votes.going;
      unmet = record { evident = n.2; gone = λ (s : ℕ) (row : RowAt) (i : s < c.n) (e : rows_known ms s ≡ Some row). omega (arith, g.gone s row i e) };
    }

-- or its value is chosen
pub above_finishes : (c : Config) (w : Caller) (past : List Trace) (run : Run) (ms : List Action) (v u : ℕ) → GoesOnAbove c w past run ms v → NextMeans c w run ms (Chosen u) → Finishes c w past run ms u
above_finishes c w past run ms v u g n = record { stands = g.cast.votes.stands; going = g.cast.votes.going; unnoticed = g.cast.votes.unnoticed; above = n.0; shown = n.1; own = n.2 }

-- a call that begins to vote at a version that wasn't collected goes on with its phase
pub begins_acts : (c : Config) (w : Caller) (past : List Trace) (run : Run) (ms : List Action) (v : ℕ) → BeginsFast c w past run ms v → top_floor_of run.rows < v → IsGoalUnmet c w past (record run { stage = Fast v }) ms
begins_acts c w past run ms v b above = record {
  ready = record { stands = stands_stage c w past run ms (Fast v) b.votes.stands; stage = b.votes.vote; unnoticed = b.votes.unnoticed; above = tt };
  going = b.votes.going;
  unmet = record { evident = b.none; gone = none_gone c run ms v b.votes.stands.knows above };
}
