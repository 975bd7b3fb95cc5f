-- What an event comes to: the call runs on, or its rows are done with.
use Rattle.std.proofs.Common.{◌≡◌, ◌≢◌, ℕ, zero, suc, ◌+◌, ◌<◌, ◌≤◌, Bool, true, false, cond, ◌||◌, List, [], ◌∷◌, Option, Some, None, is_some, option_map, refl, sym, ap, ◌∙◌, subst, inl, inr, ◌⊎◌, arith}
use Rattle.std.specs.Prelude.{nat_lt}
use Rattle.std.specs.List.{list_any, count_by}
use Rattle.std.proofs.lemmas.Bool.{cases_Bool, cond-true, cond-false, true≢false, false≢true, both_ways, or_cases, or_parts, ltb-true, ltb-false, false_from_ne_true}
use Rattle.std.proofs.lemmas.Option.{same_Some, none-some, slice_get_within}
use Rattle.gz_core.specs.Names.{Name, BallotAt}
use Rattle.gz_core.specs.Values.{name_of}
use Rattle.gz_core.specs.Rows.{RowAt}
use Rattle.gz_core.specs.Calls.{key_of}
use Rattle.gz_core.specs.Counts.{count_sites}
use Rattle.gz_core.specs.declared.calls.Answer.{Answer}
use Rattle.gz_core.specs.declared.calls.Answer.TheVariants.{Absent, Unborn, Collected, NoQuorum, Contended, Unsure}
use Rattle.gz_core.specs.declared.calls.UnsureWhy.{UnsureWhy}
use Rattle.gz_core.specs.declared.calls.UnsureWhy.TheVariants.{NoQuorum as UnsureNoQuorum, Contended as UnsureContended, Trimmed as UnsureTrimmed}
use Rattle.gz_core.specs.declared.calls.Phase.{Phase}
use Rattle.gz_core.specs.declared.values.Value.{Value}
use Rattle.gz_config.specs.declared.Config.{Config}
use Rattle.gz_core.specs.declared.requests.RowStep.{RowStep}
use Rattle.gz_core.specs.declared.requests.RowStep.TheVariants.{FastVote, Promise, ClassicVote, Decide}
use Rattle.gz_core.specs.declared.requests.Op.TheVariants.{WriteRow}
use Rattle.gz_core.specs.declared.requests.Out.{Out}
use Rattle.gz_accept.specs.declared.answers.Step.TheVariants.{Done}
use Rattle.gz_accept.specs.Steps.{decided}
use Rattle.gz_pick.specs.Looks.{highest_of}
use Rattle.gz_round.specs.declared.hearing.Seen.{Seen}
use Rattle.gz_round.specs.declared.run.Mark.{Mark}
use Rattle.gz_round.specs.declared.run.Run.{Run}
use Rattle.gz_round.specs.declared.run.Stage.{Stage}
use Rattle.gz_round.specs.declared.run.Stage.TheVariants.{Look, Fast, Prepare, Accept}
use Rattle.gz_core.specs.History.{Asked, Action, Sent, Caller, Trace, IsEarlier, asked_of, sent_from}
use Rattle.gz_round.specs.Starting.{MakeNoStep}
use Rattle.gz_round.specs.Steps.{IsStepOf}
use Rattle.gz_round.specs.Sites.{SiteNow, site_now, after_sent, known}
use Rattle.gz_round.specs.Sent.{met, last_promise}
use Rattle.gz_round.specs.Shown.{heard_at, IsShown, IsCurrent, IsQuorumHeard, HasFloor}
use Rattle.gz_round.specs.Targets.{target_of, looked_at}
use Rattle.gz_round.specs.Rounds.{promises_known, MayPromise, rounds_used, promises_above, above_known}
use Rattle.gz_round.specs.Sending.{MayMake, NoneAbove, NoneGone, IsUndecided, answer_of}
use Rattle.gz_round.specs.Counting.{IsUnnoticed, outs, known_count, IsGoing, IsNoticed, HasNotice}
use Rattle.gz_round.specs.Causes.{EndsBy, ComesTo, IsCutOff, IsOvertaken, UnsureCause, IsValueHeard, IsLearnt, IsUnborn, IsTrimmed, rows_known, is_blank}
use Rattle.gz_round.specs.Asking.{IsLeftBy, is_notice, round_of}
use Rattle.gz_round.specs.Standing.{Knows, Runs, Stands, StageStands, ArePassed, AreAskedAgain, IsWaiting, IsWorking, mark_of, awaited_of}
use Rattle.gz_round.specs.Following.{Asks, HasAsked, IsNoticeIfAny, IsPlain, MayMakeOf, HeldBy, HeldOf, AreDone, Turned, HasTurned}
use Rattle.gz_round.specs.Acting.{TakesStep, RunsOut, Finishes, IsShortIn, is_waiting, notice_for, working_version, version_in}
use Rattle.gz_round.specs.declared.outcome.Outcome.{Outcome}
use Rattle.gz_round.specs.declared.outcome.Outcome.TheVariants.{Goes, Placed, Learnt, Ends as EndsAs}
use Rattle.gz_round.specs.Goals.{AreServed, IsFewIn, IsSettledBy, looked_in, IsUnmet, IsSkipping, is_overtaken, is_overtaken_in, stage_step, step_in, vote_for}
use Rattle.gz_round.proofs.Lists.{count_same, any_found, any_told}
use Rattle.gz_round.proofs.Actions.{each_site}
use Rattle.gz_round.proofs.Columns.{highest_reached}
use Rattle.gz_round.proofs.Targets.{asked_by}
use Rattle.gz_round.proofs.Unpromised.{unpromised_sent}
use Rattle.gz_round.proofs.Votes.{voted_still}
use Rattle.gz_round.proofs.Known.{evidence_same, undecided_same, listed_known, last_known, known_last, known_after_sent, out_after_sent, row_after_sent}
use Rattle.gz_round.proofs.LookBacks.{earlier_refl, back_later, last_promised_at}

-- what one request more leaves holds after all requests of an event
pub over_sent : (P : List Action → Type 0) → ((a : Asked) (ms : List Action) → P ms → P (Sent a ∷ ms)) → (first : ℕ) (outs : List Out) (ms : List Action) → P ms → P (sent_from first outs ms)
over_sent P step first [] ms h = h
over_sent P step first (o ∷ os) ms h = over_sent P step (first + 1) os (Sent (asked_of first o) ∷ ms) (step (asked_of first o) ms h)

-- a number that requests leave
same_sent : (f : List Action → ℕ) → ((a : Asked) (ms : List Action) → f ms ≡ f (Sent a ∷ ms)) → (first : ℕ) (sent : List Out) (ms : List Action) → f ms ≡ f (sent_from first sent ms)
same_sent f step first sent ms = over_sent (λ ns. f ms ≡ f ns) (λ (a : Asked) (ns : List Action) (e : f ms ≡ f ns). e ∙ step a ns) first sent ms refl

-- the last row of a site
pub row_sent : (first : ℕ) (sent : List Out) (ms : List Action) (s : ℕ) → (site_now (sent_from first sent ms) s).row ≡ (site_now ms s).row
row_sent first sent ms s = over_sent (λ ns. (site_now ns s).row ≡ (site_now ms s).row) (λ (a : Asked) (ns : List Action) (e : (site_now ns s).row ≡ (site_now ms s).row). sym (row_after_sent a ns s) ∙ e) first sent ms refl

pub met_sent : (first : ℕ) (sent : List Out) (ms : List Action) → met ms ≡ met (sent_from first sent ms)
met_sent first sent ms = same_sent met (λ a ns. refl) first sent ms

pub outs_sent : (c : Config) (first : ℕ) (sent : List Out) (ms : List Action) → outs c ms ≡ outs c (sent_from first sent ms)
outs_sent c first sent ms = same_sent (outs c) (λ (a : Asked) (ns : List Action). count_same c.n (λ s. (site_now ns s).out) (λ s. (site_now (Sent a ∷ ns) s).out) (λ (s : ℕ) (l : s < c.n). out_after_sent a ns s)) first sent ms

pub known_sent : (c : Config) (first : ℕ) (sent : List Out) (ms : List Action) → known_count c ms ≡ known_count c (sent_from first sent ms)
known_sent c first sent ms = same_sent (known_count c) (λ (a : Asked) (ns : List Action). count_same c.n (λ s. is_some (known (site_now ns s))) (λ s. is_some (known (site_now (Sent a ∷ ns) s))) (λ (s : ℕ) (l : s < c.n). ap (λ o. is_some o) (known_after_sent a ns s))) first sent ms

pub heard_sent : (c : Config) (p : RowAt → Bool) (first : ℕ) (sent : List Out) (ms : List Action) → heard_at c p ms ≡ heard_at c p (sent_from first sent ms)
heard_sent c p first sent ms = same_sent (heard_at c p) (λ a ns. refl) first sent ms

pub shown_sent : (c : Config) (v : ℕ) (x : Name) (first : ℕ) (sent : List Out) (ms : List Action) → IsShown c ms v x → IsShown c (sent_from first sent ms) v x
shown_sent c v x first sent ms h = over_sent (λ ns. IsShown c ns v x) (λ a ns k. k) first sent ms h

pub current_sent : (c : Config) (v : ℕ) (first : ℕ) (sent : List Out) (ms : List Action) → IsCurrent c ms v → IsCurrent c (sent_from first sent ms) v
current_sent c v first sent ms h = over_sent (λ ns. IsCurrent c ns v) (λ a ns k. k) first sent ms h

quorum_sent : (c : Config) (first : ℕ) (sent : List Out) (ms : List Action) → IsQuorumHeard c ms → IsQuorumHeard c (sent_from first sent ms)
quorum_sent c first sent ms h = over_sent (λ ns. IsQuorumHeard c ns) (λ a ns k. k) first sent ms h

pub value_sent : (v : ℕ) (x : Value) (first : ℕ) (sent : List Out) (ms : List Action) → IsValueHeard ms v x → IsValueHeard (sent_from first sent ms) v x
value_sent v x first sent ms h = over_sent (λ ns. IsValueHeard ns v x) (λ a ns k. (k.0, k.1, inr k.2, k.3)) first sent ms h

-- the row that is known of a site
pub rows_sent : (first : ℕ) (sent : List Out) (ms : List Action) (s : ℕ) → rows_known (sent_from first sent ms) s ≡ rows_known ms s
rows_sent first sent ms s = over_sent (λ ns. rows_known ns s ≡ rows_known ms s) (λ (a : Asked) (ns : List Action) (e : rows_known ns s ≡ rows_known ms s). sym (known_after_sent a ns s) ∙ e) first sent ms refl

pub undecided_sent : (c : Config) (v : ℕ) (first : ℕ) (sent : List Out) (ms : List Action) → IsUndecided c ms v → IsUndecided c (sent_from first sent ms) v
undecided_sent c v first sent ms h = undecided_same c ms (sent_from first sent ms) v (rows_sent first sent ms) h

pub going_sent : (c : Config) (first : ℕ) (sent : List Out) (ms : List Action) → IsGoing c ms → IsGoing c (sent_from first sent ms)
going_sent c first sent ms h =
    let same_met : met ms ≡ met (sent_from first sent ms) = met_sent first sent ms in
    let same_outs : outs c ms ≡ outs c (sent_from first sent ms) = outs_sent c first sent ms in
    let few : met ms < c.tries = h.few in
    let enough : outs c ms + c.qc ≤ c.n = h.enough in
    record { few = omega arith; enough = omega arith }

cut_sent : (c : Config) (w : Caller) (past : List Trace) (run new : Run) (ms ns : List Action) (phase : Phase) (heard : ℕ) → Stands c w past run ms → Stands c w past new ns → new.wrote ≡ run.wrote → met ms ≡ met ns → outs c ms ≡ outs c ns → known_count c ms ≡ known_count c ns → IsCutOff c ms phase heard → IsCutOff c ns phase heard
cut_sent c w past run new ms ns phase heard h k wrote same_met same_outs same_known cut =
    let few = cut.few in
    let lost = cut.lost in
    record { few = omega arith; lost = omega arith; phase_is = cut.phase_is ∙ (sym h.wrote_is ∙ (sym wrote ∙ k.wrote_is)); heard_is = cut.heard_is ∙ same_known }

overtaken_sent : (c : Config) (ms ns : List Action) (m : ℕ) → met ms ≡ met ns → IsOvertaken c ms m → IsOvertaken c ns m
overtaken_sent c ms ns m same h = (omega (arith, h.0), h.1 ∙ same)

floor_sent : (c : Config) (floor : ℕ) (first : ℕ) (sent : List Out) (ms : List Action) → HasFloor c ms floor → HasFloor c (sent_from first sent ms) floor
floor_sent c floor first sent ms h = over_sent (λ ns. HasFloor c ns floor) (λ a ns k. k) first sent ms h

trimmed_sent : (c : Config) (w : Caller) (past : List Trace) (run new : Run) (first : ℕ) (sent : List Out) (ms : List Action) (floor : ℕ) → Stands c w past run ms → Stands c w past new (sent_from first sent ms) → new.last_vote ≡ run.last_vote → MakeNoStep sent → IsTrimmed c w ms floor → IsTrimmed c w (sent_from first sent ms) floor
trimmed_sent c w past run new first sent ms floor h k vote stepless cause = record { version = cause.version; voted = sym k.vote_is ∙ (vote ∙ (h.vote_is ∙ cause.voted)); gone = cause.gone; heard = floor_sent c floor first sent ms cause.heard; none = evidence_same c ms (sent_from first sent ms) cause.version (rows_sent first sent ms) cause.none; later = unpromised_sent first sent ms (cause.version + 1) stepless cause.later }

unsure_sent : (c : Config) (w : Caller) (past : List Trace) (run new : Run) (first : ℕ) (sent : List Out) (ms : List Action) (why : UnsureWhy) → Stands c w past run ms → Stands c w past new (sent_from first sent ms) → new.last_vote ≡ run.last_vote → new.wrote ≡ run.wrote → MakeNoStep sent → UnsureCause c w ms why → UnsureCause c w (sent_from first sent ms) why
unsure_sent c w past run new first sent ms (UnsureNoQuorum phase heard) h k vote wrote stepless cause = cut_sent c w past run new ms (sent_from first sent ms) phase heard h k wrote (met_sent first sent ms) (outs_sent c first sent ms) (known_sent c first sent ms) cause
unsure_sent c w past run new first sent ms (UnsureContended m) h k vote wrote stepless cause = overtaken_sent c ms (sent_from first sent ms) m (met_sent first sent ms) cause
unsure_sent c w past run new first sent ms (UnsureTrimmed floor) h k vote wrote stepless cause = (going_sent c first sent ms cause.0, trimmed_sent c w past run new first sent ms floor h k vote stepless cause.1)

unborn_sent : (c : Config) (w : Caller) (latest : ℕ) (first : ℕ) (sent : List Out) (ms : List Action) → IsUnborn c w ms latest → IsUnborn c w (sent_from first sent ms) latest
unborn_sent c w latest first sent ms h = record { reads = h.reads; version = h.version; asked = h.asked; above = h.above; current = current_sent c latest first sent ms h.current; shown = elim h.shown [ inl none ↦ inl none | inr k ↦ inr (k.0, shown_sent c latest k.0 first sent ms k.1) ] }

learnt_sent : (c : Config) (w : Caller) (v : ℕ) (x : Value) (first : ℕ) (sent : List Out) (ms : List Action) → IsLearnt c w ms v x → IsLearnt c w (sent_from first sent ms) v x
learnt_sent c w v x first sent ms h = record { reads = h.reads; asked = asked_by c (target_of w.call) ms (sent_from first sent ms) v (current_sent c v first sent ms) (quorum_sent c first sent ms) h.asked; shown = shown_sent c v (name_of x) first sent ms h.shown; heard = value_sent v x first sent ms h.heard }

-- requests leave the cause of an answer
cause_sent : (c : Config) (w : Caller) (past : List Trace) (run new : Run) (first : ℕ) (sent : List Out) (ms : List Action) (answer : Answer) → Stands c w past run ms → Stands c w past new (sent_from first sent ms) → new.last_vote ≡ run.last_vote → new.wrote ≡ run.wrote →
    MakeNoStep sent → EndsBy c w ms answer → EndsBy c w (sent_from first sent ms) answer
cause_sent c w past run new first sent ms Absent h k vote_same wrote_same stepless cause =
    (going_sent c first sent ms cause.0, record { reads = cause.1.reads; asked = cause.1.asked; blank = omega (arith, cause.1.blank, heard_sent c is_blank first sent ms) })
cause_sent c w past run new first sent ms (Unborn latest) h k vote_same wrote_same stepless cause = (going_sent c first sent ms cause.0, unborn_sent c w latest first sent ms cause.1)
cause_sent c w past run new first sent ms (Collected floor) h k vote_same wrote_same stepless cause =
    (going_sent c first sent ms cause.0, record { reads = cause.1.reads; version = cause.1.version; asked = cause.1.asked; gone = cause.1.gone; heard = floor_sent c floor first sent ms cause.1.heard; quorum = quorum_sent c first sent ms cause.1.quorum })
cause_sent c w past run new first sent ms (NoQuorum phase heard) h k vote_same wrote_same stepless cause =
    (voted_still c w past run new ms (sent_from first sent ms) h k vote_same ∙ cause.0, cut_sent c w past run new ms (sent_from first sent ms) phase heard h k wrote_same (met_sent first sent ms) (outs_sent c first sent ms) (known_sent c first sent ms) cause.1)
cause_sent c w past run new first sent ms (Contended m) h k vote_same wrote_same stepless cause =
    (voted_still c w past run new ms (sent_from first sent ms) h k vote_same ∙ cause.0, overtaken_sent c ms (sent_from first sent ms) m (met_sent first sent ms) cause.1)
cause_sent c w past run new first sent ms (Unsure why) h k vote_same wrote_same stepless cause =
    (voted_still c w past run new ms (sent_from first sent ms) h k vote_same ∙ cause.0, unsure_sent c w past run new first sent ms why h k vote_same wrote_same stepless cause.1)
cause_sent c w past run new first sent ms answer h k vote_same wrote_same stepless cause = absurd cause

-- a site that has answered all that was asked of it before one more request
quiet_before : (a : Asked) (now : SiteNow) → (after_sent a now).unanswered ≡ false → now.unanswered ≡ false
quiet_before a now e =
    elim (cases_Bool a.awaited) [
      | inl t ↦ absurd (true≢false (sym (ap (λ n. n.unanswered) (cond-true a.awaited _ now t)) ∙ e))
      | inr t ↦ sym (ap (λ n. n.unanswered) (cond-false a.awaited _ now t)) ∙ e
    ]

quiet_after_sent : (a : Asked) (ms : List Action) (s : ℕ) → (site_now (Sent a ∷ ms) s).unanswered ≡ false → (site_now ms s).unanswered ≡ false
quiet_after_sent a ms s = each_site (λ n. n.unanswered ≡ false → (site_now ms s).unanswered ≡ false) (Sent a) ms s (λ h. quiet_before a (site_now ms s)) (λ h. λ e. e)

noticed_one : (c : Config) (w : Caller) (v : ℕ) (a : Asked) (ms : List Action) → IsNoticed c w ms v → IsNoticed c w (Sent a ∷ ms) v
noticed_one c w v a ms h s l kept quiet seen last x own done =
    let notice = h s l (out_after_sent a ms s ∙ kept) (quiet_after_sent a ms s quiet) seen (row_after_sent a ms s ∙ last) x own done in
    (notice.0, inr notice.1)

-- and what the rows come to
comes_sent : (c : Config) (w : Caller) (past : List Trace) (run new : Run) (first : ℕ) (sent : List Out) (ms : List Action) (outcome : Outcome) → Stands c w past run ms → Stands c w past new (sent_from first sent ms) → new.last_vote ≡ run.last_vote → new.wrote ≡ run.wrote →
    MakeNoStep sent → ComesTo c w ms outcome → ComesTo c w (sent_from first sent ms) outcome
comes_sent c w past run new first sent ms Goes h k vote_same wrote_same stepless comes = absurd comes
comes_sent c w past run new first sent ms (Placed v) h k vote_same wrote_same stepless comes =
    (going_sent c first sent ms comes.0, (comes.1.0, comes.1.1, shown_sent c v w.name first sent ms comes.1.2), over_sent (λ ns. IsNoticed c w ns v) (noticed_one c w v) first sent ms comes.2)
comes_sent c w past run new first sent ms (Learnt v x) h k vote_same wrote_same stepless comes = (going_sent c first sent ms comes.0, learnt_sent c w v x first sent ms comes.1)
comes_sent c w past run new first sent ms (EndsAs answer) h k vote_same wrote_same stepless comes = cause_sent c w past run new first sent ms answer h k vote_same wrote_same stepless comes

-- each site that was served was asked again
pub again_from : (c : Config) (w : Caller) (ms : List Action) (step : Option RowStep) → AreServed c w ms step → AreAskedAgain c ms
again_from c w ms step served s l may idle =
    elim (cases_Bool (site_now ms s).out) [
      | inl e ↦ e
      | inr e ↦ (let k = served s l idle e in elim may [ inl none ↦ absurd (none-some k.0 (sym none ∙ k.1)) | inr changed ↦ absurd (both_ways (site_now ms s).changed k.2 changed) ])
    ]

turned_done : (c : Config) (w : Caller) (past : List Trace) (run : Run) (ms : List Action) (outcome : Outcome) → AreDone c w past run ms outcome → Turned c w past run ms outcome
turned_done c w past run ms Goes done = absurd done.comes
turned_done c w past run ms outcome done = done

-- the rows of a call are done with after its reads
pub close_turned : (c : Config) (w : Caller) (past : List Trace) (run new : Run) (ms : List Action) (first : ℕ) (sent : List Out) (outcome : Outcome) → Stands c w past run ms → ComesTo c w ms outcome →
    HasAsked c w past new ms (sent_from first sent ms) None → IsLeftBy run new None → MakeNoStep sent → Turned c w past new (sent_from first sent ms) outcome
close_turned c w past run new ms first sent outcome h comes asks left stepless =
    turned_done c w past new (sent_from first sent ms) outcome (record {
      key_is = asks.stands.key_is;
      own_is = asks.stands.own_is;
      allowed = asks.stands.allowed;
      reads = again_from c w (sent_from first sent ms) None asks.served;
      comes = comes_sent c w past run new first sent ms outcome h asks.stands (left.vote refl) (left.wrote refl) stepless comes;
      round_is = asks.stands.round_is;
    })

idle_from : (o : Option Asked) (b : Bool) → b ≡ is_some o → b ≡ false → o ≡ None
idle_from None b e f = refl
idle_from (Some a) b e f = absurd (true≢false (sym e ∙ f))

noticed_from : (c : Config) (w : Caller) (past : List Trace) (run : Run) (ms : List Action) (v : ℕ) (x : Value) → Stands c w past run ms → w.own ≡ Some x → AreServed c w ms (Some (Decide v x)) → IsNoticed c w ms v
noticed_from c w past run ms v x h own served s l kept quiet seen last other is_own done =
    let idle : (site_now ms s).awaits ≡ None = idle_from (site_now ms s).awaits (site_now ms s).unanswered (h.sites s).answered quiet in
    let k = served s l idle kept in
    let same : k.0 ≡ seen = same_Some k.0 seen (sym k.1 ∙ last) in
    let value : x ≡ other = same_Some x other (sym own ∙ is_own) in
    let settled : IsSettledBy w ms s seen (Some (Decide v x)) = subst (λ (z : Seen). IsSettledBy w ms s z (Some (Decide v x))) same k.3 in
    subst (λ (z : Value). HasNotice ms s (WriteRow (key_of w.call) seen.etag (Decide v z) (decided seen.row v z))) value (settled done).1

-- the notice that the call's value is chosen is a step, which may be made
pub vote_is_step : (v : ℕ) (own : Option Value) → 1 ≤ v → IsStepOf (vote_for v own)
vote_is_step v None l = tt
vote_is_step v (Some x) l = l

notice_is_step : (v : ℕ) (own : Option Value) → 1 ≤ v → IsStepOf (notice_for v own)
notice_is_step v None l = tt
notice_is_step v (Some x) l = l

notice_if_any : (v : ℕ) (own : Option Value) → IsNoticeIfAny (notice_for v own)
notice_if_any v None = tt
notice_if_any v (Some x) = refl

pub finish_step : (run : Run) (v : ℕ) (step : Option RowStep) → 1 ≤ v → step ≡ notice_for v run.own → IsStepOf step
finish_step run v step l is = subst IsStepOf (sym is) (notice_is_step v run.own l)

-- which is a notice, if it is any
pub finish_notice : (run : Run) (v : ℕ) (step : Option RowStep) → step ≡ notice_for v run.own → IsNoticeIfAny step
finish_notice run v step is = subst IsNoticeIfAny (sym is) (notice_if_any v run.own)

pub finish_asks : (c : Config) (w : Caller) (past : List Trace) (run : Run) (ms : List Action) (v : ℕ) (step : Option RowStep) → Finishes c w past run ms v → step ≡ notice_for v run.own → Asks c w past run ms step
finish_asks c w past run ms v step f is =
    let x : Value = f.own.0 in
    let own : w.own ≡ Some x = f.own.1 in
    let step_is : step ≡ Some (Decide v x) = is ∙ ap (notice_for v) (f.stands.own_is ∙ own) in
    let shown : IsShown c ms v (name_of x) = subst (λ (n : Name). IsShown c ms v n) (sym (f.stands.named x own)) f.shown in
    record { stands = f.stands; may = subst (MayMakeOf c w past ms) (sym step_is) (shown, inl own); held = subst (HeldOf c w past ms) (sym step_is) tt; unnoticed = f.unnoticed }

-- a call whose value is chosen, once the others got a notice
pub finish_turned : (c : Config) (w : Caller) (past : List Trace) (run new : Run) (ms : List Action) (first : ℕ) (sent : List Out) (v : ℕ) (step : Option RowStep) → Finishes c w past run ms v → step ≡ notice_for v run.own →
    (Asks c w past run ms step → HasAsked c w past new ms (sent_from first sent ms) step) → Turned c w past new (sent_from first sent ms) (Placed v)
finish_turned c w past run new ms first sent v step f is asked =
    let x : Value = f.own.0 in
    let own : w.own ≡ Some x = f.own.1 in
    let step_is : step ≡ Some (Decide v x) = is ∙ ap (notice_for v) (f.stands.own_is ∙ own) in
    let done = asked (finish_asks c w past run ms v step f is) in
    let served : AreServed c w (sent_from first sent ms) (Some (Decide v x)) = subst (AreServed c w (sent_from first sent ms)) step_is done.served in
    record {
      key_is = done.stands.key_is;
      own_is = done.stands.own_is;
      allowed = done.stands.allowed;
      reads = again_from c w (sent_from first sent ms) step done.served;
      comes = (going_sent c first sent ms f.going, (x, own, shown_sent c v w.name first sent ms f.shown), noticed_from c w past new (sent_from first sent ms) v x done.stands own served);
      round_is = done.stands.round_is;
    }

-- no known row promises a ballot above
pub none_above_listed : (c : Config) (run : Run) (ms : List Action) (v : ℕ) (b : BallotAt) → Knows c run ms → list_any (above_known v b) run.rows ≡ false → NoneAbove c ms v b
none_above_listed c run ms v b k none s row l e =
    elim (cases_Bool (promises_above row v b)) [
      | inl above ↦ absurd (both_ways (list_any (above_known v b) run.rows) none (any_told (above_known v b) run.rows s (Some row) (k.rows s l ∙ ap (λ o. Some o) e) above))
      | inr above ↦ above
    ]

-- and so none was passed
pub none_passed : (c : Config) (ms : List Action) (v : ℕ) (b : BallotAt) → NoneAbove c ms v b → ArePassed c ms v b
none_passed c ms v b none s row l e above = absurd (both_ways (promises_above row v b) (none s row l e) above)

-- a ballot that isn't overtaken was promised last
pub last_of : (past : List Trace) (run : Run) (ms : List Action) (v : ℕ) (b : BallotAt) (found : Option Value) → run.round ≡ rounds_used past ms → (last_promise ms ≡ Some (v, b)) ⊎ (rounds_used past ms < b.round) → is_overtaken_in run (Prepare v b found) ≡ false → last_promise ms ≡ Some (v, b)
last_of past run ms v b found e (inl last) ahead = last
last_of past run ms v b found e (inr low) ahead = let far = ltb-false run.round b.round (or_parts (nat_lt run.round b.round) (list_any (above_known v b) run.rows) ahead).0 in absurd (omega arith)

-- and may be promised again
pub last_may : (c : Config) (w : Caller) (past : List Trace) (ms : List Action) (v : ℕ) (b : BallotAt) → IsWorking c w past ms v b → last_promise ms ≡ Some (v, b) → MayPromise c w past ms v b
last_may c w past ms v b h last = record { above = h.pass.above; classic = h.classic; session = h.session; unused = h.unused; round = inr last; grounded = h.grounded; passed = h.passed }

-- the step of a phase may be made
stage_may : (c : Config) (w : Caller) (past : List Trace) (run : Run) (ms : List Action) (stage : Stage) → Stands c w past run ms → StageStands c w past stage ms → is_overtaken_in run stage ≡ false → MayMakeOf c w past ms (step_in stage run.own)
stage_may c w past run ms Look h s ahead = tt
stage_may c w past run ms (Fast v) h s ahead = subst (λ o. MayMakeOf c w past ms (vote_for v o)) (sym (h.own_is ∙ s.own.1)) (s.own.1, s.may)
stage_may c w past run ms (Prepare v b found) h s ahead = last_may c w past ms v b s.0.works (last_of past run ms v b found h.round_is s.0.used ahead)
stage_may c w past run ms (Accept v b x) h s ahead = s.0

-- it is a step
stage_is_step : (c : Config) (w : Caller) (past : List Trace) (own : Option Value) (ms : List Action) (stage : Stage) → StageStands c w past stage ms → IsStepOf (step_in stage own)
stage_is_step c w past own ms Look s = tt
stage_is_step c w past own ms (Fast v) s = vote_is_step v own s.may.above
stage_is_step c w past own ms (Prepare v b found) s = (s.0.works.pass.above, s.0.works.classic)
stage_is_step c w past own ms (Accept v b x) s = (s.0.above, s.1.works.classic)

-- the phase holds what is kept while the step is made
stage_held : (c : Config) (w : Caller) (past : List Trace) (run : Run) (ms : List Action) (stage : Stage) → Stands c w past run ms → StageStands c w past stage ms → is_overtaken_in run stage ≡ false → HeldOf c w past ms (step_in stage run.own)
stage_held c w past run ms Look h s ahead = tt
stage_held c w past run ms (Fast v) h s ahead = subst (λ o. HeldOf c w past ms (vote_for v o)) (sym (h.own_is ∙ s.own.1)) (s.unpromised, s.votes)
stage_held c w past run ms (Prepare v b found) h s ahead = (s.0, none_above_listed c run ms v b h.knows (or_parts (nat_lt run.round b.round) (list_any (above_known v b) run.rows) ahead).1)
stage_held c w past run ms (Accept v b x) h s ahead = (s.1, none_above_listed c run ms v b h.knows ahead)

-- and once it was made at the sites the phase goes on to stand
pub stage_kept : (c : Config) (w : Caller) (past : List Trace) (run new : Run) (ms ns : List Action) (stage : Stage) → Stands c w past run ms → Stands c w past new ns → IsLeftBy run new (step_in stage run.own) → IsEarlier ms ns → is_overtaken_in run stage ≡ false → StageStands c w past stage ms → MayMakeOf c w past ns (step_in stage run.own) → HeldOf c w past ns (step_in stage run.own) → StageStands c w past stage ns
stage_kept c w past run new ms ns Look h k left then ahead s may held = (voted_still c w past run new ms ns h k (left.vote refl) ∙ s.0, sym k.wrote_is ∙ (left.wrote refl ∙ (h.wrote_is ∙ s.1)))
stage_kept c w past run new ms ns (Fast v) h k left then ahead s may held =
    let made : MayMake c w past ns (FastVote v s.own.0) = subst (λ o. MayMakeOf c w past ns (vote_for v o)) (h.own_is ∙ s.own.1) may in
    let kept : HeldBy c w past ns (FastVote v s.own.0) = subst (λ o. HeldOf c w past ns (vote_for v o)) (h.own_is ∙ s.own.1) held in
    record { may = made.1; own = s.own; unpromised = kept.0; votes = kept.1 }
stage_kept c w past run new ms ns (Prepare v b found) h k left then ahead s may held =
    let last : last_promise ms ≡ Some (v, b) = last_of past run ms v b found h.round_is s.0.used ahead in
    (held.0, none_passed c ns v b held.1, λ reads again. (back_later c ms ns v b found then (last_promised_at ms v b last) (s.2 reads last)).1)
stage_kept c w past run new ms ns (Accept v b x) h k left then ahead s may held = (may, held.0, none_passed c ns v b held.1)

-- what was there before the requests of an event
pub earlier_sent : (first : ℕ) (sent : List Out) (ms : List Action) → IsEarlier ms (sent_from first sent ms)
earlier_sent first sent ms = over_sent (IsEarlier ms) (λ (a : Asked) (ns : List Action) (h : IsEarlier ms ns). inr h) first sent ms (earlier_refl ms)

awaits_some : (o : Option Asked) → is_some (option_map awaited_of o) ≡ true → (a : Asked) × (o ≡ Some a)
awaits_some None h = absurd (false≢true h)
awaits_some (Some a) h = (a, refl)

pub waits_from : (c : Config) (run : Run) (ms : List Action) → Knows c run ms → list_any (λ mark. is_some mark.awaited) run.marks ≡ true → IsWaiting c ms
waits_from c run ms k h =
    let w = any_found (λ mark. is_some mark.awaited) run.marks h in
    let inside : w.0 < c.n = let len = k.marks_len in omega (arith, slice_get_within run.marks w.0 w.1 w.2) in
    let same : w.1 ≡ mark_of (site_now ms w.0) = same_Some w.1 (mark_of (site_now ms w.0)) (sym w.2 ∙ k.marks w.0 inside) in
    let some = awaits_some (site_now ms w.0).awaits (subst (λ (m : Mark). is_some m.awaited ≡ true) same w.3) in
    (w.0, some.0, inside, some.1)

pub idle_of : (c : Config) (run : Run) (ms : List Action) (s : ℕ) (o : Option Asked) → Knows c run ms → list_any (λ mark. is_some mark.awaited) run.marks ≡ false → s < c.n → (site_now ms s).awaits ≡ o → o ≡ None
idle_of c run ms s None k h l e = refl
idle_of c run ms s (Some a) k h l e =
    absurd (both_ways (list_any (λ mark. is_some mark.awaited) run.marks) h (any_told (λ mark. is_some mark.awaited) run.marks s (mark_of (site_now ms s)) (k.marks s l) (ap (λ (p : Option Asked). is_some (option_map awaited_of p)) e)))

cover_step : (a b : Bool) (n x y : ℕ) → (a ≡ true) ⊎ (b ≡ true) → n ≤ x + y → suc n ≤ cond a (suc x) x + cond b (suc y) y
cover_step true true n x y h l = omega arith
cover_step true false n x y h l = omega arith
cover_step false true n x y h l = omega arith
cover_step false false n x y (inl e) l = absurd (false≢true e)
cover_step false false n x y (inr e) l = absurd (false≢true e)

-- two tests that cover the sites
count_cover : (n : ℕ) (p q : ℕ → Bool) → ((s : ℕ) → s < n → (p s ≡ true) ⊎ (q s ≡ true)) → n ≤ count_sites n p + count_sites n q
count_cover zero p q h = omega arith
count_cover (suc n) p q h = cover_step (p n) (q n) n (count_sites n p) (count_sites n q) (h n (omega arith)) (count_cover n p q (λ (s : ℕ) (l : s < n). h s (omega arith)))

-- where nothing is awaited after a pass, each site that isn't out is known
pub heard_from : (c : Config) (w : Caller) (ms : List Action) (step : Option RowStep) → AreServed c w ms step → ((s : ℕ) → s < c.n → (site_now ms s).awaits ≡ None) → (s : ℕ) → s < c.n → (site_now ms s).out ≡ false → (row : RowAt) × (rows_known ms s ≡ Some row)
heard_from c w ms step served idle s l kept = let k = served s l (idle s l) kept in (k.0.row, last_known (site_now ms s) k.0 k.1 kept)

-- and so a classic quorum of sites is known
pub quorum_known : (c : Config) (ms : List Action) → ((s : ℕ) → s < c.n → (site_now ms s).out ≡ false → (row : RowAt) × (rows_known ms s ≡ Some row)) → outs c ms + c.qc ≤ c.n → c.qc ≤ known_count c ms
quorum_known c ms heard enough =
    let cover : c.n ≤ outs c ms + known_count c ms = count_cover c.n (λ s. (site_now ms s).out) (λ s. is_some (known (site_now ms s))) (λ (s : ℕ) (l : s < c.n). elim (cases_Bool (site_now ms s).out) [ inl e ↦ inl e | inr e ↦ inr (ap (λ o. is_some o) (heard s l e).1) ]) in
    omega arith

-- a call looks at a version that isn't collected where one is known to have begun
looked_above : (c : Config) (run : Run) (ms : List Action) (v : ℕ) → Knows c run ms → 1 ≤ highest_of run.rows → NoneGone c ms v → 1 ≤ v
looked_above c run ms v k above none =
    elim (highest_reached run.rows) [
      | inl zero_is ↦ absurd (omega arith)
      | inr top ↦ (
          let inside : top.0 < c.n = let len = k.rows_len in omega (arith, slice_get_within run.rows top.0 (Some top.1) top.2) in
          omega (arith, none top.0 top.1 inside (listed_known c run ms k top.0 top.1 inside top.2)))
    ]

-- a phase that goes on has a version to work at, where no value is known to be chosen and which isn't collected
unmet_out : (c : Config) (w : Caller) (past : List Trace) (run : Run) (ms : List Action) (stage : Stage) (first : ℕ) (sent : List Out) → Knows c run ms → c.qc ≤ known_count c (sent_from first sent ms) → StageStands c w past stage ms → IsUnmet c run stage ms → (1 ≤ version_in stage (looked_in run)) × IsUndecided c (sent_from first sent ms) (version_in stage (looked_in run))
unmet_out c w past run ms Look first sent k enough s (inl few) = let same = known_sent c first sent ms in absurd (omega arith)
unmet_out c w past run ms Look first sent k enough s (inr none) = (looked_above c run ms (looked_in run) k none.0 none.1.gone, undecided_sent c (looked_in run) first sent ms none.1)
unmet_out c w past run ms (Fast v) first sent k enough s none = (s.may.above, undecided_sent c v first sent ms none)
unmet_out c w past run ms (Prepare v b found) first sent k enough s none = (s.0.works.pass.above, undecided_sent c v first sent ms none)
unmet_out c w past run ms (Accept v b x) first sent k enough s none = (s.1.works.pass.above, undecided_sent c v first sent ms none)

looked_left : (run new : Run) → new.rows ≡ run.rows → new.target ≡ run.target → looked_in new ≡ looked_in run
looked_left run new rows target = ap (λ t. looked_at t (highest_of new.rows)) target ∙ ap (λ known. looked_at run.target (highest_of known)) rows

-- requests leave a goal unmet
unmet_sent : (c : Config) (run new : Run) (ms : List Action) (stage : Stage) (first : ℕ) (sent : List Out) → new.rows ≡ run.rows → new.target ≡ run.target → IsUnmet c run stage ms → IsUnmet c new stage (sent_from first sent ms)
unmet_sent c run new ms Look first sent rows target (inl few) = let same = known_sent c first sent ms in inl (omega arith)
unmet_sent c run new ms Look first sent rows target (inr none) =
    let above : 1 ≤ highest_of run.rows = none.0 in
    inr (subst (λ (known : List (Option RowAt)). 1 ≤ highest_of known) (sym rows) above, subst (IsUndecided c (sent_from first sent ms)) (sym (looked_left run new rows target)) (undecided_sent c (looked_in run) first sent ms none.1))
unmet_sent c run new ms (Fast v) first sent rows target none = undecided_sent c v first sent ms none
unmet_sent c run new ms (Prepare v b found) first sent rows target none = undecided_sent c v first sent ms none
unmet_sent c run new ms (Accept v b x) first sent rows target none = undecided_sent c v first sent ms none

-- the step of a phase is no notice
stage_plain : (stage : Stage) (own : Option Value) (step : RowStep) → step_in stage own ≡ Some step → is_notice step ≡ false
stage_plain Look own step e = absurd (none-some step e)
stage_plain (Fast v) None step e = absurd (none-some step e)
stage_plain (Fast v) (Some x) step e = sym (ap is_notice (same_Some (FastVote v x) step e))
stage_plain (Prepare v b found) own step e = sym (ap is_notice (same_Some (Promise v b) step e))
stage_plain (Accept v b x) own step e = sym (ap is_notice (same_Some (ClassicVote v b x) step e))

plain_from : (o : Option RowStep) → ((step : RowStep) → o ≡ Some step → is_notice step ≡ false) → IsPlain o
plain_from None h = tt
plain_from (Some step) h = h step refl

-- where nothing is awaited after a pass, no known row takes the step
pub untaken_from : (c : Config) (w : Caller) (ms : List Action) (step : RowStep) → is_notice step ≡ false → AreServed c w ms (Some step) → ((s : ℕ) → s < c.n → (site_now ms s).awaits ≡ None) → (s : ℕ) (row : RowAt) → s < c.n → rows_known ms s ≡ Some row → answer_of step row ≢ Done
untaken_from c w ms step plain served idle s row l e done =
    let last = known_last (site_now ms s) row e in
    let k = served s l (idle s l) last.3 in
    let same : k.0.row ≡ row = ap (λ (z : Seen). z.row) (same_Some k.0 last.0 (sym k.1 ∙ last.1)) ∙ last.2 in
    both_ways (is_notice step) plain (k.3 (ap (answer_of step) same ∙ done)).0

short_from : (c : Config) (run : Run) (stage : Stage) → IsFewIn c run stage → is_overtaken_in run stage ≡ false → IsShortIn c run.rows stage
short_from c run Look few ahead = tt
short_from c run (Fast v) few ahead = tt
short_from c run (Prepare v b found) (inl l) ahead = let far = ltb-false run.round b.round (or_parts (nat_lt run.round b.round) (list_any (above_known v b) run.rows) ahead).0 in absurd (omega arith)
short_from c run (Prepare v b found) (inr l) ahead = l
short_from c run (Accept v b x) few ahead = tt

-- and so few promise the ballot still
few_still : (c : Config) (run new : Run) (stage : Stage) → new.rows ≡ run.rows → IsShortIn c run.rows stage → IsFewIn c new stage
few_still c run new Look rows short = tt
few_still c run new (Fast v) rows short = tt
few_still c run new (Prepare v b found) rows short = inr (subst (λ (known : List (Option RowAt)). count_by (promises_known v b) known < c.qc) (sym rows) short)
few_still c run new (Accept v b x) rows short = tt

-- a ballot that isn't overtaken isn't once more of its promises were sent
still_ahead : (run new : Run) (stage : Stage) → new.rows ≡ run.rows → run.round ≤ new.round → is_overtaken_in run stage ≡ false → is_overtaken_in new stage ≡ false
still_ahead run new Look rows rises e = refl
still_ahead run new (Fast v) rows rises e = refl
still_ahead run new (Prepare v b found) rows rises e =
    let parts = or_parts (nat_lt run.round b.round) (list_any (above_known v b) run.rows) e in
    let far = ltb-false run.round b.round parts.0 in
    false_from_ne_true (is_overtaken_in new (Prepare v b found)) (λ (k : (nat_lt new.round b.round || list_any (above_known v b) new.rows) ≡ true). elim (or_cases (nat_lt new.round b.round) (list_any (above_known v b) new.rows) k) [
      | inl low ↦ (let near = ltb-true new.round b.round low in omega arith)
      | inr above ↦ both_ways (list_any (above_known v b) run.rows) parts.1 (sym (ap (list_any (above_known v b)) rows) ∙ above)
    ])
still_ahead run new (Accept v b x) rows rises e = ap (list_any (above_known v b)) rows ∙ e

-- the step of the phase stays the same
step_left : (run new : Run) (step : Option RowStep) → step ≡ stage_step run → IsLeftBy run new step → step ≡ stage_step new
step_left run new step is left = is ∙ (ap (step_in run.stage) (sym left.own) ∙ ap (λ st. step_in st new.own) (sym left.stage))

-- and is awaited, where there is one
pub step_plain : (run : Run) (step : Option RowStep) → step ≡ stage_step run → IsPlain step
step_plain run step is = subst IsPlain (sym is) (plain_from (step_in run.stage run.own) (stage_plain run.stage run.own))

-- after the step was made at each site that takes it
pub record Stepped (c : Config) (w : Caller) (past : List Trace) (new : Run) (ms : List Action) : Type 0 where
  pub stands : Stands c w past new ms
  pub stage : StageStands c w past new.stage ms
  pub unmet : IsUnmet c new new.stage ms ⊎ IsSkipping c w new.stage ms
  pub few : IsFewIn c new new.stage
  pub ahead : is_overtaken new ≡ false
  pub served : AreServed c w ms (stage_step new)
  pub unnoticed : IsUnnoticed ms
  pub going : IsGoing c ms

pub steps_step : (c : Config) (w : Caller) (past : List Trace) (run : Run) (ms : List Action) (step : Option RowStep) → TakesStep c w past run ms → step ≡ stage_step run → IsStepOf step
steps_step c w past run ms step p is = subst IsStepOf (sym is) (stage_is_step c w past run.own ms run.stage p.carries.acts.ready.stage)

pub steps_ask : (c : Config) (w : Caller) (past : List Trace) (run : Run) (ms : List Action) (step : Option RowStep) → TakesStep c w past run ms → step ≡ stage_step run → Asks c w past run ms step
steps_ask c w past run ms step p is =
    let a = p.carries.acts in
    let h : Stands c w past run ms = a.ready.stands in
    record { stands = h; may = subst (MayMakeOf c w past ms) (sym is) (stage_may c w past run ms run.stage h a.ready.stage p.ahead); held = subst (HeldOf c w past ms) (sym is) (stage_held c w past run ms run.stage h a.ready.stage p.ahead); unnoticed = a.ready.unnoticed }

pub stepped_from : (c : Config) (w : Caller) (past : List Trace) (run new : Run) (ms : List Action) (first : ℕ) (sent : List Out) (step : Option RowStep) → TakesStep c w past run ms → step ≡ stage_step run →
    (Asks c w past run ms step → HasAsked c w past new ms (sent_from first sent ms) step) → IsLeftBy run new step → Stepped c w past new (sent_from first sent ms)
stepped_from c w past run new ms first sent step p is asked left =
    let a = p.carries.acts in
    let h : Stands c w past run ms = a.ready.stands in
    let done = asked (steps_ask c w past run ms step p is) in
    let k : Stands c w past new (sent_from first sent ms) = done.stands in
    let stage : StageStands c w past run.stage (sent_from first sent ms) = stage_kept c w past run new ms (sent_from first sent ms) run.stage h k (subst (IsLeftBy run new) is left) (earlier_sent first sent ms) p.ahead a.ready.stage (subst (MayMakeOf c w past (sent_from first sent ms)) is done.may) (subst (HeldOf c w past (sent_from first sent ms)) is done.held) in
    let steps : step ≡ stage_step new = step_left run new step is left in
    record {
      stands = k;
      stage = subst (λ st. StageStands c w past st (sent_from first sent ms)) (sym left.stage) stage;
      unmet = inl (subst (λ st. IsUnmet c new st (sent_from first sent ms)) (sym left.stage) (unmet_sent c run new ms run.stage first sent left.rows left.target a.unmet));
      few = subst (λ st. IsFewIn c new st) (sym left.stage) (few_still c run new run.stage left.rows (short_from c run run.stage p.carries.few p.ahead));
      ahead = subst (λ st. is_overtaken_in new st ≡ false) (sym left.stage) (still_ahead run new run.stage left.rows left.rises p.ahead);
      served = subst (AreServed c w (sent_from first sent ms)) steps done.served;
      unnoticed = done.unnoticed (step_plain run step is);
      going = going_sent c first sent ms a.going;
    }

-- a request is awaited, and the call runs on
pub stepped_runs : (c : Config) (w : Caller) (past : List Trace) (new : Run) (ms : List Action) → Stepped c w past new ms → is_waiting new ≡ true → HasTurned c w past new ms Goes
stepped_runs c w past new ms p e =
    let runs : Runs c w past new ms = record {
      stands = p.stands;
      stage = p.stage;
      unmet = p.unmet;
      few = p.few;
      ahead = p.ahead;
      again = again_from c w ms (stage_step new) p.served;
      served = p.served;
      unnoticed = p.unnoticed;
      going = p.going;
      waits = waits_from c new ms p.stands.knows e;
    } in
    ([], inl refl, runs)

-- nothing is awaited, so that nothing was sent, and the phase has ended without its goal
pub stepped_out : (c : Config) (w : Caller) (past : List Trace) (run new : Run) (ms : List Action) (first : ℕ) (sent : List Out) (step : Option RowStep) → TakesStep c w past run ms → step ≡ stage_step run → IsLeftBy run new step → Stepped c w past new (sent_from first sent ms) → is_waiting new ≡ false → sent ≡ [] → RunsOut c w past new ms
stepped_out c w past run new ms first sent step p is left q e none =
    let a = p.carries.acts in
    let idle : (s : ℕ) → s < c.n → (site_now (sent_from first sent ms) s).awaits ≡ None = λ (s : ℕ) (l : s < c.n). idle_of c new (sent_from first sent ms) s (site_now (sent_from first sent ms) s).awaits q.stands.knows e l refl in
    let heard = heard_from c w (sent_from first sent ms) (stage_step new) q.served idle in
    let enough : c.qc ≤ known_count c (sent_from first sent ms) = quorum_known c (sent_from first sent ms) heard q.going.enough in
    let unmet = unmet_out c w past run ms run.stage first sent a.ready.stands.knows enough a.ready.stage a.unmet in
    let version : version_in run.stage (looked_in run) ≡ working_version new = ap (version_in run.stage) (sym (looked_left run new left.rows left.target)) ∙ ap (λ st. version_in st (looked_in new)) (sym left.stage) in
    let out : RunsOut c w past new (sent_from first sent ms) = record {
      stands = q.stands;
      stage = q.stage;
      going = q.going;
      unnoticed = q.unnoticed;
      short = subst (λ st. IsShortIn c new.rows st) (sym left.stage) (subst (λ rows. IsShortIn c rows run.stage) (sym left.rows) (short_from c run run.stage p.carries.few p.ahead));
      ahead = q.ahead;
      above = subst (λ (n : ℕ). 1 ≤ n) version unmet.0;
      none = subst (IsUndecided c (sent_from first sent ms)) version unmet.1;
      idle = idle;
      heard = heard;
      again = again_from c w (sent_from first sent ms) (stage_step new) q.served;
      untaken = λ (made : RowStep) (k : stage_step new ≡ Some made). untaken_from c w (sent_from first sent ms) made (stage_plain new.stage new.own made k) (subst (AreServed c w (sent_from first sent ms)) k q.served) idle;
    } in
    subst (λ outs. RunsOut c w past new (sent_from first outs ms)) none out

-- the step of a phase whose ballot isn't overtaken promises no later round
stage_round : (run : Run) (stage : Stage) (own : Option Value) → is_overtaken_in run stage ≡ false → round_of (step_in stage own) ≤ run.round
stage_round run Look own ahead = omega arith
stage_round run (Fast v) None ahead = omega arith
stage_round run (Fast v) (Some x) ahead = omega arith
stage_round run (Prepare v b found) own ahead = let far = ltb-false run.round b.round (or_parts (nat_lt run.round b.round) (list_any (above_known v b) run.rows) ahead).0 in omega arith
stage_round run (Accept v b x) own ahead = omega arith

pub stepped_round : (run new : Run) (step : Option RowStep) → step ≡ stage_step run → is_overtaken run ≡ false → IsLeftBy run new step → new.round ≤ run.round
stepped_round run new step is ahead left =
    let low = stage_round run run.stage run.own ahead in
    let same = ap round_of is in
    omega (arith, left.round)
