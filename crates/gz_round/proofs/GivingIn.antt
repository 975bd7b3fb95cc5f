-- A call whose phase leads no further gives in: every site goes out.
use Rattle.std.proofs.Common.{◌≡◌, ◌≢◌, ℕ, zero, suc, ◌<◌, true, false, List, [], ◌∷◌, Some, is_some, refl, sym, ap, ◌∙◌, subst, inl, inr, arith}
use Rattle.std.specs.List.{list_any, count_by}
use Rattle.std.specs.Prelude.{nat_lt, Option}
use Rattle.std.proofs.lemmas.Bool.{cases_Bool, cond-true, cond-false, or_parts}
use Rattle.std.proofs.lemmas.Option.{same_Some, none-some}
use Rattle.gz_core.specs.Names.{BallotAt}
use Rattle.gz_core.specs.Counts.{count_sites}
use Rattle.gz_core.specs.Configurations.{IsConfig}
use Rattle.gz_core.specs.declared.calls.Answer.{Answer}
use Rattle.gz_core.specs.declared.calls.Answer.TheVariants.{NoQuorum, Unsure}
use Rattle.gz_core.specs.declared.calls.UnsureWhy.TheVariants.{NoQuorum as UnsureNoQuorum}
use Rattle.gz_core.specs.Rows.{RowAt}
use Rattle.gz_core.specs.declared.values.Value.{Value}
use Rattle.gz_accept.specs.declared.answers.Step.TheVariants.{Done, Already}
use Rattle.gz_config.specs.declared.Config.{Config}
use Rattle.gz_core.specs.declared.requests.RowStep.{RowStep}
use Rattle.gz_core.specs.declared.requests.RowStep.TheVariants.{Promise, ClassicVote}
use Rattle.gz_round.specs.declared.run.Run.{Run}
use Rattle.gz_round.specs.declared.run.Stage.{Stage}
use Rattle.gz_round.specs.declared.run.Stage.TheVariants.{Look, Fast, Prepare, Accept}
use Rattle.gz_round.specs.declared.outcome.Outcome.TheVariants.{Ends}
use Rattle.gz_core.specs.History.{Action, GaveIn, Caller, Trace}
use Rattle.gz_round.specs.Rounds.{promises_known, above_known}
use Rattle.gz_round.specs.Sent.{last_promise}
use Rattle.gz_round.specs.Sending.{MayGiveIn, NoPromise, NoVote, IsUndecided, IsIdle, IsStuck, IsShort, rows_known, answer_of}
use Rattle.gz_round.specs.Counting.{outs, IsGoing}
use Rattle.gz_round.specs.Causes.{EndsBy, IsCutOff}
use Rattle.gz_round.specs.Standing.{Knows, Stands, StageStands}
use Rattle.gz_round.specs.Following.{HasTurned}
use Rattle.gz_round.specs.Acting.{RunsOut, given_in_of, ended_of, ended_in, working_version, version_in, IsShortIn}
use Rattle.gz_round.specs.Goals.{looked_in, is_overtaken_in, stage_step, step_in}
use Rattle.gz_round.proofs.Lists.{count_told}
use Rattle.gz_round.proofs.Turns.{none_above_listed, last_of}
use Rattle.gz_round.proofs.Votes.{voted_is}
use Rattle.gz_round.proofs.Untaken.{kept_known, undecided_known, promise_untaken, classic_untaken}

pub count_all : (n : ℕ) → count_sites n (λ s. true) ≡ n
count_all zero = refl
count_all (suc n) = ap suc (count_all n)

pub count_none : (n : ℕ) → count_sites n (λ s. false) ≡ 0
count_none zero = refl
count_none (suc n) = count_none n

-- every site is out
pub given_in_turned : (c : Config) (w : Caller) (past : List Trace) (run : Run) (ms : List Action) → IsConfig c → Stands c w past run ms → IsGoing c ms → MayGiveIn c w ms → HasTurned c w past run ms (Ends (given_in_of run))
given_in_turned c w past run ms config h going may =
    let few = going.few in
    let q = config.quorums in
    let out : outs c (GaveIn ∷ ms) ≡ c.n = count_all c.n in
    let cut : IsCutOff c (GaveIn ∷ ms) run.wrote 0 = record { few = few; lost = omega (arith, out, config.some, q.majority); phase_is = h.wrote_is; heard_is = sym (count_none c.n) } in
    let cause : EndsBy c w (GaveIn ∷ ms) (given_in_of run) = elim (cases_Bool (is_some run.last_vote)) [
      | inl e ↦ subst (EndsBy c w (GaveIn ∷ ms)) (sym (cond-true (is_some run.last_vote) (Unsure (UnsureNoQuorum run.wrote 0)) (NoQuorum run.wrote 0) e)) (sym (voted_is c w past run ms h) ∙ e, cut)
      | inr e ↦ subst (EndsBy c w (GaveIn ∷ ms)) (sym (cond-false (is_some run.last_vote) (Unsure (UnsureNoQuorum run.wrote 0)) (NoQuorum run.wrote 0) e)) (sym (voted_is c w past run ms h) ∙ e, cut)
    ] in
    (GaveIn ∷ [], inr refl, record { key_is = h.key_is; own_is = h.own_is; allowed = (may, h.allowed); reads = λ (s : ℕ) (l : s < c.n) may idle. refl; comes = cause; round_is = h.round_is })

-- too few known rows promise the ballot
pub short_known : (c : Config) (run : Run) (ms : List Action) (v : ℕ) (b : BallotAt) → Knows c run ms → count_by (promises_known v b) run.rows < c.qc → IsShort c ms v b
short_known c run ms v b k l = let told = count_told (promises_known v b) c.n run.rows (rows_known ms) k.rows_len k.rows in omega arith

-- nothing is awaited
idle_from : (c : Config) (w : Caller) (past : List Trace) (run : Run) (ms : List Action) (v : ℕ) → RunsOut c w past run ms → working_version run ≡ v → IsIdle c ms v
idle_from c w past run ms v r at = record { awaits = r.idle; heard = r.heard; undecided = subst (IsUndecided c ms) at r.none }

-- a ballot leads no further
stuck_from : (c : Config) (w : Caller) (past : List Trace) (run : Run) (ms : List Action) (v : ℕ) (b : BallotAt) (step : RowStep) → RunsOut c w past run ms → stage_step run ≡ Some step → IsIdle c ms v → last_promise ms ≡ Some (v, b) →
    ((s : ℕ) (row : RowAt) → s < c.n → rows_known ms s ≡ Some row → answer_of step row ≢ Done → answer_of step row ≡ Already) → IsStuck c ms v b step
stuck_from c w past run ms v b step r is idle last taken = record {
  going = r.going;
  idle = idle;
  last = last;
  taken = λ (s : ℕ) (row : RowAt) (l : s < c.n) (e : rows_known ms s ≡ Some row). taken s row l e (r.untaken step is s row l e);
}

prepared_out : (c : Config) (w : Caller) (past : List Trace) (run : Run) (ms : List Action) (v : ℕ) (b : BallotAt) (found : Option Value) → run.stage ≡ Prepare v b found → RunsOut c w past run ms → MayGiveIn c w ms
prepared_out c w past run ms v b found at r =
    let s : StageStands c w past (Prepare v b found) ms = subst (λ st. StageStands c w past st ms) at r.stage in
    let ahead : is_overtaken_in run (Prepare v b found) ≡ false = subst (λ st. is_overtaken_in run st ≡ false) at r.ahead in
    let short : IsShortIn c run.rows (Prepare v b found) = subst (λ st. IsShortIn c run.rows st) at r.short in
    let idle = idle_from c w past run ms v r (ap (λ st. version_in st (looked_in run)) at) in
    let last = last_of past run ms v b found r.stands.round_is s.0.used ahead in
    let above = none_above_listed c run ms v b r.stands.knows (or_parts (nat_lt run.round b.round) (list_any (above_known v b) run.rows) ahead).1 in
    NoPromise v b (stuck_from c w past run ms v b (Promise v b) r (ap (λ st. step_in st run.own) at) idle last (λ (site : ℕ) (row : RowAt) (l : site < c.n) (e : rows_known ms site ≡ Some row). promise_untaken row v b (kept_known c ms v site row idle.undecided l e) (undecided_known c ms v site row idle.undecided l e) (above site row l e))) s.0.uncast (short_known c run ms v b r.stands.knows short)

voted_out : (c : Config) (w : Caller) (past : List Trace) (run : Run) (ms : List Action) (v : ℕ) (b : BallotAt) (x : Value) → run.stage ≡ Accept v b x → RunsOut c w past run ms → MayGiveIn c w ms
voted_out c w past run ms v b x at r =
    let s : StageStands c w past (Accept v b x) ms = subst (λ st. StageStands c w past st ms) at r.stage in
    let ahead : is_overtaken_in run (Accept v b x) ≡ false = subst (λ st. is_overtaken_in run st ≡ false) at r.ahead in
    let idle = idle_from c w past run ms v r (ap (λ st. version_in st (looked_in run)) at) in
    let above = none_above_listed c run ms v b r.stands.knows ahead in
    NoVote v b x (stuck_from c w past run ms v b (ClassicVote v b x) r (ap (λ st. step_in st run.own) at) idle s.1.last (λ (site : ℕ) (row : RowAt) (l : site < c.n) (e : rows_known ms site ≡ Some row). classic_untaken row v b (kept_known c ms v site row idle.undecided l e) (undecided_known c ms v site row idle.undecided l e) (above site row l e))) s.0

-- a phase that has ended without its goal ends the call, but for the first phases
ended_at : (c : Config) (w : Caller) (past : List Trace) (run : Run) (ms : List Action) (stage : Stage) (answer : Answer) → IsConfig c → run.stage ≡ stage → RunsOut c w past run ms → ended_in run stage ≡ Some answer → HasTurned c w past run ms (Ends answer)
ended_at c w past run ms Look answer config at r e = absurd (none-some answer e)
ended_at c w past run ms (Fast v) answer config at r e = absurd (none-some answer e)
ended_at c w past run ms (Prepare v b found) answer config at r e = subst (λ a. HasTurned c w past run ms (Ends a)) (same_Some (given_in_of run) answer e) (given_in_turned c w past run ms config r.stands r.going (prepared_out c w past run ms v b found at r))
ended_at c w past run ms (Accept v b x) answer config at r e = subst (λ a. HasTurned c w past run ms (Ends a)) (same_Some (given_in_of run) answer e) (given_in_turned c w past run ms config r.stands r.going (voted_out c w past run ms v b x at r))

pub ended_turned : (c : Config) (w : Caller) (past : List Trace) (run : Run) (ms : List Action) (answer : Answer) → IsConfig c → RunsOut c w past run ms → ended_of run ≡ Some answer → HasTurned c w past run ms (Ends answer)
ended_turned c w past run ms answer config r e = ended_at c w past run ms run.stage answer config refl r e
