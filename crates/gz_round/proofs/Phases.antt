-- How a call goes from one phase to the next.
use Rattle.std.proofs.Common.{◌≡◌, ◌≢◌, ℕ, ◌+◌, ◌<◌, ◌≤◌, Bool, true, false, ◌==◌, List, [], ◌∷◌, length, Option, Some, None, refl, sym, ap, ◌∙◌, subst, inl, inr, arith}
use Rattle.std.specs.List.{list_all, slice_get}
use Rattle.std.proofs.lemmas.Bool.{and_parts, eqb-true}
use Rattle.std.proofs.lemmas.Option.{slice_get_cases}
use Rattle.gz_core.specs.Names.{BallotAt}
use Rattle.gz_core.specs.Rows.{RowAt}
use Rattle.gz_core.specs.History.{Action, Sent, Handed, GaveUp, Rested, GaveIn, Caller, Trace, sent_from}
use Rattle.gz_core.specs.declared.requests.Out.{Out}
use Rattle.gz_core.specs.declared.calls.Answer.{Answer}
use Rattle.gz_core.specs.declared.values.Value.{Value}
use Rattle.gz_config.specs.declared.Config.{Config}
use Rattle.gz_pick.specs.Looks.{row_top, highest_of}
use Rattle.gz_round.specs.declared.hearing.Seen.{Seen}
use Rattle.gz_round.specs.declared.following.Next.TheVariants.{Wait, Vote as VoteAt, Skip as SkipTo}
use Rattle.gz_round.specs.declared.outcome.Outcome.{Outcome}
use Rattle.gz_round.specs.declared.outcome.Outcome.TheVariants.{Goes, Placed, Learnt, Ends}
use Rattle.gz_round.specs.declared.run.Mark.{Mark}
use Rattle.gz_round.specs.declared.run.Run.{Run}
use Rattle.gz_round.specs.declared.run.Stage.{Stage}
use Rattle.gz_round.specs.declared.run.Stage.TheVariants.{Look, Fast, Prepare, Accept}
use Rattle.gz_round.specs.declared.run.Target.{Target}
use Rattle.gz_round.specs.declared.run.Target.TheVariants.{Latest, At}
use Rattle.gz_round.specs.Counting.{known_count}
use Rattle.gz_round.specs.Targets.{looked_at}
use Rattle.gz_round.specs.Noting.{noted_by, left_run}
use Rattle.gz_round.specs.Goals.{IsUnmet, looked_in, version_in}
use Rattle.gz_round.specs.Following.{IsOnward, IsStageAt, NextMeans, is_topless}
use Rattle.gz_round.specs.Acting.{HasCast, IsClassicIn}
use Rattle.gz_round.specs.Phases.{CameFrom, GoesFrom, HasPhases, IfTold, IsNoNewVote, IsVoteFrom}
use Rattle.gz_round.specs.Sites.{is_about_rows, tells_of_row, AreBlobs}
use Rattle.gz_round.proofs.PastFloors.{working_at}
use Rattle.gz_round.proofs.Turns.{over_sent}

-- ---- the version to which a call goes on

topless_none : (rows : List (Option RowAt)) → list_all is_topless rows ≡ true → highest_of rows ≡ 0
topless_none [] h = refl
topless_none (None ∷ rows) h = topless_none rows h
topless_none (Some row ∷ rows) h =
    let k = and_parts (row_top row == 0) (list_all is_topless rows) h in
    omega (arith, eqb-true (row_top row) 0 k.0, topless_none rows k.1)

looked_low : (target : Target) (highest : ℕ) → looked_at target highest ≤ highest
looked_low Latest highest = omega arith
looked_low (At version) highest = omega arith

-- from a look at a lower version, once rows of a classic quorum are known
pub look_onward : (c : Config) (run : Run) (ms : List Action) (v : ℕ) → run.stage ≡ Look → looked_in run < v → c.qc ≤ known_count c ms → IsOnward c run ms v
look_onward c run ms v look low enough = record { above = subst (λ (st : Stage). version_in st (looked_in run) < v) (sym look) low; looked = λ again. enough }

-- to the first version, where nothing is shown
pub first_onward : (c : Config) (run : Run) (ms : List Action) → run.stage ≡ Look → list_all is_topless run.rows ≡ true → c.qc ≤ known_count c ms → IsOnward c run ms 1
first_onward c run ms look topless enough =
    let none = topless_none run.rows topless in
    look_onward c run ms 1 look (omega (arith, none, looked_low run.target (highest_of run.rows))) enough

-- from work at a lower version
pub at_onward : (c : Config) (run : Run) (ms : List Action) (v u : ℕ) → IsStageAt run.stage v → v < u → IsOnward c run ms u
at_onward c run ms v u at low = record { above = omega (arith, low, working_at run.stage v (looked_in run) at); looked = λ look. absurd (subst (λ (st : Stage). IsStageAt st v) look at) }

-- or to a later one
pub later_onward : (c : Config) (run : Run) (ms : List Action) (v u : ℕ) → v ≤ u → IsOnward c run ms v → IsOnward c run ms u
later_onward c run ms v u l h = record { above = omega (arith, l, h.above); looked = h.looked }

pub cast_onward : (c : Config) (w : Caller) (past : List Trace) (run : Run) (ms : List Action) (v : ℕ) → HasCast c w past run ms v → IsOnward c run ms (v + 1)
cast_onward c w past run ms v h = at_onward c run ms v (v + 1) (subst (λ (st : Stage). IsStageAt st v) (sym h.stage_is) refl) (omega arith)

-- ---- the phase in which a call goes on

classic_not_fast : (v : ℕ) (stage : Stage) → IsClassicIn stage → stage ≡ Fast v → ⊥
classic_not_fast v stage h is = subst IsClassicIn is h

-- one that works by a classic ballot leads to no vote in the fast one
pub classic_no_vote : (old mid new : Stage) → IsClassicIn mid → IsNoNewVote mid new → IsNoNewVote old new
classic_no_vote old mid new h p v is = absurd (classic_not_fast v mid h (p v is))

pub prepared_no_vote : (old new : Stage) (v : ℕ) (b : BallotAt) (found : Option Value) → new ≡ Prepare v b found → IsNoNewVote old new
prepared_no_vote old new v b found is u fast = absurd (classic_not_fast u new (subst IsClassicIn (sym is) tt) fast)

pub left_no_vote : (old new : Stage) → new ≡ old → IsNoNewVote old new
left_no_vote old new same v is = sym same ∙ is

pub no_vote_then : (old mid new : Stage) → mid ≡ old → IsNoNewVote mid new → IsNoNewVote old new
no_vote_then old mid new same p v is = sym same ∙ p v is

fast_at : (u v : ℕ) → ◌≡◌ {A = Stage} (Fast u) (Fast v) → u ≡ v
fast_at u v e = subst (λ (st : Stage). IsStageAt st v) (sym e) refl

pub cast_from : (stage : Stage) (v : ℕ) → stage ≡ Fast v → IsVoteFrom v stage
cast_from stage v at u is = let same = fast_at v u (sym at ∙ is) in omega arith

pub out_from : (old new : Stage) (v : ℕ) → old ≡ Fast v → IsNoNewVote old new → IsVoteFrom v new
out_from old new v at p u is = cast_from old v at u (p u is)

pub vote_from : (new : Stage) (v u : ℕ) → v ≤ u → IsNoNewVote (Fast u) new → IsVoteFrom v new
vote_from new v u l p z is = let same = fast_at u z (p z is) in omega arith

-- ---- an event

-- the phase goes on, short of its goal
pub waits_on : (c : Config) (w : Caller) (run : Run) (new : Stage) (ms : List Action) → NextMeans c w run ms Wait → IsNoNewVote run.stage new → GoesFrom c run.stage new ms
waits_on c w run new ms unmet p = record {
  votes = λ (u v : ℕ) (at : IsStageAt run.stage u) (is : new ≡ Fast v). inr (p v is ∙ sym is, subst (λ (st : Stage). IsUnmet c run st ms) (p v is) unmet);
  looked = λ (v : ℕ) (look : run.stage ≡ Look) (is : new ≡ Fast v). let apart : ◌≡◌ {A = Stage} Look (Fast v) = sym look ∙ p v is in absurd (cc);
}

onward_on : (c : Config) (run : Run) (new : Stage) (ms : List Action) (version : ℕ) → IsOnward c run ms version → IsVoteFrom version new → GoesFrom c run.stage new ms
onward_on c run new ms version o p = record {
  votes = λ (u v : ℕ) (at : IsStageAt run.stage u) (is : new ≡ Fast v). inl (omega (arith, o.above, working_at run.stage u (looked_in run) at, p v is));
  looked = λ (v : ℕ) (look : run.stage ≡ Look) (is : new ≡ Fast v). o.looked look;
}

-- the call votes at a later version
pub votes_on : (c : Config) (w : Caller) (run : Run) (new : Stage) (ms : List Action) (version : ℕ) → NextMeans c w run ms (VoteAt version) → IsVoteFrom version new → GoesFrom c run.stage new ms
votes_on c w run new ms version n p = onward_on c run new ms version n.4 p

-- or above a floor
pub skips_on : (c : Config) (w : Caller) (run : Run) (new : Stage) (ms : List Action) (version : ℕ) → NextMeans c w run ms (SkipTo version) → IsVoteFrom version new → GoesFrom c run.stage new ms
skips_on c w run new ms version n p = onward_on c run new ms version (record { above = omega (arith, n.3); looked = λ look. absurd (n.4 look) }) p

-- a call whose rows came to something doesn't go on
pub placed_not : (outcome : Outcome) (v : ℕ) → outcome ≡ Placed v → outcome ≡ Goes → ⊥
placed_not outcome v is goes = let apart : ◌≡◌ {A = Outcome} (Placed v) Goes = sym is ∙ goes in absurd (cc)

pub learnt_not : (outcome : Outcome) (v : ℕ) (x : Value) → outcome ≡ Learnt v x → outcome ≡ Goes → ⊥
learnt_not outcome v x is goes = let apart : ◌≡◌ {A = Outcome} (Learnt v x) Goes = sym is ∙ goes in absurd (cc)

pub ends_not : (outcome : Outcome) (answer : Answer) → outcome ≡ Ends answer → outcome ≡ Goes → ⊥
ends_not outcome answer is goes = let apart : ◌≡◌ {A = Outcome} (Ends answer) Goes = sym is ∙ goes in absurd (cc)

-- ---- what came is noted in the phase

slice_has : {X : Type 0} (xs : List X) (i : ℕ) → i < length xs → (x : X) × (slice_get xs i ≡ Some x)
slice_has xs i l = elim (slice_get_cases xs i).1 [ inl k ↦ (k.0, k.2) | inr past ↦ absurd (omega (arith, l, past.0)) ]

noted_stage : (run : Run) (at : ℕ) (mark : Mark) (row : Option RowAt) (seen : Option Seen) (changed : Bool) → (noted_by run at mark row seen changed).stage ≡ run.stage
noted_stage run at mark row (Some seen) changed = refl
noted_stage run at mark row None true = refl
noted_stage run at mark row None false = refl

pub noted_in : (run new : Run) (at : ℕ) (seen : Option Seen) (changed : Bool) → at < length run.rows → at < length run.marks → ((mark : Mark) (row : Option RowAt) → slice_get run.marks at ≡ Some mark → slice_get run.rows at ≡ Some row → new ≡ noted_by run at mark row seen changed) → new.stage ≡ run.stage
noted_in run new at seen changed rows marks noted =
    let mark = slice_has run.marks at marks in
    let row = slice_has run.rows at rows in
    ap (λ (r : Run). r.stage) (noted mark.0 row.0 mark.1 row.1) ∙ noted_stage run at mark.0 row.0 seen changed

pub left_in : (run new : Run) (at : ℕ) → at < length run.rows → at < length run.marks → ((mark : Mark) (row : Option RowAt) → slice_get run.marks at ≡ Some mark → slice_get run.rows at ≡ Some row → new ≡ left_run run at mark row) → new.stage ≡ run.stage
left_in run new at rows marks left =
    let mark = slice_has run.marks at marks in
    let row = slice_has run.rows at rows in
    ap (λ (r : Run). r.stage) (left mark.0 row.0 mark.1 row.1)

-- ---- the phases of a call

pub untold_beside : (m : Action) → is_about_rows m ≡ false → tells_of_row m ≡ false
untold_beside (Sent a) e = refl
untold_beside (Handed a reply) e = e
untold_beside (GaveUp a) e = e
untold_beside Rested e = refl
untold_beside GaveIn e = refl

-- what tells of no row leaves them
pub phases_beside : (c : Config) (w : Caller) (past : List Trace) (stage : Stage) (m : Action) (ms : List Action) → tells_of_row m ≡ false → HasPhases c w past stage ms → HasPhases c w past stage (m ∷ ms)
phases_beside c w past stage m ms e h = subst (λ (t : Bool). IfTold t (CameFrom c w past (λ st. HasPhases c w past st ms) stage m ms) (HasPhases c w past stage ms)) (sym e) h

-- what does leads to a phase from the one before
pub phases_told : (c : Config) (w : Caller) (past : List Trace) (stage : Stage) (m : Action) (ms : List Action) → tells_of_row m ≡ true → CameFrom c w past (λ st. HasPhases c w past st ms) stage m ms → HasPhases c w past stage (m ∷ ms)
phases_told c w past stage m ms e h = subst (λ (t : Bool). IfTold t (CameFrom c w past (λ st. HasPhases c w past st ms) stage m ms) (HasPhases c w past stage ms)) (sym e) h

pub phases_sent : (c : Config) (w : Caller) (past : List Trace) (stage : Stage) (first : ℕ) (outs : List Out) (ms : List Action) → HasPhases c w past stage ms → HasPhases c w past stage (sent_from first outs ms)
phases_sent c w past stage first outs ms h = over_sent (λ ns. HasPhases c w past stage ns) (λ a ns k. k) first outs ms h

-- requests for blobs alone led from no other phase
pub phases_blobs : (c : Config) (w : Caller) (past : List Trace) (stage : Stage) (ms : List Action) → AreBlobs ms → HasPhases c w past stage ms
phases_blobs c w past stage [] h = tt
phases_blobs c w past stage (m ∷ ms) h = phases_beside c w past stage m ms (untold_beside m h.0) (phases_blobs c w past stage ms h.1)
