-- What follows from the rows that are known.
use Rattle.std.proofs.Common.{◌≡◌, ◌≢◌, ℕ, ◌+◌, ◌<◌, ◌≤◌, Bool, true, false, ◌==◌, List, [], ◌∷◌, length, Option, Some, None, is_some, MatchOption, refl, sym, ap, ◌∙◌, subst, inl, inr, arith, leb}
use Rattle.std.specs.List.{slice_get, list_all}
use Rattle.std.proofs.lemmas.Bool.{cases_Bool, cases_eq, cases_lt, cond-true, cond-false, and_parts, and_from, true≢false, false≢true, both_ways, le-leb, leb-true, eqb-true, eq-eqb}
use Rattle.std.proofs.lemmas.Option.{same_Some, none-some, slice_get_within}
use Rattle.gz_core.specs.Names.{Name, BallotAt, same_ballot, fast}
use Rattle.gz_core.specs.Rows.{RowAt, column_in}
use Rattle.gz_core.specs.Configurations.{IsConfig, need}
use Rattle.gz_core.specs.declared.values.Value.{Value}
use Rattle.gz_config.specs.declared.Config.{Config}
use Rattle.gz_core.proofs.Counting.{count_found, count_weaker}
use Rattle.gz_pick.specs.Looks.{row_top, row_name, row_vote, row_decision, highest_of}
use Rattle.gz_core.specs.Slots.{slot_of}
use Rattle.gz_core.proofs.SlotNames.{decision_named, vote_named}
use Rattle.gz_pick.specs.Evidences.{votes_for, decides, IsEvidence, row_at, is_for, is_named}
use Rattle.gz_round.specs.declared.run.Run.{Run}
use Rattle.gz_round.specs.declared.run.Target.{Target}
use Rattle.gz_round.specs.declared.run.Target.TheVariants.{Latest, At}
use Rattle.gz_round.specs.declared.following.Next.TheVariants.{Vote as VoteAt, Chosen, Learnt as LearntNext, Absent as AbsentNext, Unborn as UnbornNext, Collected as CollectedNext}
use Rattle.gz_core.specs.History.{Action, Caller, Trace}
use Rattle.gz_round.specs.Sites.{some_heard}
use Rattle.gz_core.specs.declared.calls.Phase.TheVariants.{Look as NotBegun}
use Rattle.gz_round.specs.Sent.{voted, voted_at, phase_of}
use Rattle.gz_round.specs.Shown.{heard_at, IsShown, IsCurrent, HasFloor}
use Rattle.gz_round.specs.Targets.{target_of, looked_at, IsAim, IsAskedFor}
use Rattle.gz_round.specs.Floors.{top_floor_of, AreRows, NoneAskedIn, AreNoneAsked, IsAskedBelow}
use Rattle.gz_round.specs.Sending.{IsUndecided}
use Rattle.gz_round.specs.Causes.{is_blank, rows_known}
use Rattle.gz_round.specs.Counting.{known_count}
use Rattle.gz_round.specs.declared.run.Stage.{Stage}
use Rattle.gz_round.specs.declared.run.Stage.TheVariants.{Look, Fast, Prepare, Accept}
use Rattle.gz_round.specs.Standing.{Knows, Stands, StageStands, WritesLatest, AreVotesBelow, AreVotesUpTo, IsVoteNext}
use Rattle.gz_round.specs.Evidence.{NoneEvident, EvidentAt, IsAfterEvidence}
use Rattle.gz_round.specs.Following.{NoEvidence, NextMeans, IsOnward, MayPass, IsUnwritten, IsFound, IsStageAt, is_topless, is_blank_known}
use Rattle.gz_round.specs.Goals.{IsUnmet, looked_in}
use Rattle.gz_round.proofs.Lists.{all_at}
use Rattle.gz_round.proofs.Heard.{counted_heard, heard_means, heard_passes}
use Rattle.gz_round.proofs.Columns.{named_top, top_highest}
use Rattle.gz_round.proofs.Known.{listed_after, listed_shown, known_current, known_heard, known_quorum, none_evident}
use Rattle.gz_round.proofs.Votes.{unvoted_clear, voted_some}
use Rattle.gz_round.proofs.Unpromised.{looks_unpromised, unpromised_from}
use Rattle.gz_round.proofs.Targets.{aim_quorum, looked_aim, vote_passes, writes_current}
use Rattle.gz_round.proofs.HeardFloors.{some_row, floors_highest, none_gone, top_floor_heard}

placed : (rows : List (Option RowAt)) (s : ℕ) (row : RowAt) (o : Option (Option RowAt)) → slice_get rows s ≡ o → row_at rows s ≡ Some row → slice_get rows s ≡ Some (Some row)
placed rows s row None e h = absurd (none-some row (sym (rw e refl) ∙ h))
placed rows s row (Some other) e h = e ∙ ap (λ z. Some z) (sym (rw e refl) ∙ h)

-- what evidence shows
pub evidence_means : (c : Config) (rows : List (Option RowAt)) (v : ℕ) (o : Option ℕ) → length rows ≡ c.n → IsEvidence c.n c.qc c.qf rows v o → MatchOption o (NoneEvident c rows v) (λ site. EvidentAt c rows v site)
evidence_means c rows v None len h = h
evidence_means c rows v (Some s) len h =
    let at : slice_get rows s ≡ Some (Some h.0) = placed rows s h.0 (slice_get rows s) refl h.2 in
    record { name = h.1; row = h.0; inside = omega (arith, slice_get_within rows s (Some h.0) at); known = at; named = h.3; evident = h.4 }

-- the version at which a value is evident is one that the rows show
pub evident_highest : (c : Config) (rows : List (Option RowAt)) (v s : ℕ) → EvidentAt c rows v s → v ≤ highest_of rows
evident_highest c rows v s e = omega (arith, named_top e.row.columns v e.name e.named, top_highest rows s e.row e.known)

own_some : (o : Option Value) → is_some o ≡ true → (x : Value) × (o ≡ Some x)
own_some None h = absurd (false≢true h)
own_some (Some x) h = (x, refl)

own_none : (o : Option Value) → is_some o ≡ false → o ≡ None
own_none None h = refl
own_none (Some x) h = absurd (true≢false h)

-- the call writes a value
pub own_of : (c : Config) (w : Caller) (past : List Trace) (run : Run) (ms : List Action) → Stands c w past run ms → is_some run.own ≡ true → (x : Value) × (w.own ≡ Some x)
own_of c w past run ms h some = let k = own_some run.own some in (k.0, sym h.own_is ∙ k.1)

-- it writes none
pub no_own : (c : Config) (w : Caller) (past : List Trace) (run : Run) (ms : List Action) → Stands c w past run ms → is_some run.own ≡ false → w.own ≡ None
no_own c w past run ms h none = sym h.own_is ∙ own_none run.own none

-- the call's own value is chosen
pub chosen_means : (c : Config) (w : Caller) (past : List Trace) (run : Run) (ms : List Action) (v s : ℕ) → Stands c w past run ms → is_some run.own ≡ true → MayPass c w ms v → (e : EvidentAt c run.rows v s) → row_name e.row v ≡ Some run.name → NextMeans c w run ms (Chosen v)
chosen_means c w past run ms v s h writes m e own =
    let same : e.name ≡ w.name = same_Some e.name run.name (sym e.named ∙ own) ∙ h.name_is in
    (m.above, subst (λ (x : Name). IsShown c ms v x) same (listed_shown c run ms h.knows v e.name e.evident), own_of c w past run ms h writes)

heard_weaker : (c : Config) (p q : RowAt → Bool) (ms : List Action) → ((r : RowAt) → p r ≡ true → q r ≡ true) → heard_at c p ms ≤ heard_at c q ms
heard_weaker c p q ms h = count_weaker c.n (some_heard p ms) (some_heard q ms) (λ (s : ℕ) (k : some_heard p ms s ≡ true). let w = heard_means p ms s k in heard_passes q ms s w.0 w.2 (h w.0 w.1))

counted_weaker : (c : Config) (ms : List Action) (v u : ℕ) → v ≤ u → heard_at c (λ r. leb (row_top r) v) ms ≤ heard_at c (λ r. leb (row_top r) u) ms
counted_weaker c ms v u l = heard_weaker c (λ r. leb (row_top r) v) (λ r. leb (row_top r) u) ms (λ (r : RowAt) (k : leb (row_top r) v ≡ true). le-leb (row_top r) u (omega (arith, leb-true (row_top r) v k)))

pub current_next : (c : Config) (ms : List Action) (v u : ℕ) → v ≤ u → IsCurrent c ms v → IsCurrent c ms u
current_next c ms v u l h = omega (arith, h, counted_weaker c ms v u l)

none_own : (o : Option Value) (t : Target) (version : ℕ) → ((x : Value) → o ≡ Some x → t ≡ Latest) → t ≡ At version → o ≡ None
none_own None t version latest at = refl
none_own (Some x) t version latest at = let apart : ◌≡◌ {A = Target} Latest (At version) = sym (latest x refl) ∙ at in absurd (cc)

-- one that asks for a version by its number writes nothing
pub reads_at : (c : Config) (w : Caller) (past : List Trace) (run : Run) (ms : List Action) (version : ℕ) → Stands c w past run ms → run.target ≡ At version → w.own ≡ None
reads_at c w past run ms version h at = none_own w.own (target_of w.call) version h.writes (sym h.target_is ∙ at)

pub votes_up : (w : Caller) (ms : List Action) (v : ℕ) → AreVotesBelow w ms v → AreVotesUpTo w ms v
votes_up w ms v below u k = inl (below u k)

pub votes_later : (w : Caller) (ms : List Action) (v u : ℕ) → v < u → AreVotesUpTo w ms v → AreVotesBelow w ms u
votes_later w ms v u l votes t k =
    elim (votes t k) [
      | inl low ↦ omega arith
      | inr last ↦ (let same = last.0 in omega arith)
    ]

-- another value is chosen, and the call may vote at the next version
pub other_means : (c : Config) (w : Caller) (past : List Trace) (run : Run) (ms : List Action) (v s : ℕ) → Stands c w past run ms → is_some run.own ≡ true → MayPass c w ms v → (e : EvidentAt c run.rows v s) → (row_name e.row v ≡ Some run.name → ⊥) → IsVoteNext c w ms (v + 1) × AreVotesBelow w ms (v + 1) × IsAfterEvidence c ms (v + 1)
other_means c w past run ms v s h some m e other =
    let shown : IsShown c ms v e.name = listed_shown c run ms h.knows v e.name e.evident in
    let differs : e.name ≢ w.name = λ (k : e.name ≡ w.name). other (e.named ∙ ap (λ (x : Name). Some x) (k ∙ sym h.name_is)) in
    let own = own_of c w past run ms h some in
    let below : AreVotesBelow w ms (v + 1) = votes_later w ms v (v + 1) (omega arith) m.votes in (
      record {
        may = record {
          above = omega arith;
          current = current_next c ms v (v + 1) (omega arith) (writes_current c w ms v own.0 h.writes own.1 m.aim);
          next = inr (v, e.name, refl, shown);
          clear = λ (u : ℕ) (n : u ≢ v + 1) (k : voted_at w.name ms u ≡ true). elim (cases_eq u v) [
            | inl same ↦ (e.name, differs, subst (λ (z : ℕ). IsShown c ms z e.name) (sym same) shown)
            | inr apart ↦ m.clear u apart k
          ];
        };
        own = own;
        unpromised = m.later;
        votes = votes_up w ms (v + 1) below;
      },
      below,
      listed_after c run ms h.knows v e.name m.above e.evident,
    )

unvoted_below : (w : Caller) (ms : List Action) (v : ℕ) → voted w.name ms ≡ false → AreVotesBelow w ms v
unvoted_below w ms v h u k = absurd (both_ways (voted w.name ms) h (voted_some w.name ms u k))

for_some : (b : BallotAt) (x : Name) (o : Option (BallotAt × Name)) → is_for b x o ≡ true → (vote : BallotAt × Name) × (o ≡ Some vote)
for_some b x None h = absurd (false≢true h)
for_some b x (Some vote) h = (vote, refl)

named_some : (x : Name) (o : Option Name) → is_named x o ≡ true → (y : Name) × (o ≡ Some y)
named_some x None h = absurd (false≢true h)
named_some x (Some y) h = (y, refl)

votes_top : (b : BallotAt) (x : Name) (v : ℕ) (o : Option RowAt) → votes_for b x v o ≡ true → (row : RowAt) × (o ≡ Some row) × (v ≤ row_top row)
votes_top b x v None h = absurd (false≢true h)
votes_top b x v (Some row) h = let k = for_some b x (row_vote row v) h in (row, refl, named_top row.columns v k.0.1 (vote_named (slot_of (column_in row.columns v)) k.0 k.1))

decides_top : (x : Name) (v : ℕ) (o : Option RowAt) → decides x v o ≡ true → (row : RowAt) × (o ≡ Some row) × (v ≤ row_top row)
decides_top x v None h = absurd (false≢true h)
decides_top x v (Some row) h = let k = named_some x (row_decision row v) h in (row, refl, named_top row.columns v k.0 (decision_named (slot_of (column_in row.columns v)) k.0 k.1))

need_some : (c : Config) (b : BallotAt) → IsConfig c → 1 ≤ need c.qc c.qf b
need_some c b h = let q = h.quorums in elim (cases_Bool (same_ballot b fast)) [
  | inl e ↦ (let k : need c.qc c.qf b ≡ c.qf = cond-true (same_ballot b fast) c.qf c.qc e in omega (arith, k, q.majority, q.classic, h.some))
  | inr e ↦ (let k : need c.qc c.qf b ≡ c.qc = cond-false (same_ballot b fast) c.qf c.qc e in omega (arith, k, q.majority, h.some))
]

-- no value is evident above what the known rows show
pub none_above : (c : Config) (ms : List Action) (v : ℕ) → IsConfig c → ((s : ℕ) (row : RowAt) → s < c.n → rows_known ms s ≡ Some row → row_top row < v) → NoEvidence c ms v
none_above c ms v h low x (inl k) =
    let found = count_found c.n (λ s. votes_for k.0 x v (rows_known ms s)) (omega (arith, k.1, need_some c k.0 h)) in
    let w = votes_top k.0 x v (rows_known ms found.0) found.2 in
    absurd (omega (arith, low found.0 w.0 found.1 w.1, w.2))
none_above c ms v h low x (inr k) =
    let found = count_found c.n (λ s. decides x v (rows_known ms s)) (omega (arith, k)) in
    let w = decides_top x v (rows_known ms found.0) found.2 in
    absurd (omega (arith, low found.0 w.0 found.1 w.1, w.2))

-- rows of which none shows a value have no highest version
pub topless_highest : (rows : List (Option RowAt)) → highest_of rows ≡ 0 → list_all is_topless rows ≡ true
topless_highest [] e = refl
topless_highest (None ∷ rows) e = topless_highest rows e
topless_highest (Some row ∷ rows) e =
    let here : row_top row ≡ 0 = omega arith in
    let rest : highest_of rows ≡ 0 = omega arith in
    and_from (row_top row == 0) (list_all is_topless rows) (eq-eqb (row_top row) 0 here) (topless_highest rows rest)

-- where some row shows a value, the highest version is one
pub highest_positive : (rows : List (Option RowAt)) → list_all is_topless rows ≡ false → 1 ≤ highest_of rows
highest_positive rows h = elim (cases_eq (highest_of rows) 0) [ inl e ↦ absurd (both_ways (list_all is_topless rows) h (topless_highest rows e)) | inr n ↦ omega arith ]

blank_low : (c : Config) (ms : List Action) (v : ℕ) → heard_at c is_blank ms ≤ heard_at c (λ r. leb (row_top r) v) ms
blank_low c ms v = heard_weaker c is_blank (λ r. leb (row_top r) v) ms (λ (r : RowAt) (k : is_blank r ≡ true). let top : row_top r ≡ 0 = eqb-true (row_top r) 0 (and_parts (row_top r == 0) (r.floor == 0) k).0 in le-leb (row_top r) v (omega arith))

-- an object that was never written is voted for at its first version
pub first_means : (c : Config) (w : Caller) (past : List Trace) (run : Run) (ms : List Action) → Stands c w past run ms → IsUnwritten c w ms → IsOnward c run ms 1 → is_some run.own ≡ true → NextMeans c w run ms (VoteAt 1)
first_means c w past run ms h f onward some =
    let below : AreVotesBelow w ms 1 = unvoted_below w ms 1 f.unvoted in (
      record {
        may = record { above = omega arith; current = omega (arith, f.blank, blank_low c ms 1); next = inl refl; clear = unvoted_clear c w.name ms 1 f.unvoted };
        own = own_of c w past run ms h some;
        unpromised = unpromised_from ms 0 1 (omega arith) f.unpromised;
        votes = votes_up w ms 1 below;
      },
      below,
      f.none.evident,
      inl f.none.gone,
      onward,
    )

-- to a call that reads the latest version it is absent
pub absent_means : (c : Config) (w : Caller) (past : List Trace) (run : Run) (ms : List Action) → Stands c w past run ms → IsUnwritten c w ms → is_some run.own ≡ false → run.target ≡ Latest → NextMeans c w run ms AbsentNext
absent_means c w past run ms h f none latest = record { reads = no_own c w past run ms h none; asked = sym h.target_is ∙ latest; blank = f.blank }

-- and no version of it is born, whatever its number
pub unborn_means : (c : Config) (w : Caller) (past : List Trace) (run : Run) (ms : List Action) (version : ℕ) → Stands c w past run ms → IsUnwritten c w ms → run.target ≡ At version → 1 ≤ version → NextMeans c w run ms (UnbornNext 0)
unborn_means c w past run ms version h f at above = record {
  reads = reads_at c w past run ms version h at;
  version = version;
  asked = sym h.target_is ∙ at;
  above = omega arith;
  current = omega (arith, f.blank, blank_low c ms 0);
  shown = inl refl;
}

-- the known rows of a classic quorum show nothing
pub first_from : (c : Config) (w : Caller) (past : List Trace) (run : Run) (ms : List Action) → IsConfig c → Stands c w past run ms → voted w.name ms ≡ false → phase_of ms ≡ NotBegun → list_all is_blank_known run.rows ≡ true → list_all is_topless run.rows ≡ true → c.qc ≤ known_count c ms → IsUnwritten c w ms
first_from c w past run ms config h unvoted looks blank topless enough =
    let listed : (s : ℕ) (row : RowAt) → s < c.n → rows_known ms s ≡ Some row → slice_get run.rows s ≡ Some (Some row) = λ (s : ℕ) (row : RowAt) (l : s < c.n) (e : rows_known ms s ≡ Some row). h.knows.rows s l ∙ ap (λ o. Some o) e in
    let counted : known_count c ms ≤ heard_at c is_blank ms = counted_heard c is_blank (λ s. is_some (rows_known ms s)) ms (λ (s : ℕ) (l : s < c.n) (k : is_some (rows_known ms s) ≡ true).
    let w = some_row (rows_known ms s) k in
    (w.0, known_heard ms s w.0 w.1, all_at is_blank_known run.rows s (Some w.0) blank (listed s w.0 l w.1))) in
    record {
      blank = omega arith;
      unvoted = unvoted;
      unpromised = looks_unpromised ms 0 looks;
      none = record {
        evident = none_above c ms 1 config (λ (s : ℕ) (row : RowAt) (l : s < c.n) (e : rows_known ms s ≡ Some row).
            let top : row_top row ≡ 0 = eqb-true (row_top row) 0 (all_at is_topless run.rows s (Some row) topless (listed s row l e)) in
            omega arith);
        gone = λ (s : ℕ) (row : RowAt) (l : s < c.n) (e : rows_known ms s ≡ Some row).
            let floor : row.floor ≡ 0 = eqb-true row.floor 0 (and_parts (row_top row == 0) (row.floor == 0) (all_at is_blank_known run.rows s (Some row) blank (listed s row l e))).1 in
            omega arith;
      };
    }

highest_current : (c : Config) (run : Run) (ms : List Action) → Knows c run ms → c.qc ≤ known_count c ms → IsCurrent c ms (highest_of run.rows)
highest_current c run ms k enough = known_current c run ms k (highest_of run.rows) enough (λ (s : ℕ) (row : RowAt) (e : slice_get run.rows s ≡ Some (Some row)). top_highest run.rows s row e)

looked_above : (target : Target) (rows : List (Option RowAt)) → AreRows rows → NoneAskedIn target rows → 1 ≤ highest_of rows → (1 ≤ looked_at target (highest_of rows)) × (top_floor_of rows < looked_at target (highest_of rows))
looked_above Latest rows are asked shown = elim (cases_lt 0 (top_floor_of rows)) [ inl l ↦ (omega arith, omega (arith, floors_highest rows are (omega arith))) | inr l ↦ (omega arith, omega arith) ]
looked_above (At version) rows are asked shown = elim (cases_lt 0 (top_floor_of rows)) [ inl l ↦ (omega arith, omega (arith, asked, floors_highest rows are (omega arith))) | inr l ↦ (omega (arith, asked), omega (arith, asked)) ]

-- the call may work at the version at which it looks, where the known rows of a classic quorum show some version
pub looked_from : (c : Config) (w : Caller) (past : List Trace) (run : Run) (ms : List Action) → Stands c w past run ms → voted w.name ms ≡ false → phase_of ms ≡ NotBegun → list_all is_topless run.rows ≡ false → AreNoneAsked run → c.qc ≤ known_count c ms → MayPass c w ms (looked_in run)
looked_from c w past run ms h unvoted looks shown asked enough = record {
  above = (looked_above run.target run.rows asked.0 asked.1 (highest_positive run.rows shown)).0;
  aim = subst (λ (t : Target). IsAim c t ms (looked_in run)) h.target_is (looked_aim c run.target ms (highest_of run.rows) (highest_current c run ms h.knows enough));
  clear = unvoted_clear c w.name ms (looked_in run) unvoted;
  later = looks_unpromised ms (looked_in run + 1) looks;
  votes = votes_up w ms (looked_in run) (unvoted_below w ms (looked_in run) unvoted);
}

-- where no value is known to be chosen there, `Look` goes on
pub looked_unmet : (c : Config) (run : Run) (ms : List Action) → Knows c run ms → list_all is_topless run.rows ≡ false → AreNoneAsked run → NoneEvident c run.rows (looked_in run) → IsUnmet c run Look ms
looked_unmet c run ms k shown asked none =
    let above = looked_above run.target run.rows asked.0 asked.1 (highest_positive run.rows shown) in
    inr (highest_positive run.rows shown, record { evident = none_evident c run ms k (looked_in run) none; gone = none_gone c run ms (looked_in run) k above.1 })

-- the version that is asked for was collected
pub collected_means : (c : Config) (w : Caller) (past : List Trace) (run : Run) (ms : List Action) (floor : ℕ) → Stands c w past run ms → IsAskedBelow run floor → 1 ≤ known_count c ms → c.qc ≤ known_count c ms → NextMeans c w run ms (CollectedNext floor)
collected_means c w past run ms floor h a some enough = record {
  reads = reads_at c w past run ms a.asked h a.target;
  version = a.asked;
  asked = sym h.target_is ∙ a.target;
  gone = a.gone;
  heard = subst (HasFloor c ms) (sym a.top) (top_floor_heard c run ms h.knows some);
  quorum = known_quorum c ms enough;
}

-- a call that writes nothing has learnt the value
pub found_means : (c : Config) (w : Caller) (past : List Trace) (run : Run) (ms : List Action) (v s : ℕ) → Stands c w past run ms → IsAskedFor c (target_of w.call) ms v → EvidentAt c run.rows v s → w.own ≡ None → IsFound c w run ms v s
found_means c w past run ms v s h asked e none = record {
  reads = none;
  asked = asked;
  name = e.name;
  shown = listed_shown c run ms h.knows v e.name e.evident;
  inside = e.inside;
  row = e.row;
  known = e.known;
  named = e.named;
}

-- the value that was found is that of the version that is asked for: the latest
pub latest_found : (c : Config) (w : Caller) (past : List Trace) (run : Run) (ms : List Action) (v s : ℕ) → Stands c w past run ms → MayPass c w ms v → EvidentAt c run.rows v s → is_some run.own ≡ false → run.target ≡ Latest → NextMeans c w run ms (LearntNext v s)
latest_found c w past run ms v s h m e none latest =
    let is : target_of w.call ≡ Latest = sym h.target_is ∙ latest in
    let current : IsCurrent c ms v = subst (λ (t : Target). IsAim c t ms v) is m.aim in
    found_means c w past run ms v s h (subst (λ (t : Target). IsAskedFor c t ms v) (sym is) current) e (no_own c w past run ms h none)

-- or that of the number
pub number_found : (c : Config) (w : Caller) (past : List Trace) (run : Run) (ms : List Action) (v s : ℕ) → Stands c w past run ms → MayPass c w ms v → EvidentAt c run.rows v s → run.target ≡ At v → NextMeans c w run ms (LearntNext v s)
number_found c w past run ms v s h m e at =
    let is : target_of w.call ≡ At v = sym h.target_is ∙ at in
    found_means c w past run ms v s h (subst (λ (t : Target). IsAskedFor c t ms v) (sym is) (refl, aim_quorum c (target_of w.call) ms v m.aim)) e (reads_at c w past run ms v h at)

-- or else the version that is asked for lies above
pub later_unborn : (c : Config) (w : Caller) (past : List Trace) (run : Run) (ms : List Action) (v s version : ℕ) → Stands c w past run ms → MayPass c w ms v → EvidentAt c run.rows v s → run.target ≡ At version → version ≢ v → NextMeans c w run ms (UnbornNext v)
later_unborn c w past run ms v s version h m e at apart =
    let is : target_of w.call ≡ At version = sym h.target_is ∙ at in
    let aim : IsAim c (At version) ms v = subst (λ (t : Target). IsAim c t ms v) is m.aim in
    elim aim [
      | inl same ↦ absurd (apart (sym same.0))
      | inr low ↦ record { reads = reads_at c w past run ms version h at; version = version; asked = is; above = low.0; current = low.1; shown = inr (e.name, listed_shown c run ms h.knows v e.name e.evident) }
    ]

-- where no value is known to be chosen at its version, and none of that version was collected, a phase hasn't reached its goal
pub unmet_at : (c : Config) (run : Run) (ms : List Action) (v : ℕ) (stage : Stage) → IsStageAt stage v → IsUndecided c ms v → IsUnmet c run stage ms
unmet_at c run ms v Look at none = absurd at
unmet_at c run ms v (Fast u) at none = subst (IsUndecided c ms) (sym at) none
unmet_at c run ms v (Prepare u b found) at none = subst (IsUndecided c ms) (sym at) none
unmet_at c run ms v (Accept u b x) at none = subst (IsUndecided c ms) (sym at) none

-- a call that works at a version may pass on from there
pub pass_at : (c : Config) (w : Caller) (past : List Trace) (ms : List Action) (v : ℕ) (stage : Stage) → WritesLatest w → IsStageAt stage v → StageStands c w past stage ms → MayPass c w ms v
pass_at c w past ms v Look latest at s = absurd at
pass_at c w past ms v (Fast u) latest at s = subst (MayPass c w ms) at (vote_passes c w ms u latest s)
pass_at c w past ms v (Prepare u b found) latest at s = subst (MayPass c w ms) at s.0.works.pass
pass_at c w past ms v (Accept u b x) latest at s = subst (MayPass c w ms) at s.1.works.pass
