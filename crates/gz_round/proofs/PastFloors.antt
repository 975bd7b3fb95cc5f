-- What follows where the version at which a call works was collected: the version after the greatest floor is decided.
use Rattle.std.proofs.Common.{◌≡◌, ◌≢◌, ℕ, ◌+◌, ◌<◌, ◌≤◌, ◌^◌, true, List, Some, None, is_some, sym, ap, ◌∙◌, subst, inl, inr, arith}
use Rattle.std.specs.List.{slice_get}
use Rattle.std.proofs.lemmas.Bool.{cases_eq}
use Rattle.gz_core.specs.Names.{Name}
use Rattle.gz_core.specs.Rows.{RowAt, column_in}
use Rattle.gz_core.specs.Slots.{slot_of}
use Rattle.gz_core.proofs.Ballots.{name_refl}
use Rattle.gz_core.proofs.SlotNames.{decision_named}
use Rattle.gz_config.specs.declared.Config.{Config}
use Rattle.gz_pick.specs.Looks.{row_decision}
use Rattle.gz_pick.specs.Evidences.{decides, is_named}
use Rattle.gz_core.specs.History.{Action, Caller, Trace}
use Rattle.gz_round.specs.declared.run.Run.{Run}
use Rattle.gz_round.specs.declared.run.Stage.{Stage}
use Rattle.gz_round.specs.declared.run.Stage.TheVariants.{Look, Fast, Prepare, Accept}
use Rattle.gz_round.specs.declared.run.Target.{Target}
use Rattle.gz_round.specs.declared.run.Target.TheVariants.{Latest, At}
use Rattle.gz_round.specs.declared.following.Next.TheVariants.{Skip as SkipTo, Learnt as LearntNext, Unborn as UnbornNext, Collected as CollectedNext, Trimmed as TrimmedNext}
use Rattle.gz_round.specs.Sites.{can_stand}
use Rattle.gz_round.specs.Sent.{voted_at}
use Rattle.gz_round.specs.Shown.{IsShown, IsCurrent, HasFloor}
use Rattle.gz_round.specs.Targets.{target_of, IsAim, IsAskedFor}
use Rattle.gz_round.specs.Floors.{top_floor_of, AreRows, IsFloorAt}
use Rattle.gz_round.specs.Sending.{NoEvidence, rows_known}
use Rattle.gz_round.specs.Goals.{looked_in, version_in}
use Rattle.gz_round.specs.Standing.{Knows, Stands, AreVotesBelow}
use Rattle.gz_round.specs.Following.{NextMeans, MayPass, IsStageAt}
use Rattle.gz_round.proofs.AsHeard.{heard_stands}
use Rattle.gz_round.proofs.Columns.{stands_floor}
use Rattle.gz_round.proofs.Heard.{heard_one}
use Rattle.gz_round.proofs.HeardFloors.{floor_reached, floor_decided, floor_heard, known_floor, listed_inside}
use Rattle.gz_round.proofs.Known.{known_heard, listed_known}
use Rattle.gz_round.proofs.Unpromised.{unpromised_from}
use Rattle.gz_round.proofs.Follows.{current_next, own_of, reads_at, votes_later, votes_up}
use Rattle.gz_round.proofs.Targets.{aim_quorum, writes_current}

-- no known row has a floor beyond those that a run reaches
pub floors_low : (c : Config) (w : Caller) (past : List Trace) (run : Run) (ms : List Action) → Stands c w past run ms → top_floor_of run.rows < 2 ^ 62
floors_low c w past run ms h =
    elim (floor_reached run.rows) [
      | inl none ↦ omega arith
      | inr r ↦ (
          let inside : r.0 < c.n = listed_inside c run ms h.knows r.0 (Some r.1) r.2 in
          let stands : can_stand c.n r.1 ≡ true = heard_stands c w past ms r.0 r.1 h.allowed (known_heard ms r.0 r.1 (listed_known c run ms h.knows r.0 r.1 inside r.2)) in
          omega (arith, r.3, stands_floor c.n r.1 stands))
    ]

-- what a known row has decided is shown
pub decided_heard : (c : Config) (run : Run) (ms : List Action) (v s : ℕ) (row : RowAt) (x : Name) → Knows c run ms → slice_get run.rows s ≡ Some (Some row) → row_decision row v ≡ Some x → IsShown c ms v x
decided_heard c run ms v s row x k at e =
    let inside : s < c.n = listed_inside c run ms k s (Some row) at in
    let decides_it : decides x v (Some row) ≡ true = ap (is_named x) e ∙ name_refl x in
    inr (heard_one c (λ r. decides x v (Some r)) ms s row inside (known_heard ms s row (listed_known c run ms k s row inside at)) decides_it)

-- a known row that has the greatest floor, where that was raised
record HasTop (c : Config) (run : Run) (ms : List Action) (floor : ℕ) : Type 0 where
  pub heard : HasFloor c ms floor
  pub site : ℕ
  pub row : RowAt
  pub inside : site < c.n
  pub known : rows_known ms site ≡ Some row
  pub floor_is : row.floor ≡ floor
  pub name : Name
  pub shown : IsShown c ms (floor + 1) name

has_top : (c : Config) (run : Run) (ms : List Action) (floor : ℕ) → Knows c run ms → AreRows run.rows → 1 ≤ floor → floor ≡ top_floor_of run.rows → HasTop c run ms floor
has_top c run ms floor k are l top =
    elim (floor_reached run.rows) [
      | inl none ↦ absurd (omega arith)
      | inr r ↦ (
          let same : r.1.floor ≡ floor = r.3 ∙ sym top in
          let inside : r.0 < c.n = listed_inside c run ms k r.0 (Some r.1) r.2 in
          let d = floor_decided r.1 (are r.0 r.1 r.2) (omega arith) in
          let decided : row_decision r.1 (floor + 1) ≡ Some d.0 = subst (λ (n : ℕ). row_decision r.1 (n + 1) ≡ Some d.0) same d.1 in
          record {
            heard = floor_heard c run ms floor r.0 r.1 k r.2 same;
            site = r.0;
            row = r.1;
            inside = inside;
            known = listed_known c run ms k r.0 r.1 inside r.2;
            floor_is = same;
            name = d.0;
            shown = decided_heard c run ms (floor + 1) r.0 r.1 d.0 k r.2 decided;
          })
    ]

-- a call whose last vote for its value was collected can't know what became of it
pub trimmed_means : (c : Config) (w : Caller) (past : List Trace) (run : Run) (ms : List Action) (v floor : ℕ) → Stands c w past run ms → MayPass c w ms v → NoEvidence c ms v → AreRows run.rows → v ≤ floor → floor ≡ top_floor_of run.rows → run.last_vote ≡ Some v → NextMeans c w run ms (TrimmedNext floor)
trimmed_means c w past run ms v floor h m none are at top last = record {
  version = v;
  voted = sym h.vote_is ∙ last;
  gone = at;
  heard = (has_top c run ms floor h.knows are (omega (arith, m.above)) top).heard;
  none = none;
  later = m.later;
}

-- a phase works at its version
pub working_at : (stage : Stage) (v looked : ℕ) → IsStageAt stage v → version_in stage looked ≡ v
working_at Look v looked at = absurd at
working_at (Fast u) v looked at = at
working_at (Prepare u b found) v looked at = at
working_at (Accept u b x) v looked at = at

-- one that didn't vote there votes two above the floor
pub skip_means : (c : Config) (w : Caller) (past : List Trace) (run : Run) (ms : List Action) (v floor : ℕ) → Stands c w past run ms → MayPass c w ms v → IsStageAt run.stage v → is_some run.own ≡ true → AreRows run.rows → v ≤ floor → floor ≡ top_floor_of run.rows → (run.last_vote ≡ Some v → ⊥) → NextMeans c w run ms (SkipTo (floor + 2))
skip_means c w past run ms v floor h m stage some are at top other =
    let positive = m.above in
    let high = has_top c run ms floor h.knows are (omega arith) top in
    let own = own_of c w past run ms h some in
    let current : IsCurrent c ms v = writes_current c w ms v own.0 h.writes own.1 m.aim in
    let below : AreVotesBelow w ms (floor + 2) = votes_later w ms v (floor + 2) (omega arith) m.votes in (
      record {
        may = record {
          above = omega arith;
          current = current_next c ms v (floor + 2) (omega arith) current;
          next = inr (floor + 1, high.name, omega arith, high.shown);
          clear = λ (u : ℕ) (n : u ≢ floor + 2) (k : voted_at w.name ms u ≡ true). elim (cases_eq u v) [
            | inl same ↦ elim (m.votes u k) [
              | inl low ↦ absurd (omega arith)
              | inr last ↦ absurd (other (h.vote_is ∙ (last.1 ∙ ap (λ (z : ℕ). Some z) same)))
            ]
            | inr apart ↦ m.clear u apart k
          ];
        };
        own = own;
        unpromised = unpromised_from ms (v + 1) (floor + 2) (omega arith) m.later;
        votes = votes_up w ms (floor + 2) below;
      },
      below,
      record {
        site = high.site;
        row = high.row;
        inside = high.inside;
        known = high.known;
        two = omega (arith, high.floor_is);
        top = λ (s : ℕ) (other : RowAt) (l : s < c.n) (e : rows_known ms s ≡ Some other). omega (arith, top, known_floor c run ms h.knows s other l e);
        current = current_next c ms v high.row.floor (omega (arith, high.floor_is)) current;
      },
      omega (arith, working_at run.stage v (looked_in run) stage),
      λ look. subst (λ (st : Stage). IsStageAt st v) look stage,
    )

-- a call that writes nothing learns the version after the floor, where it asks for that
pub above_learnt : (c : Config) (w : Caller) (past : List Trace) (run : Run) (ms : List Action) (floor s : ℕ) → Stands c w past run ms → IsAskedFor c (target_of w.call) ms (floor + 1) → run.own ≡ None → IsFloorAt run.rows floor s → NextMeans c w run ms (LearntNext (floor + 1) s)
above_learnt c w past run ms floor s h asked none a = record {
  reads = sym h.own_is ∙ none;
  asked = asked;
  name = a.name;
  shown = decided_heard c run ms (floor + 1) s a.row a.name h.knows a.known a.decided;
  inside = listed_inside c run ms h.knows s (Some a.row) a.known;
  row = a.row;
  known = a.known;
  named = decision_named (slot_of (column_in a.row.columns (floor + 1))) a.name a.decided;
}

-- it does where it asks for the latest version
pub latest_above : (c : Config) (w : Caller) (past : List Trace) (run : Run) (ms : List Action) (v floor : ℕ) → Stands c w past run ms → MayPass c w ms v → v ≤ floor → run.target ≡ Latest → IsAskedFor c (target_of w.call) ms (floor + 1)
latest_above c w past run ms v floor h m at latest =
    let is : target_of w.call ≡ Latest = sym h.target_is ∙ latest in
    let current : IsCurrent c ms v = subst (λ (t : Target). IsAim c t ms v) is m.aim in
    subst (λ (t : Target). IsAskedFor c t ms (floor + 1)) (sym is) (current_next c ms v (floor + 1) (omega arith) current)

-- or for the number of that one
pub number_above : (c : Config) (w : Caller) (past : List Trace) (run : Run) (ms : List Action) (v floor asked : ℕ) → Stands c w past run ms → MayPass c w ms v → run.target ≡ At asked → floor + 1 ≡ asked → IsAskedFor c (target_of w.call) ms (floor + 1)
number_above c w past run ms v floor asked h m at same = subst (λ (t : Target). IsAskedFor c t ms (floor + 1)) (sym (sym h.target_is ∙ at)) (same, aim_quorum c (target_of w.call) ms v m.aim)

-- the version that it asks for was collected
pub gone_means : (c : Config) (w : Caller) (past : List Trace) (run : Run) (ms : List Action) (v floor asked : ℕ) → Stands c w past run ms → MayPass c w ms v → AreRows run.rows → 1 ≤ floor → floor ≡ top_floor_of run.rows → run.target ≡ At asked → asked ≤ floor → NextMeans c w run ms (CollectedNext floor)
gone_means c w past run ms v floor asked h m are l top at low = record {
  reads = reads_at c w past run ms asked h at;
  version = asked;
  asked = sym h.target_is ∙ at;
  gone = low;
  heard = (has_top c run ms floor h.knows are l top).heard;
  quorum = aim_quorum c (target_of w.call) ms v m.aim;
}

-- or it lies above the version after the floor, which is the latest
pub above_unborn : (c : Config) (w : Caller) (past : List Trace) (run : Run) (ms : List Action) (v floor asked : ℕ) → Stands c w past run ms → MayPass c w ms v → v ≤ floor → AreRows run.rows → 1 ≤ floor → floor ≡ top_floor_of run.rows → run.target ≡ At asked → floor + 1 < asked → NextMeans c w run ms (UnbornNext (floor + 1))
above_unborn c w past run ms v floor asked h m low are l top at far =
    let is : target_of w.call ≡ At asked = sym h.target_is ∙ at in
    let aim : IsAim c (At asked) ms v = subst (λ (t : Target). IsAim c t ms v) is m.aim in
    let high = has_top c run ms floor h.knows are l top in
    elim aim [
      | inl same ↦ absurd (omega (arith, same.0))
      | inr below ↦ record {
        reads = reads_at c w past run ms asked h at;
        version = asked;
        asked = is;
        above = far;
        current = current_next c ms v (floor + 1) (omega arith) below.1;
        shown = inr (high.name, high.shown);
      }
    ]
