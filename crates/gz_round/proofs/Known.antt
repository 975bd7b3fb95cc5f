-- The rows that are known are rows that were heard, and what they show is shown.
use Rattle.std.proofs.Common.{◌≡◌, ℕ, ◌+◌, ◌<◌, ◌≤◌, ◌^◌, Bool, true, false, List, [], ◌∷◌, length, Option, Some, None, is_some, refl, sym, ap, ◌∙◌, subst, inl, inr, ◌⊎◌, arith, leb}
use Rattle.std.specs.List.{slice_get, count_by}
use Rattle.std.proofs.lemmas.Bool.{cases_Bool, cond-true, cond-false, le-leb}
use Rattle.std.proofs.lemmas.Option.{same_Some, none-some, slice_get_within}
use Rattle.gz_core.specs.Names.{Name, BallotAt}
use Rattle.gz_core.specs.Rows.{RowAt}
use Rattle.gz_core.specs.Counts.{count_sites}
use Rattle.gz_config.specs.declared.Config.{Config}
use Rattle.gz_pick.specs.Looks.{row_top, highest_of}
use Rattle.gz_pick.specs.Evidences.{votes_for, decides, IsEvident, row_at}
use Rattle.gz_round.specs.declared.hearing.Seen.{Seen}
use Rattle.gz_round.specs.declared.run.Run.{Run}
use Rattle.gz_round.specs.declared.run.Stage.{Stage}
use Rattle.gz_round.specs.declared.run.Stage.TheVariants.{Look, Fast, Prepare, Accept}
use Rattle.gz_core.specs.History.{Asked, Action, Sent, Handed, GaveUp, Rested, GaveIn, Caller, Trace}
use Rattle.gz_round.specs.Sites.{SiteNow, site_now, after, after_reply, after_sent, known, row_seen, seen_in, written_by, is_changed, concerns, is_about_rows, heard_in, up_to_rows, WasHeard}
use Rattle.gz_round.specs.Sent.{voted_at}
use Rattle.gz_round.specs.Shown.{heard_at, IsShown, IsCurrent, IsQuorumHeard}
use Rattle.gz_round.specs.Counting.{known_count, outs}
use Rattle.gz_round.specs.Causes.{rows_known}
use Rattle.gz_round.specs.Standing.{Knows, Stands, mark_of}
use Rattle.gz_round.specs.Evidence.{NoneEvident, IsAfterEvidence}
use Rattle.gz_round.specs.Sending.{NoEvidence, NoneGone, IsUndecided}
use Rattle.gz_round.specs.Goals.{IsAboveFloor, IsSkipping}
use Rattle.gz_round.proofs.Lists.{count_same, count_told}
use Rattle.gz_round.proofs.Actions.{concerns_rows, heard_row, now_here, now_other, each_site}
use Rattle.gz_round.proofs.Heard.{counted_heard}
use Rattle.gz_round.proofs.Columns.{stands_low, highest_below}
use Rattle.gz_round.proofs.AsHeard.{heard_stands}

-- a reply that shows no row leaves the last one
kept_row : (changed : Bool) (now : SiteNow) → (after_reply None changed now).row ≡ now.row
kept_row true now = refl
kept_row false now = refl

-- a request that is sent leaves the last row, and what is out
pub sent_row : (a : Asked) (now : SiteNow) → (after_sent a now).row ≡ now.row
sent_row a now = elim (cases_Bool a.awaited) [ inl e ↦ ap (λ n. n.row) (cond-true a.awaited _ now e) | inr e ↦ ap (λ n. n.row) (cond-false a.awaited _ now e) ]

known_sent : (a : Asked) (now : SiteNow) → known (after_sent a now) ≡ known now
known_sent a now = elim (cases_Bool a.awaited) [ inl e ↦ ap known (cond-true a.awaited _ now e) | inr e ↦ ap known (cond-false a.awaited _ now e) ]

pub out_sent : (a : Asked) (now : SiteNow) → (after_sent a now).out ≡ now.out
out_sent a now = elim (cases_Bool a.awaited) [ inl e ↦ ap (λ n. n.out) (cond-true a.awaited _ now e) | inr e ↦ ap (λ n. n.out) (cond-false a.awaited _ now e) ]

-- a request that is sent leaves what is known
pub known_after_sent : (a : Asked) (ms : List Action) (s : ℕ) → known (site_now ms s) ≡ known (site_now (Sent a ∷ ms) s)
known_after_sent a ms s = each_site (λ n. known (site_now ms s) ≡ known n) (Sent a) ms s (λ h. sym (known_sent a (site_now ms s))) (λ h. refl)

-- and what is out
pub out_after_sent : (a : Asked) (ms : List Action) (s : ℕ) → (site_now ms s).out ≡ (site_now (Sent a ∷ ms) s).out
out_after_sent a ms s = each_site (λ n. (site_now ms s).out ≡ n.out) (Sent a) ms s (λ h. sym (out_sent a (site_now ms s))) (λ h. refl)

pub row_after_sent : (a : Asked) (ms : List Action) (s : ℕ) → (site_now ms s).row ≡ (site_now (Sent a ∷ ms) s).row
row_after_sent a ms s = each_site (λ n. (site_now ms s).row ≡ n.row) (Sent a) ms s (λ h. sym (sent_row a (site_now ms s))) (λ h. refl)

handed_row : (seen : Option Seen) (changed : Bool) (now : SiteNow) (last : Seen) → (after_reply seen changed now).row ≡ Some last → (seen ≡ Some last) ⊎ (now.row ≡ Some last)
handed_row (Some seen) changed now last e = inl e
handed_row None true now last e = inr e
handed_row None false now last e = inr e

last_after : (m : Action) (now : SiteNow) (last : Seen) → is_about_rows m ≡ true → (after m now).row ≡ Some last → (heard_in m ≡ Some last) ⊎ (now.row ≡ Some last)
last_after (Sent a) now last row e = inr (sym (sent_row a now) ∙ e)
last_after (Handed a reply) now last row e =
    elim (handed_row (seen_in (written_by a.op) reply) (is_changed reply) now last e) [
      | inl k ↦ inl (heard_row a reply row ∙ k)
      | inr k ↦ inr k
    ]
last_after (GaveUp a) now last row e = inr e
last_after Rested now last row e = inr e
last_after GaveIn now last row e = inr e

last_here : (m : Action) (ms : List Action) (s : ℕ) (last : Seen) → concerns m s ≡ true → ((site_now ms s).row ≡ Some last → WasHeard ms s last.row) → (heard_in m ≡ Some last) ⊎ ((site_now ms s).row ≡ Some last) → WasHeard (m ∷ ms) s last.row
last_here m ms s last k h (inl e) = inl (last, k, e, refl)
last_here m ms s last k h (inr e) = inr (h e)

-- the last row of a site was heard there
pub last_heard : (ms : List Action) (s : ℕ) (last : Seen) → (site_now ms s).row ≡ Some last → WasHeard ms s last.row
last_heard [] s last e = absurd (none-some last e)
last_heard (m ∷ ms) s last e =
    elim (cases_Bool (concerns m s)) [
      | inl k ↦ (
          let here : (after m (site_now ms s)).row ≡ Some last = sym (ap (λ n. n.row) (now_here m ms s k)) ∙ e in
          last_here m ms s last k (last_heard ms s last) (last_after m (site_now ms s) last (concerns_rows m s k) here))
      | inr k ↦ inr (last_heard ms s last (sym (ap (λ n. n.row) (now_other m ms s k)) ∙ e))
    ]

seen_from : (o : Option Seen) (row : RowAt) → row_seen o ≡ Some row → (seen : Seen) × (o ≡ Some seen) × (seen.row ≡ row)
seen_from None row e = absurd (none-some row e)
seen_from (Some seen) row e = (seen, refl, same_Some seen.row row e)

-- a row that is known is the last one of a site that isn't out
pub known_last : (now : SiteNow) (row : RowAt) → known now ≡ Some row → (seen : Seen) × (now.row ≡ Some seen) × (seen.row ≡ row) × (now.out ≡ false)
known_last now row e =
    elim (cases_Bool now.out) [
      | inl h ↦ absurd (none-some row (sym (cond-true now.out None (row_seen now.row) h) ∙ e))
      | inr h ↦ (let w = seen_from now.row row (sym (cond-false now.out None (row_seen now.row) h) ∙ e) in (w.0, w.1, w.2, h))
    ]

-- the last row of a site that isn't out is known
pub last_known : (now : SiteNow) (seen : Seen) → now.row ≡ Some seen → now.out ≡ false → known now ≡ Some seen.row
last_known now seen e h = cond-false now.out None (row_seen now.row) h ∙ ap row_seen e

-- a row that is known was heard
pub known_heard : (ms : List Action) (s : ℕ) (row : RowAt) → rows_known ms s ≡ Some row → WasHeard ms s row
known_heard ms s row e =
    let w = known_last (site_now ms s) row e in
    subst (λ r. WasHeard ms s r) w.2 (last_heard ms s w.0 w.1)

-- the list of rows has at each site the row that is known there
pub row_at_known : (c : Config) (run : Run) (ms : List Action) → Knows c run ms → (s : ℕ) → s < c.n → row_at run.rows s ≡ rows_known ms s
row_at_known c run ms k s l = rw (k.rows s l) refl

-- a row in the list is known
pub listed_known : (c : Config) (run : Run) (ms : List Action) → Knows c run ms → (s : ℕ) (row : RowAt) → s < c.n → slice_get run.rows s ≡ Some (Some row) → rows_known ms s ≡ Some row
listed_known c run ms k s row l e = same_Some (rows_known ms s) (Some row) (sym (k.rows s l) ∙ e)

voted_shown : (b : BallotAt) (x : Name) (v : ℕ) (o : Option RowAt) → votes_for b x v o ≡ true → (row : RowAt) × (o ≡ Some row) × (votes_for b x v (Some row) ≡ true)
voted_shown b x v None h = absurd (cc)
voted_shown b x v (Some row) h = (row, refl, h)

decided_shown : (x : Name) (v : ℕ) (o : Option RowAt) → decides x v o ≡ true → (row : RowAt) × (o ≡ Some row) × (decides x v (Some row) ≡ true)
decided_shown x v None h = absurd (cc)
decided_shown x v (Some row) h = (row, refl, h)

-- what the known rows make evident is shown
pub evident_shown : (c : Config) (ms : List Action) (v : ℕ) (x : Name) → IsEvident c.n c.qc c.qf (rows_known ms) v x → IsShown c ms v x
evident_shown c ms v x (inl k) =
    let counted : count_sites c.n (λ s. votes_for k.0 x v (rows_known ms s)) ≤ heard_at c (λ r. votes_for k.0 x v (Some r)) ms = counted_heard c (λ r. votes_for k.0 x v (Some r)) (λ s. votes_for k.0 x v (rows_known ms s)) ms (λ (s : ℕ) (l : s < c.n) (h : votes_for k.0 x v (rows_known ms s) ≡ true). let w = voted_shown k.0 x v (rows_known ms s) h in (w.0, known_heard ms s w.0 w.1, w.2)) in
    inl (k.0, omega (arith, k.1, counted))
evident_shown c ms v x (inr k) =
    let counted : count_sites c.n (λ s. decides x v (rows_known ms s)) ≤ heard_at c (λ r. decides x v (Some r)) ms = counted_heard c (λ r. decides x v (Some r)) (λ s. decides x v (rows_known ms s)) ms (λ (s : ℕ) (l : s < c.n) (h : decides x v (rows_known ms s) ≡ true). let w = decided_shown x v (rows_known ms s) h in (w.0, known_heard ms s w.0 w.1, w.2)) in
    inr (omega (arith, k, counted))

-- evidence depends on the rows of the sites alone
pub evident_same : (c : Config) (rows others : ℕ → Option RowAt) (v : ℕ) (x : Name) → ((s : ℕ) → s < c.n → rows s ≡ others s) → IsEvident c.n c.qc c.qf rows v x → IsEvident c.n c.qc c.qf others v x
evident_same c rows others v x same (inl k) =
    let counted : count_sites c.n (λ s. votes_for k.0 x v (rows s)) ≡ count_sites c.n (λ s. votes_for k.0 x v (others s)) = count_same c.n (λ s. votes_for k.0 x v (rows s)) (λ s. votes_for k.0 x v (others s)) (λ (s : ℕ) (l : s < c.n). ap (votes_for k.0 x v) (same s l)) in
    inl (k.0, omega (arith, k.1, counted))
evident_same c rows others v x same (inr k) =
    let counted : count_sites c.n (λ s. decides x v (rows s)) ≡ count_sites c.n (λ s. decides x v (others s)) = count_same c.n (λ s. decides x v (rows s)) (λ s. decides x v (others s)) (λ (s : ℕ) (l : s < c.n). ap (decides x v) (same s l)) in
    inr (omega (arith, k, counted))

-- and so does it whether work at a version goes on
pub gone_same : (c : Config) (ms ns : List Action) (v : ℕ) → ((s : ℕ) → rows_known ns s ≡ rows_known ms s) → NoneGone c ms v → NoneGone c ns v
gone_same c ms ns v same h s row l e = h s row l (sym (same s) ∙ e)

pub evidence_same : (c : Config) (ms ns : List Action) (v : ℕ) → ((s : ℕ) → rows_known ns s ≡ rows_known ms s) → NoEvidence c ms v → NoEvidence c ns v
evidence_same c ms ns v same h x e = h x (evident_same c (rows_known ns) (rows_known ms) v x (λ (s : ℕ) (l : s < c.n). same s) e)

pub undecided_same : (c : Config) (ms ns : List Action) (v : ℕ) → ((s : ℕ) → rows_known ns s ≡ rows_known ms s) → IsUndecided c ms v → IsUndecided c ns v
undecided_same c ms ns v same h = record {
  evident = evidence_same c ms ns v same h.evident;
  gone = gone_same c ms ns v same h.gone;
}

above_same : (c : Config) (ms ns : List Action) (v : ℕ) → ((s : ℕ) → rows_known ns s ≡ rows_known ms s) → ((u : ℕ) → IsCurrent c ms u → IsCurrent c ns u) → IsAboveFloor c ms v → IsAboveFloor c ns v
above_same c ms ns v same more h = record {
  site = h.site;
  row = h.row;
  inside = h.inside;
  known = same h.site ∙ h.known;
  two = h.two;
  top = λ (s : ℕ) (other : RowAt) (l : s < c.n) (e : rows_known ns s ≡ Some other). h.top s other l (sym (same s) ∙ e);
  current = more h.row.floor h.current;
}

after_same : (c : Config) (ms ns : List Action) (v : ℕ) → ((s : ℕ) → rows_known ns s ≡ rows_known ms s) → IsAfterEvidence c ms v → IsAfterEvidence c ns v
after_same c ms ns v same h = record { before = h.before; next = h.next; above = h.above; name = h.name; evident = evident_same c (rows_known ms) (rows_known ns) h.before h.name (λ (s : ℕ) (l : s < c.n). sym (same s)) h.evident }

-- a vote that has just begun, where what came of row requests is the same
pub skipping_same : (c : Config) (w : Caller) (ms ns : List Action) (stage : Stage) → ((s : ℕ) → rows_known ns s ≡ rows_known ms s) → ((u : ℕ) → IsCurrent c ms u → IsCurrent c ns u) → up_to_rows ns ≡ up_to_rows ms → IsSkipping c w stage ms → IsSkipping c w stage ns
skipping_same c w ms ns (Fast v) same more then h = (
  ap (λ os. voted_at w.name os v) then ∙ h.0,
  elim h.1 [
    | inl above ↦ inl (above_same c ms ns v same more above)
    | inr below ↦ inr ((below.0.0, below.0.1, below.0.2, same below.0.0 ∙ below.0.3, below.0.4), evidence_same c ms ns v same below.1, after_same c ms ns v same below.2)
  ],
)
skipping_same c w ms ns Look same more then h = h
skipping_same c w ms ns (Prepare v b found) same more then h = h
skipping_same c w ms ns (Accept v b x) same more then h = h

-- what the list makes evident is shown
pub listed_shown : (c : Config) (run : Run) (ms : List Action) → Knows c run ms → (v : ℕ) (x : Name) → IsEvident c.n c.qc c.qf (row_at run.rows) v x → IsShown c ms v x
listed_shown c run ms k v x e = evident_shown c ms v x (evident_same c (row_at run.rows) (rows_known ms) v x (row_at_known c run ms k) e)

-- and makes a value known there
pub listed_after : (c : Config) (run : Run) (ms : List Action) → Knows c run ms → (v : ℕ) (x : Name) → 1 ≤ v → IsEvident c.n c.qc c.qf (row_at run.rows) v x → IsAfterEvidence c ms (v + 1)
listed_after c run ms k v x l e = record { before = v; next = refl; above = l; name = x; evident = evident_same c (row_at run.rows) (rows_known ms) v x (row_at_known c run ms k) e }

-- what the list does not make evident is not evident
pub none_evident : (c : Config) (run : Run) (ms : List Action) → Knows c run ms → (v : ℕ) → NoneEvident c run.rows v → NoEvidence c ms v
none_evident c run ms k v none x e = none x (evident_same c (rows_known ms) (row_at run.rows) v x (λ (s : ℕ) (l : s < c.n). sym (row_at_known c run ms k s l)) e)

some_shown : (o : Option RowAt) → is_some o ≡ true → (row : RowAt) × (o ≡ Some row)
some_shown None h = absurd (cc)
some_shown (Some row) h = (row, refl)

slice_inside : {A : Type 0} (xs : List A) (s n : ℕ) (x : A) → length xs ≡ n → slice_get xs s ≡ Some x → s < n
slice_inside xs s n x len e = omega (arith, slice_get_within xs s x e)

-- a quorum of known rows that show nothing above a version makes the call current there
pub known_current : (c : Config) (run : Run) (ms : List Action) → Knows c run ms → (v : ℕ) → c.qc ≤ known_count c ms → ((s : ℕ) (row : RowAt) → slice_get run.rows s ≡ Some (Some row) → row_top row ≤ v) → IsCurrent c ms v
known_current c run ms k v enough low =
    let counted : known_count c ms ≤ heard_at c (λ r. leb (row_top r) v) ms = counted_heard c (λ r. leb (row_top r) v) (λ s. is_some (rows_known ms s)) ms (λ (s : ℕ) (l : s < c.n) (h : is_some (rows_known ms s) ≡ true).
    let w = some_shown (rows_known ms s) h in
    let listed : slice_get run.rows s ≡ Some (Some w.0) = k.rows s l ∙ ap (λ o. Some o) w.1 in
    (w.0, known_heard ms s w.0 w.1, le-leb (row_top w.0) v (low s w.0 listed))) in
    omega arith

-- rows of that quorum were heard
pub known_quorum : (c : Config) (ms : List Action) → c.qc ≤ known_count c ms → IsQuorumHeard c ms
known_quorum c ms enough =
    let counted : known_count c ms ≤ heard_at c (λ r. true) ms = counted_heard c (λ r. true) (λ s. is_some (rows_known ms s)) ms (λ (s : ℕ) (l : s < c.n) (h : is_some (rows_known ms s) ≡ true).
    let w = some_shown (rows_known ms s) h in
    (w.0, known_heard ms s w.0 w.1, refl)) in
    omega arith

-- no known row shows a version beyond those that a run reaches
pub known_low : (c : Config) (w : Caller) (past : List Trace) (run : Run) (ms : List Action) → Stands c w past run ms → highest_of run.rows < 2 ^ 62
known_low c w past run ms h =
    highest_below run.rows (2 ^ 62) (omega arith) (λ (s : ℕ) (row : RowAt) (e : slice_get run.rows s ≡ Some (Some row)).
    let inside : s < c.n = slice_inside run.rows s c.n (Some row) h.knows.rows_len e in
    stands_low c.n row (heard_stands c w past ms s row h.allowed (known_heard ms s row (listed_known c run ms h.knows s row inside e))))

-- the counts that the lists have
pub known_counted : (c : Config) (run : Run) (ms : List Action) → Knows c run ms → count_by (λ row. is_some row) run.rows ≡ known_count c ms
known_counted c run ms k = count_told (λ row. is_some row) c.n run.rows (λ s. known (site_now ms s)) k.rows_len k.rows

pub outs_counted : (c : Config) (run : Run) (ms : List Action) → Knows c run ms → count_by (λ mark. mark.out) run.marks ≡ outs c ms
outs_counted c run ms k = count_told (λ mark. mark.out) c.n run.marks (λ s. mark_of (site_now ms s)) k.marks_len k.marks
