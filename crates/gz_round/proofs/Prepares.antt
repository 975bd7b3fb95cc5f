-- A call prepares a ballot above every one that it knows, and that its session used.
use Rattle.std.proofs.Common.{◌≡◌, ◌≢◌, ℕ, zero, suc, ◌+◌, ◌<◌, ◌≤◌, ◌^◌, Bool, true, false, ◌&&◌, ◌==◌, List, [], ◌∷◌, Option, Some, None, is_some, refl, sym, ap, ◌∙◌, subst, inl, inr, ◌⊎◌, arith, leb, count_by, not, ltb-false, true≢false}
use Rattle.std.specs.List.{slice_get, list_any}
use Rattle.std.specs.Prelude.{nat_lt}
use Rattle.std.proofs.lemmas.Bool.{cases_Bool, cases_lt, cond-true, false≢true, both_ways, or_cases, or_right, and_parts, ltb-true, eqb-true, false_from_ne_true, le-leb, or_from}
use Rattle.std.proofs.lemmas.Bool.Decides.{nat_tests}
use Rattle.std.proofs.lemmas.Option.{same_Some, none-some, slice_get_within}
use Rattle.gz_core.specs.Names.{Name, BallotAt, same_ballot, same_name}
use Rattle.gz_core.specs.Values.{name_of}
use Rattle.gz_core.specs.Rows.{RowAt}
use Rattle.gz_core.specs.Slots.{slots}
use Rattle.gz_core.specs.declared.slots.Slot.{Slot}
use Rattle.gz_core.specs.declared.slots.Slot.TheVariants.{Gone, DecidedAs, OpenAt}
use Rattle.gz_accept.specs.declared.answers.Step.TheVariants.{Done}
use Rattle.gz_accept.specs.Steps.{promise_answer}
use Rattle.gz_core.specs.Configurations.{IsConfig}
use Rattle.gz_core.specs.declared.values.Value.{Value}
use Rattle.gz_core.specs.declared.requests.Out.{Out}
use Rattle.gz_config.specs.declared.Config.{Config}
use Rattle.gz_core.specs.declared.requests.RowStep.{RowStep}
use Rattle.gz_core.specs.declared.requests.RowStep.TheVariants.{FastVote, Promise, ClassicVote, Decide, Trim}
use Rattle.gz_core.specs.declared.requests.Op.{Op}
use Rattle.gz_core.specs.declared.requests.Op.TheVariants.{WriteRow}
use Rattle.gz_core.proofs.Ballots.{same_means, same_from}
use Rattle.gz_core.proofs.Counting.{count_found}
use Rattle.gz_pick.specs.Looks.{row_top, highest_of}
use Rattle.gz_round.specs.declared.run.Run.{Run}
use Rattle.gz_round.specs.declared.run.Stage.{Stage}
use Rattle.gz_round.specs.declared.run.Stage.TheVariants.{Look, Fast, Prepare, Accept}
use Rattle.gz_round.specs.declared.outcome.Outcome.{Outcome}
use Rattle.gz_round.specs.declared.outcome.Outcome.TheVariants.{Goes, Ends}
use Rattle.gz_core.specs.History.{Action, Sent, Handed, GaveUp, Rested, GaveIn, Caller, Trace, is_row_request, sent_from, Asked}
use Rattle.gz_round.specs.Sites.{SiteNow, site_now, known}
use Rattle.gz_round.specs.Sent.{promise_by, of_step, of_sent, passes_sent, some_sent, has_promised, has_promised_at, IsUnpromised, top_round, round_after}
use Rattle.gz_round.specs.Shown.{heard_at, IsCurrent}
use Rattle.gz_round.specs.Targets.{IsAim}
use Rattle.gz_round.specs.LookBack.{lowest_vote, IsLookedBack}
use Rattle.gz_round.specs.Rounds.{IsUnused, ClassicCast, cast_by, has_classic_cast, passed_since, above_known, round_known, slot_round, slot_promises_above, greatest, next_round, top_rounds, slot_promises, promises_known}
use Rattle.gz_round.specs.Sending.{IsUndecided, IsIdle, NoneAbove, AreAllowed, MayAsk, MayMake, rows_known, MayRead}
use Rattle.gz_round.specs.Counting.{known_count, IsGoing}
use Rattle.gz_round.specs.Starting.{ReadAlone, SendsLast}
use Rattle.gz_round.specs.Asking.{IsLeftBy}
use Rattle.gz_round.specs.Standing.{Knows, Stands, StageStands, ArePassed, IsWorking, MayPass, IsWaiting, Runs}
use Rattle.gz_round.specs.Following.{Asks, HasAsked, IsAwaitedBy, HasTurned}
use Rattle.gz_round.specs.Acting.{Prepares, RunsOut, Carries, IsBallotAbove, round_in, given_in_of, prepared_of, is_waiting, ended_of, ended_in, working_version, version_in, IsAskableAt, IsPreparable}
use Rattle.gz_round.specs.Goals.{AreServed, looked_in, IsUnmet, is_overtaken, is_overtaken_in, AreAskableAbove, IsFewIn, IsOvertakenAskably, step_in}
use Rattle.gz_round.proofs.Lists.{any_found, none_found, any_counted}
use Rattle.gz_round.proofs.Heard.{heard_one}
use Rattle.gz_round.proofs.AsHeard.{heard_stands}
use Rattle.gz_round.proofs.Known.{listed_known, known_heard, known_current, known_last}
use Rattle.gz_round.proofs.Columns.{top_highest, highest_reached, stands_round}
use Rattle.gz_round.proofs.Votes.{unvoted_clear, unvoted_up_to}
use Rattle.gz_round.proofs.Unpromised.{looks_unpromised, unpromised_from}
use Rattle.gz_round.proofs.Targets.{looked_low, looked_aim, vote_passes}
use Rattle.gz_round.proofs.Arms.{stands_stage}
use Rattle.gz_round.proofs.LookBacks.{before_none, back_sent_from, begun_new, begun_heard}
use Rattle.gz_round.proofs.Untaken.{undecided_known, kept_known, fresh_taken, open_taken}
use Rattle.gz_round.proofs.Turns.{again_from, waits_from, idle_of, heard_from, quorum_known, none_passed, untaken_from}
use Rattle.gz_round.proofs.Passes.{alone_last, none_alone}
use Rattle.gz_round.specs.declared.hearing.Seen.{Seen}
use Rattle.gz_pick.specs.Evidences.{is_in}

-- a ballot that was promised has a round that was used
round_passes : (o : Option (ℕ × BallotAt)) (p : (ℕ × BallotAt) → Bool) (b : BallotAt) (round : ℕ) → ((q : ℕ × BallotAt) → p q ≡ true → q.1 ≡ b) → passes_sent p o ≡ true → b.round ≤ round_after o round
round_passes None p b round h e = absurd (false≢true e)
round_passes (Some q) p b round h e = let same = ap (λ (d : BallotAt). d.round) (h q e) in omega arith

round_grows : (o : Option (ℕ × BallotAt)) (round : ℕ) → round ≤ round_after o round
round_grows None round = omega arith
round_grows (Some q) round = omega arith

some_round : (p : (ℕ × BallotAt) → Bool) (b : BallotAt) (ms : List Action) → ((q : ℕ × BallotAt) → p q ≡ true → q.1 ≡ b) → some_sent promise_by p ms ≡ true → b.round ≤ top_round ms
some_round p b [] h e = absurd (false≢true e)
some_round p b (m ∷ ms) h e =
    elim (or_cases (passes_sent p (of_sent promise_by m)) (some_sent promise_by p ms) e) [
      | inl here ↦ round_passes (of_sent promise_by m) p b (top_round ms) h here
      | inr rest ↦ omega (arith, some_round p b ms h rest, round_grows (of_sent promise_by m) (top_round ms))
    ]

pub promised_round : (ms : List Action) (b : BallotAt) → has_promised ms b ≡ true → b.round ≤ top_round ms
promised_round ms b e = some_round (λ p. same_ballot p.1 b) b ms (λ (q : ℕ × BallotAt) (k : same_ballot q.1 b ≡ true). same_means q.1 b k) e

pub promised_round_at : (ms : List Action) (v : ℕ) (b : BallotAt) → has_promised_at ms v b ≡ true → b.round ≤ top_round ms
promised_round_at ms v b e = some_round (λ p. (p.0 == v) && same_ballot p.1 b) b ms (λ (q : ℕ × BallotAt) (k : ((q.0 == v) && same_ballot q.1 b) ≡ true). same_means q.1 b (and_parts (q.0 == v) (same_ballot q.1 b) k).1) e

unpromised_above : (ms : List Action) (b : BallotAt) → top_round ms < b.round → has_promised ms b ≡ false
unpromised_above ms b l = false_from_ne_true (has_promised ms b) (λ (e : has_promised ms b ≡ true). let low = promised_round ms b e in omega arith)

-- the next ballot was not promised yet
pub next_unpromised : (c : Config) (past : List Trace) (ms : List Action) (v : ℕ) (b : BallotAt) → b.round ≡ next_round c past ms v → has_promised ms b ≡ false
next_unpromised c past ms v b e = unpromised_above ms b (omega arith)

unpromised_at_above : (ms : List Action) (v : ℕ) (b : BallotAt) → top_round ms < b.round → has_promised_at ms v b ≡ false
unpromised_at_above ms v b l = false_from_ne_true (has_promised_at ms v b) (λ (e : has_promised_at ms v b ≡ true). let low = promised_round_at ms v b e in omega arith)

unused_above : (past : List Trace) (b : BallotAt) → top_rounds past < b.round → IsUnused past b
unused_above [] b l = tt
unused_above (trace ∷ traces) b l = (unpromised_above trace.actions b (omega arith), unused_above traces b (omega arith))

cast_same : (o : Option ClassicCast) (v : ℕ) (b : BallotAt) (y : Name) → passes_sent (λ k. (k.version == v) && same_ballot k.ballot b && same_name k.name y) o ≡ true → (k : ClassicCast) × (o ≡ Some k) × (((k.version == v) && same_ballot k.ballot b && same_name k.name y) ≡ true)
cast_same None v b y e = absurd (false≢true e)
cast_same (Some k) v b y e = (k, refl, e)

step_cast : (c : Config) (w : Caller) (past : List Trace) (ms : List Action) (step : RowStep) (v : ℕ) (b : BallotAt) (y : Name) → MayMake c w past ms step → passes_sent (λ k. (k.version == v) && same_ballot k.ballot b && same_name k.name y) (cast_by step) ≡ true → has_promised_at ms v b ≡ true
step_cast c w past ms (FastVote u x) v b y may e = absurd (false≢true e)
step_cast c w past ms (Promise u d) v b y may e = absurd (false≢true e)
step_cast c w past ms (ClassicVote u d x) v b y may e =
    let outer : (((u == v) && same_ballot d b) ≡ true) × (same_name (name_of x) y ≡ true) = and_parts ((u == v) && same_ballot d b) (same_name (name_of x) y) e in
    let both : ((u == v) ≡ true) × (same_ballot d b ≡ true) = and_parts (u == v) (same_ballot d b) outer.0 in
    subst (λ (k : ℕ). has_promised_at ms k b ≡ true) (eqb-true u v both.0) (subst (λ (k : BallotAt). has_promised_at ms u k ≡ true) (same_means d b both.1) may.promised)
step_cast c w past ms (Decide u x) v b y may e = absurd (false≢true e)
step_cast c w past ms (Trim to x) v b y may e = absurd (false≢true e)

op_cast : (c : Config) (w : Caller) (past : List Trace) (ms : List Action) (now : SiteNow) (op : Op) (v : ℕ) (b : BallotAt) (y : Name) → (is_row_request op ≡ true → MayAsk c w past ms now op) → passes_sent (λ k. (k.version == v) && same_ballot k.ballot b && same_name k.name y) (of_step cast_by op) ≡ true → has_promised_at ms v b ≡ true
op_cast c w past ms now (WriteRow key expect step row) v b y may e = step_cast c w past ms step v b y (may refl).1.guard e
op_cast c w past ms now op v b y may e = absurd (false≢true e)

-- a call votes in a classic ballot only once it has promised it
pub cast_promised : (c : Config) (w : Caller) (past : List Trace) (ms : List Action) (v : ℕ) (b : BallotAt) (y : Name) → AreAllowed c w past ms → has_classic_cast ms v b y ≡ true → has_promised_at ms v b ≡ true
cast_promised c w past [] v b y allowed e = absurd (false≢true e)
cast_promised c w past (Sent a ∷ ms) v b y allowed e =
    elim (or_cases (passes_sent (λ k. (k.version == v) && same_ballot k.ballot b && same_name k.name y) (of_step cast_by a.op)) (has_classic_cast ms v b y) e) [
      | inl here ↦ or_right (passes_sent (λ p. (p.0 == v) && same_ballot p.1 b) (of_step promise_by a.op)) (has_promised_at ms v b) (op_cast c w past ms (site_now ms a.site) a.op v b y (λ row. (allowed.0 row).asks) here)
      | inr rest ↦ or_right (passes_sent (λ p. (p.0 == v) && same_ballot p.1 b) (of_step promise_by a.op)) (has_promised_at ms v b) (cast_promised c w past ms v b y allowed.1 rest)
    ]
cast_promised c w past (Handed a reply ∷ ms) v b y allowed e = cast_promised c w past ms v b y allowed.1 e
cast_promised c w past (GaveUp a ∷ ms) v b y allowed e = cast_promised c w past ms v b y allowed.1 e
cast_promised c w past (Rested ∷ ms) v b y allowed e = cast_promised c w past ms v b y allowed.1 e
cast_promised c w past (GaveIn ∷ ms) v b y allowed e = cast_promised c w past ms v b y allowed.1 e

uncast_above : (c : Config) (w : Caller) (past : List Trace) (ms : List Action) (v : ℕ) (b : BallotAt) (y : Name) → AreAllowed c w past ms → top_round ms < b.round → has_classic_cast ms v b y ≡ false
uncast_above c w past ms v b y allowed l = false_from_ne_true (has_classic_cast ms v b y) (λ (e : has_classic_cast ms v b y ≡ true). let low = promised_round_at ms v b (cast_promised c w past ms v b y allowed e) in omega arith)

-- the rounds that rows promise are at most the greatest one
round_listed : (v : ℕ) (rows : List (Option RowAt)) (s : ℕ) (o : Option RowAt) → slice_get rows s ≡ Some o → round_known v o ≤ round_in v rows
round_listed v [] s o e = absurd (cc)
round_listed v (row ∷ rows) zero o e = let same = ap (round_known v) (same_Some row o e) in omega arith
round_listed v (row ∷ rows) (suc s) o e = omega (arith, round_listed v rows s o e)

-- which is reached
round_reached : (v : ℕ) (rows : List (Option RowAt)) → (round_in v rows ≡ 0) ⊎ ((s : ℕ) × (o : Option RowAt) × (slice_get rows s ≡ Some o) × (round_known v o ≡ round_in v rows))
round_reached v [] = inl refl
round_reached v (row ∷ rows) =
    elim (cases_lt (round_known v row) (round_in v rows)) [
      | inl l ↦ elim (round_reached v rows) [ inl e ↦ absurd (omega arith) | inr w ↦ inr (suc w.0, w.1, w.2, omega (arith, w.3)) ]
      | inr l ↦ inr (zero, row, refl, omega arith)
    ]

greatest_above : (n : ℕ) (f : ℕ → ℕ) (s : ℕ) → s < n → f s ≤ greatest n f
greatest_above zero f s l = absurd (omega arith)
greatest_above (suc n) f s l =
    elim (cases_lt s n) [
      | inl low ↦ omega (arith, greatest_above n f s low)
      | inr high ↦ (let same : s ≡ n = omega arith in let here = ap f same in omega arith)
    ]

greatest_reached : (n : ℕ) (f : ℕ → ℕ) → (greatest n f ≡ 0) ⊎ ((s : ℕ) × (s < n) × (f s ≡ greatest n f))
greatest_reached zero f = inl refl
greatest_reached (suc n) f =
    elim (cases_lt (f n) (greatest n f)) [
      | inl l ↦ elim (greatest_reached n f) [ inl e ↦ absurd (omega arith) | inr w ↦ inr (w.0, omega (arith, w.1), omega (arith, w.2)) ]
      | inr l ↦ inr (n, omega arith, omega arith)
    ]

-- the greatest round of the list is that of the rows that are known
round_greatest : (c : Config) (run : Run) (ms : List Action) (v : ℕ) → Knows c run ms → round_in v run.rows ≡ greatest c.n (λ s. round_known v (rows_known ms s))
round_greatest c run ms v k =
    let most : round_in v run.rows ≤ greatest c.n (λ s. round_known v (rows_known ms s)) = elim (round_reached v run.rows) [
      | inl zero_is ↦ omega arith
      | inr w ↦ (
          let inside : w.0 < c.n = let len = k.rows_len in omega (arith, slice_get_within run.rows w.0 w.1 w.2) in
          let same = ap (round_known v) (same_Some (rows_known ms w.0) w.1 (sym (k.rows w.0 inside) ∙ w.2)) in
          omega (arith, w.3, same, greatest_above c.n (λ s. round_known v (rows_known ms s)) w.0 inside))
    ] in
    let least : greatest c.n (λ s. round_known v (rows_known ms s)) ≤ round_in v run.rows = elim (greatest_reached c.n (λ s. round_known v (rows_known ms s))) [
      | inl zero_is ↦ omega arith
      | inr w ↦ omega (arith, w.2, round_listed v run.rows w.0 (rows_known ms w.0) (k.rows w.0 w.1))
    ] in
    omega arith

-- a known row promises no round beyond those that a run reaches
pub round_below : (c : Config) (w : Caller) (past : List Trace) (ms : List Action) (v s : ℕ) (o : Option RowAt) → AreAllowed c w past ms → rows_known ms s ≡ o → round_known v o < 2 ^ 31
round_below c w past ms v s None allowed e = omega arith
round_below c w past ms v s (Some row) allowed e = stands_round c.n row v (heard_stands c w past ms s row allowed (known_heard ms s row e))

-- nor does the list of rows
pub rounds_below : (c : Config) (w : Caller) (past : List Trace) (run : Run) (ms : List Action) (v : ℕ) → Stands c w past run ms → round_in v run.rows < 2 ^ 31
rounds_below c w past run ms v h =
    let k : Knows c run ms = h.knows in
    elim (round_reached v run.rows) [
      | inl zero_is ↦ omega arith
      | inr x ↦ (
          let inside : x.0 < c.n = let len = k.rows_len in omega (arith, slice_get_within run.rows x.0 x.1 x.2) in
          omega (arith, x.3, round_below c w past ms v x.0 x.1 h.allowed (same_Some (rows_known ms x.0) x.1 (sym (k.rows x.0 inside) ∙ x.2))))
    ]

low_above : (slot : Slot) (b : BallotAt) → slot_round slot < b.round → slot_promises_above slot b ≡ false
low_above Gone b l = refl
low_above (DecidedAs x) b l = refl
low_above (OpenAt promise vote) b l = grind (arith, nat_tests)

low_listed : (c : Config) (run : Run) (ms : List Action) (v : ℕ) (b : BallotAt) (s : ℕ) (row : RowAt) → Knows c run ms → round_in v run.rows < b.round → s < c.n → rows_known ms s ≡ Some row → slot_round (slots row v) < b.round
low_listed c run ms v b s row k l i e = omega (arith, round_listed v run.rows s (Some row) (k.rows s i ∙ ap (λ o. Some o) e))

-- no known row promises a ballot above the new one
pub none_above_new : (c : Config) (run : Run) (ms : List Action) (v : ℕ) (b : BallotAt) → Knows c run ms → round_in v run.rows < b.round → NoneAbove c ms v b
none_above_new c run ms v b k l s row i e = low_above (slots row v) b (low_listed c run ms v b s row k l i e)

-- what a call looks back at as it prepares a ballot, whatever it sends at that event
pub looked_back : (c : Config) (w : Caller) (past : List Trace) (run : Run) (ms : List Action) (first : ℕ) (sent : List Out) (v : ℕ) (b : BallotAt) (found : Option Value) → Prepares c w past run ms v → IsBallotAbove run v b → found ≡ lowest_vote c.n v ms → IsLookedBack c (sent_from first sent ms) v b found
looked_back c w past run ms first sent v b found p n e =
    let round = n.round in
    let used = p.stands.round_is in
    let unpromised : has_promised_at ms v b ≡ false = unpromised_at_above ms v b (omega arith) in
    e ∙ (ap (lowest_vote c.n v) (sym (before_none v b ms unpromised)) ∙ sym (back_sent_from c first sent ms v b))

-- what is kept while the new ballot is promised
pub prepared_asks : (c : Config) (w : Caller) (past : List Trace) (run : Run) (ms : List Action) (v : ℕ) (b : BallotAt) (found : Option Value) → Prepares c w past run ms v → IsBallotAbove run v b → Asks c w past (record run { stage = Prepare v b found }) ms (Some (Promise v b))
prepared_asks c w past run ms v b found p n =
    let round = n.round in
    let used = p.stands.round_is in
    let known = round_greatest c run ms v p.stands.knows in
    let session : b.session ≡ w.name.session = n.session ∙ ap (λ (x : Name). x.session) p.stands.name_is in
    let unused : IsUnused past b = unused_above past b (omega arith) in
    let passed : (d : BallotAt) → d ≢ b → has_promised_at ms v d ≡ true → passed_since v d ms ≡ true = λ (d : BallotAt) (k : d ≢ b) (e : has_promised_at ms v d ≡ true). p.passed d e in
    let works : IsWorking c w past ms v b = record {
      pass = p.pass;
      classic = n.classic;
      session = session;
      unused = unused;
      grounded = p.grounded;
      passed = passed;
      begun = λ reads. begun_new c ms v b (unpromised_at_above ms v b (omega arith)) (p.begun reads);
    } in
    record {
      stands = stands_stage c w past run ms (Prepare v b found) p.stands;
      may = record { above = p.pass.above; classic = n.classic; session = session; unused = unused; round = inl (omega arith); grounded = p.grounded; passed = passed };
      held = (record { works = works; uncast = λ (y : Name). uncast_above c w past ms v b y p.stands.allowed (omega arith); used = inr (omega arith) }, none_above_new c run ms v b p.stands.knows (omega arith));
      unnoticed = p.unnoticed;
    }

known_some : (o : Option RowAt) → is_some o ≡ true → (row : RowAt) × (o ≡ Some row)
known_some None e = absurd (false≢true e)
known_some (Some row) e = (row, refl)

-- a known row takes a ballot above all that they promise
prepared_taken : (c : Config) (new : Run) (ns : List Action) (v : ℕ) (b : BallotAt) → Knows c new ns → IsUndecided c ns v → round_in v new.rows < b.round → ((s : ℕ) (row : RowAt) → s < c.n → rows_known ns s ≡ Some row → promise_answer row v b ≢ Done) →
    (s : ℕ) (row : RowAt) → s < c.n → rows_known ns s ≡ Some row → ⊥
prepared_taken c new ns v b k none low untaken s row l e = untaken s row l e (fresh_taken row v b (kept_known c ns v s row none l e) (undecided_known c ns v s row none l e) (low_listed c new ns v b s row k low l e))

-- a row is known while a call can go on that has heard every site
known_one : (c : Config) (ns : List Action) (v : ℕ) → IsConfig c → IsGoing c ns → IsIdle c ns v → (s : ℕ) × (row : RowAt) × (s < c.n) × (rows_known ns s ≡ Some row)
known_one c ns v config going idle =
    let enough : c.qc ≤ known_count c ns = quorum_known c ns idle.heard going.enough in
    let one : 0 < known_count c ns = let q = config.quorums in omega (arith, config.some, q.majority) in
    let site = count_found c.n (λ s. is_some (rows_known ns s)) one in
    let row = known_some (rows_known ns site.0) site.2 in
    (site.0, row.0, site.1, row.1)

promise_used : (new : Run) (ms : List Action) (v : ℕ) (b : BallotAt) (s : ℕ) → (site_now ms s).awaits ≡ None → ((site_now ms s).out ≡ false → MayRead (site_now ms s) → ⊥) → IsAwaitedBy new ms (Some (Promise v b)) s → b.round ≤ new.round
promise_used new ms v b s idle heard (inl before) = absurd (none-some before.0 (sym idle ∙ before.1))
promise_used new ms v b s idle heard (inr (inl due)) = absurd (heard due.0 due.1)
promise_used new ms v b s idle heard (inr (inr used)) = omega (arith, used)

known_unread : (now : SiteNow) (row : RowAt) → known now ≡ Some row → now.changed ≡ false → MayRead now → ⊥
known_unread now row e same (inl none) = let last = known_last now row e in none-some last.0 (sym none ∙ last.1)
known_unread now row e same (inr changed) = both_ways now.changed same changed

askable_used : (c : Config) (w : Caller) (past : List Trace) (run new : Run) (ms ns : List Action) (v : ℕ) (b : BallotAt) (s : ℕ) (o : Option Asked) → Knows c run ms → round_in v run.rows < b.round → new.rows ≡ run.rows → HasAsked c w past new ms ns (Some (Promise v b)) → IsAskableAt c ms v s → (site_now ns s).awaits ≡ o → b.round ≤ new.round
askable_used c w past run new ms ns v b s (Some a) knows low rows asked k e = promise_used new ms v b s k.idle (λ kept. known_unread (site_now ms s) k.row k.known k.same) (asked.awaited s a e)
askable_used c w past run new ms ns v b s None knows low rows asked k e =
    let there : rows_known ns s ≡ Some k.row = same_Some (rows_known ns s) (rows_known ms s) (sym (asked.stands.knows.rows s k.inside) ∙ (ap (λ known. slice_get known s) rows ∙ knows.rows s k.inside)) ∙ k.known in
    let last = known_last (site_now ns s) k.row there in
    let q = asked.served s k.inside e last.3 in
    let same : q.0.row ≡ k.row = ap (λ (z : Seen). z.row) (same_Some q.0 last.0 (sym q.1 ∙ last.1)) ∙ last.2 in
    let taken : promise_answer k.row v b ≡ Done = open_taken (slots k.row v) k.row.floor k.ballot b k.above (low_listed c run ms v b s k.row knows low k.inside k.known) in
    absurd (false≢true (q.3 (ap (λ (row : RowAt). promise_answer row v b) same ∙ taken)).0)

-- once a ballot was prepared and a request is awaited, its promise was sent
prepared_used : (c : Config) (w : Caller) (past : List Trace) (run new : Run) (ms ns : List Action) (v : ℕ) (b : BallotAt) → Knows c run ms → round_in v run.rows < b.round → new.rows ≡ run.rows → HasAsked c w past new ms ns (Some (Promise v b)) → IsWaiting c ns → IsPreparable c ms v → b.round ≤ new.round
prepared_used c w past run new ms ns v b knows low rows asked waits (inl quiet) =
    promise_used new ms v b waits.0 (quiet.0 waits.0 waits.2) (λ kept may. true≢false (sym (quiet.1 waits.0 waits.2 may (quiet.0 waits.0 waits.2)) ∙ kept)) (asked.awaited waits.0 waits.1 waits.3)
prepared_used c w past run new ms ns v b knows low rows asked waits (inr k) = askable_used c w past run new ms ns v b k.0 (site_now ns k.0).awaits knows low rows asked k.1 refl

low_above_known : (v : ℕ) (b : BallotAt) (o : Option RowAt) → round_known v o < b.round → above_known v b o ≡ false
low_above_known v b None l = refl
low_above_known v b (Some row) l = low_above (slots row v) b l

low_promise : (slot : Slot) (b : BallotAt) → slot_round slot < b.round → slot_promises slot b ≡ false
low_promise Gone b l = refl
low_promise (DecidedAs x) b l = refl
low_promise (OpenAt promise vote) b l =
    let other : same_ballot promise b ≡ false = false_from_ne_true (same_ballot promise b) (λ (e : same_ballot promise b ≡ true). let same = ap (λ (d : BallotAt). d.round) (same_means promise b e) in omega arith) in
    ap (λ t. t && not (is_in b vote)) other

low_promise_known : (v : ℕ) (b : BallotAt) (o : Option RowAt) → round_known v o < b.round → promises_known v b o ≡ false
low_promise_known v b None l = refl
low_promise_known v b (Some row) l = low_promise (slots row v) b l

-- no row of a list promises a later round than all that it has
none_low : (p : Option RowAt → Bool) (rows : List (Option RowAt)) (v : ℕ) (b : BallotAt) → ((o : Option RowAt) → round_known v o < b.round → p o ≡ false) → round_in v rows < b.round → list_any p rows ≡ false
none_low p rows v b low l = none_found p rows (λ (s : ℕ) (o : Option RowAt) (e : slice_get rows s ≡ Some o). low o (omega (arith, round_listed v rows s o e)))

-- while a new ballot is awaited, too few rows promise it
prepared_few : (c : Config) (rows : List (Option RowAt)) (v : ℕ) (b : BallotAt) → IsConfig c → round_in v rows < b.round → count_by (promises_known v b) rows < c.qc
prepared_few c rows v b config low =
    let none : list_any (promises_known v b) rows ≡ false = none_low (promises_known v b) rows v b (low_promise_known v b) low in
    let count : count_by (promises_known v b) rows ≤ 0 = ltb-false 0 (count_by (promises_known v b) rows) (any_counted (promises_known v b) rows ∙ none) in
    let q = config.quorums in
    omega (arith, config.some, q.majority)

-- and it leads on
prepared_ahead : (new : Run) (v : ℕ) (b : BallotAt) (found : Option Value) → b.round ≤ new.round → round_in v new.rows < b.round → is_overtaken_in new (Prepare v b found) ≡ false
prepared_ahead new v b found used low =
    let round : nat_lt new.round b.round ≡ false = grind (arith, nat_tests) in
    or_from (nat_lt new.round b.round) (list_any (above_known v b) new.rows) round (none_low (above_known v b) new.rows v b (low_above_known v b) low)

-- the call goes on to wait for promises
prepared_runs : (c : Config) (w : Caller) (past : List Trace) (run new : Run) (ms : List Action) (v : ℕ) (b : BallotAt) (found : Option Value) (ns : List Action) → IsConfig c → Prepares c w past run ms v → IsBallotAbove run v b → IsGoing c ns → IsUndecided c ns v → (w.own ≡ None → IsLookedBack c ns v b found) →
    HasAsked c w past new ms ns (Some (Promise v b)) → IsLeftBy (record run { stage = Prepare v b found }) new (Some (Promise v b)) → is_waiting new ≡ true → Runs c w past new ns
prepared_runs c w past run new ms v b found ns config p n going none back asked left e =
    let round = n.round in
    let low_old : round_in v run.rows < b.round = omega arith in
    let low : round_in v new.rows < b.round = let same = ap (round_in v) left.rows in omega arith in
    let waits : IsWaiting c ns = waits_from c new ns asked.stands.knows e in
    let used : b.round ≤ new.round = prepared_used c w past run new ms ns v b p.stands.knows low_old left.rows asked waits p.askable in
    record {
      stands = asked.stands;
      stage = subst (λ st. StageStands c w past st ns) (sym left.stage) (asked.held.0, none_passed c ns v b asked.held.1, λ reads last. back reads);
      unmet = inl (subst (λ st. IsUnmet c new st ns) (sym left.stage) none);
      few = subst (λ st. IsFewIn c new st) (sym left.stage) (inr (prepared_few c new.rows v b config low));
      ahead = subst (λ st. is_overtaken_in new st ≡ false) (sym left.stage) (prepared_ahead new v b found used low);
      again = again_from c w ns (Some (Promise v b)) asked.served;
      served = subst (λ st. AreServed c w ns (step_in st new.own)) (sym left.stage) asked.served;
      unnoticed = asked.unnoticed refl;
      going = going;
      waits = waits;
    }

-- once the new ballot was promised at each site that takes it, the call waits, or gives in
pub prepared_turned : (c : Config) (w : Caller) (past : List Trace) (run new : Run) (ms : List Action) (v : ℕ) (b : BallotAt) (found : Option Value) (ns : List Action) → IsConfig c → Prepares c w past run ms v → IsBallotAbove run v b → IsGoing c ns → IsUndecided c ns v → (w.own ≡ None → IsLookedBack c ns v b found) →
    HasAsked c w past new ms ns (Some (Promise v b)) → IsLeftBy (record run { stage = Prepare v b found }) new (Some (Promise v b)) → HasTurned c w past new ns (prepared_of new)
prepared_turned c w past run new ms v b found ns config p n going none back asked left =
    let round = n.round in
    let low : round_in v new.rows < b.round = let same = ap (round_in v) left.rows in omega arith in
    let k : Stands c w past new ns = asked.stands in
    elim (cases_Bool (is_waiting new)) [
      | inl e ↦ subst (HasTurned c w past new ns) (sym (cond-true (is_waiting new) Goes (Ends (given_in_of new)) e))
          ([], inl refl, prepared_runs c w past run new ms v b found ns config p n going none back asked left e)
      | inr e ↦ (
          let awaits : (s : ℕ) → s < c.n → (site_now ns s).awaits ≡ None = λ (s : ℕ) (l : s < c.n). idle_of c new ns s (site_now ns s).awaits k.knows e l refl in
          let idle : IsIdle c ns v = record { awaits = awaits; heard = heard_from c w ns (Some (Promise v b)) asked.served awaits; undecided = none } in
          let one = known_one c ns v config going idle in
          absurd (prepared_taken c new ns v b k.knows none low (untaken_from c w ns (Promise v b) refl asked.served awaits) one.0 one.1 one.2 one.3))
    ]

-- where the call gives in, nothing was sent
pub prepared_last : (new : Run) (send : List Out) (outcome : Outcome) → (is_waiting new ≡ false → send ≡ []) → outcome ≡ prepared_of new → SendsLast outcome send
prepared_last new send outcome idle is =
    elim (cases_Bool (is_waiting new)) [
      | inl e ↦ subst (λ o. SendsLast o send) (sym (is ∙ cond-true (is_waiting new) Goes (Ends (given_in_of new)) e)) tt
      | inr e ↦ alone_last outcome send (subst ReadAlone (sym (idle e)) none_alone)
    ]

unpromised_passed : (ms : List Action) (v u : ℕ) → v ≤ u → IsUnpromised ms v → (d : BallotAt) → has_promised_at ms u d ≡ true → passed_since u d ms ≡ true
unpromised_passed ms v u l h d e = absurd (both_ways (has_promised_at ms u d) (h u d l) e)

ended_prepares : (c : Config) (w : Caller) (past : List Trace) (run : Run) (ms : List Action) (stage : Stage) → run.stage ≡ stage → RunsOut c w past run ms → ended_in run stage ≡ None → Prepares c w past run ms (version_in stage (looked_in run))
ended_prepares c w past run ms Look at r e =
    let s : StageStands c w past Look ms = subst (λ st. StageStands c w past st ms) at r.stage in
    let above : 1 ≤ looked_in run = subst (λ st. 1 ≤ version_in st (looked_in run)) at r.above in
    let low : looked_in run ≤ highest_of run.rows = looked_low run.target (highest_of run.rows) in
    let none : IsUndecided c ms (looked_in run) = subst (λ st. IsUndecided c ms (version_in st (looked_in run))) at r.none in
    let enough : c.qc ≤ known_count c ms = quorum_known c ms r.heard r.going.enough in
    let unpromised : IsUnpromised ms 0 = looks_unpromised ms 0 s.1 in
    let current : IsCurrent c ms (highest_of run.rows) = known_current c run ms r.stands.knows (highest_of run.rows) enough (λ (site : ℕ) (row : RowAt) (k : slice_get run.rows site ≡ Some (Some row)). top_highest run.rows site row k) in
    let pass : MayPass c w ms (looked_in run) = record {
      above = above;
      aim = subst (λ t. IsAim c t ms (looked_in run)) r.stands.target_is (looked_aim c run.target ms (highest_of run.rows) current);
      clear = unvoted_clear c w.name ms (looked_in run) s.0;
      later = unpromised_from ms 0 (looked_in run + 1) (omega arith) unpromised;
      votes = unvoted_up_to w ms (looked_in run) s.0;
    } in
    let begun : 1 ≤ heard_at c (λ r. leb (looked_in run) (row_top r)) ms = elim (highest_reached run.rows) [
      | inl zero_is ↦ absurd (omega arith)
      | inr k ↦ (
          let inside : k.0 < c.n = let len = r.stands.knows.rows_len in omega (arith, slice_get_within run.rows k.0 (Some k.1) k.2) in
          let top = k.3 in
          heard_one c (λ row. leb (looked_in run) (row_top row)) ms k.0 k.1 inside (known_heard ms k.0 k.1 (listed_known c run ms r.stands.knows k.0 k.1 inside k.2)) (le-leb (looked_in run) (row_top k.1) (omega arith)))
    ] in
    record { stands = r.stands; going = r.going; unnoticed = r.unnoticed; askable = inl (r.idle, r.again); pass = pass; grounded = inr begun; passed = unpromised_passed ms 0 (looked_in run) (omega arith) unpromised; begun = λ reads. begun; none = none }
ended_prepares c w past run ms (Fast v) at r e =
    let s : StageStands c w past (Fast v) ms = subst (λ st. StageStands c w past st ms) at r.stage in
    let none : IsUndecided c ms v = subst (λ st. IsUndecided c ms (version_in st (looked_in run))) at r.none in
    record { stands = r.stands; going = r.going; unnoticed = r.unnoticed; askable = inl (r.idle, r.again); pass = vote_passes c w ms v r.stands.writes s; grounded = inl s.may.next; passed = unpromised_passed ms v v (omega arith) s.unpromised; begun = λ reads. absurd (none-some s.own.0 (sym reads ∙ s.own.1)); none = none }
ended_prepares c w past run ms (Prepare v b found) at r e = absurd (none-some _ (sym e))
ended_prepares c w past run ms (Accept v b x) at r e = absurd (none-some _ (sym e))

-- a call prepares once its first phases ended
pub out_prepares : (c : Config) (w : Caller) (past : List Trace) (run : Run) (ms : List Action) → RunsOut c w past run ms → ended_of run ≡ None → Prepares c w past run ms (working_version run)
out_prepares c w past run ms r e = ended_prepares c w past run ms run.stage refl r e

passed_row : (c : Config) (ms : List Action) (v : ℕ) (b : BallotAt) (s : ℕ) (o : Option RowAt) → s < c.n → rows_known ms s ≡ o → ArePassed c ms v b → above_known v b o ≡ true → passed_since v b ms ≡ true
passed_row c ms v b s None l e passed h = absurd (false≢true h)
passed_row c ms v b s (Some row) l e passed h = passed s row l e h

passed_by : (c : Config) (w : Caller) (past : List Trace) (run : Run) (ms : List Action) (v : ℕ) (b d : BallotAt) → Stands c w past run ms → IsWorking c w past ms v b → ArePassed c ms v b → (run.round < b.round) ⊎ (list_any (above_known v b) run.rows ≡ true) → has_promised_at ms v d ≡ true → passed_since v d ms ≡ true
passed_by c w past run ms v b d h may passed why e =
    elim (cases_Bool (same_ballot d b)) [
      | inr apart ↦ may.passed d (λ (k : d ≡ b). both_ways (same_ballot d b) apart (same_from d b k)) e
      | inl same ↦ subst (λ (k : BallotAt). passed_since v k ms ≡ true) (sym (same_means d b same)) (elim why [
        | inl l ↦ (
            let low = promised_round_at ms v d e in
            let round = ap (λ (k : BallotAt). k.round) (same_means d b same) in
            let used = h.round_is in
            absurd (omega arith))
        | inr some ↦ (
            let w = any_found (above_known v b) run.rows some in
            let inside : w.0 < c.n = let len = h.knows.rows_len in omega (arith, slice_get_within run.rows w.0 w.1 w.2) in
            let there : rows_known ms w.0 ≡ w.1 = same_Some (rows_known ms w.0) w.1 (sym (h.knows.rows w.0 inside) ∙ w.2) in
            passed_row c ms v b w.0 w.1 inside there passed w.3)
      ])
    ]

-- a row that shows that the ballot leads no further can be asked
askable_found : (c : Config) (run : Run) (ms : List Action) (v : ℕ) (b : BallotAt) (s : ℕ) (o : Option RowAt) → s < c.n → rows_known ms s ≡ o → AreAskableAbove c ms v b → above_known v b o ≡ true → IsAskableAt c ms v s
askable_found c run ms v b s None l e askable above = absurd (false≢true above)
askable_found c run ms v b s (Some row) l e askable above = let k = askable s row l e above in record { inside = l; row = row; known = e; ballot = b; above = above; idle = k.0; same = k.1 }

askable_listed : (c : Config) (run : Run) (ms : List Action) (v : ℕ) (b : BallotAt) → Knows c run ms → AreAskableAbove c ms v b → list_any (above_known v b) run.rows ≡ true → (s : ℕ) × IsAskableAt c ms v s
askable_listed c run ms v b knows askable some =
    let w = any_found (above_known v b) run.rows some in
    let inside : w.0 < c.n = let len = knows.rows_len in omega (arith, slice_get_within run.rows w.0 w.1 w.2) in
    let there : rows_known ms w.0 ≡ w.1 = same_Some (rows_known ms w.0) w.1 (sym (knows.rows w.0 inside) ∙ w.2) in
    (w.0, askable_found c run ms v b w.0 w.1 inside there askable w.3)

askable_prepare : (c : Config) (w : Caller) (past : List Trace) (run : Run) (ms : List Action) (v : ℕ) (b : BallotAt) (found : Option Value) → run.stage ≡ Prepare v b found → Carries c w past run ms → is_overtaken_in run (Prepare v b found) ≡ true → (s : ℕ) × IsAskableAt c ms v s
askable_prepare c w past run ms v b found at p e =
    let askable : IsOvertakenAskably c run (Prepare v b found) ms = subst (λ st. IsOvertakenAskably c run st ms) at p.acts.ready.above in
    elim (or_cases (nat_lt run.round b.round) (list_any (above_known v b) run.rows) e) [
      | inl low ↦ (let far = ltb-true run.round b.round low in let used = askable.0 in absurd (omega arith))
      | inr some ↦ askable_listed c run ms v b p.acts.ready.stands.knows askable.1 some
    ]

askable_accept : (c : Config) (w : Caller) (past : List Trace) (run : Run) (ms : List Action) (v : ℕ) (b : BallotAt) (x : Value) → run.stage ≡ Accept v b x → Carries c w past run ms → is_overtaken_in run (Accept v b x) ≡ true → (s : ℕ) × IsAskableAt c ms v s
askable_accept c w past run ms v b x at p e =
    let askable : IsOvertakenAskably c run (Accept v b x) ms = subst (λ st. IsOvertakenAskably c run st ms) at p.acts.ready.above in
    askable_listed c run ms v b p.acts.ready.stands.knows askable e

lost_prepares : (c : Config) (w : Caller) (past : List Trace) (run : Run) (ms : List Action) (stage : Stage) → run.stage ≡ stage → Carries c w past run ms → is_overtaken_in run stage ≡ true → Prepares c w past run ms (version_in stage (looked_in run))
lost_prepares c w past run ms Look at p e = absurd (false≢true e)
lost_prepares c w past run ms (Fast v) at p e = absurd (false≢true e)
lost_prepares c w past run ms (Prepare v b found) at p e =
    let h = p.acts.ready.stands in
    let s : StageStands c w past (Prepare v b found) ms = subst (λ st. StageStands c w past st ms) at p.acts.ready.stage in
    let none : IsUndecided c ms v = subst (λ st. IsUnmet c run st ms) at p.acts.unmet in
    let why : (run.round < b.round) ⊎ (list_any (above_known v b) run.rows ≡ true) = elim (or_cases (nat_lt run.round b.round) (list_any (above_known v b) run.rows) e) [ inl l ↦ inl (ltb-true run.round b.round l) | inr k ↦ inr k ] in
    record { stands = h; going = p.acts.going; unnoticed = p.acts.ready.unnoticed; askable = inr (askable_prepare c w past run ms v b found at p e); pass = s.0.works.pass; grounded = s.0.works.grounded; passed = λ (d : BallotAt) (k : has_promised_at ms v d ≡ true). passed_by c w past run ms v b d h s.0.works s.1 why k; begun = λ reads. begun_heard c ms v b (s.0.works.begun reads); none = none }
lost_prepares c w past run ms (Accept v b x) at p e =
    let h = p.acts.ready.stands in
    let s : StageStands c w past (Accept v b x) ms = subst (λ st. StageStands c w past st ms) at p.acts.ready.stage in
    let none : IsUndecided c ms v = subst (λ st. IsUnmet c run st ms) at p.acts.unmet in
    record { stands = h; going = p.acts.going; unnoticed = p.acts.ready.unnoticed; askable = inr (askable_accept c w past run ms v b x at p e); pass = s.1.works.pass; grounded = s.1.works.grounded; passed = λ (d : BallotAt) (k : has_promised_at ms v d ≡ true). passed_by c w past run ms v b d h s.1.works s.2 (inr e) k; begun = λ reads. begun_heard c ms v b (s.1.works.begun reads); none = none }

-- a call prepares again where its ballot leads no further
pub overtaken_prepares : (c : Config) (w : Caller) (past : List Trace) (run : Run) (ms : List Action) → Carries c w past run ms → is_overtaken run ≡ true → Prepares c w past run ms (working_version run)
overtaken_prepares c w past run ms p e = lost_prepares c w past run ms run.stage refl p e
