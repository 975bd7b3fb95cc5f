-- A pass over the sites, one after another.
use Rattle.std.proofs.Common.{◌≡◌, ℕ, ◌+◌, ◌<◌, ◌≤◌, max, true, cond, List, [], ◌∷◌, ◌++◌, length, Option, Some, None, is_some, refl, sym, ap, ◌∙◌, subst, inl, inr, ◌⊎◌, arith, set}
use Rattle.std.proofs.Math.ListN.{length-set}
use Rattle.std.proofs.lemmas.Bool.{cases_Bool, cond-true, cond-false, false≢true}
use Rattle.std.proofs.lemmas.Option.{none-some}
use Rattle.std.specs.List.{list_any}
use Rattle.std.proofs.lemmas.List.Elements.{All-nil, All-push, All-weaker}
use Rattle.gz_core.specs.Rows.{RowAt}
use Rattle.gz_config.specs.declared.Config.{Config}
use Rattle.gz_core.specs.declared.requests.RowStep.{RowStep}
use Rattle.gz_core.specs.declared.requests.Op.{Op}
use Rattle.gz_core.specs.declared.requests.Op.TheVariants.{ReadRow}
use Rattle.gz_core.specs.declared.requests.Out.{Out}
use Rattle.gz_round.specs.declared.outcome.Outcome.{Outcome}
use Rattle.gz_round.specs.declared.outcome.Outcome.TheVariants.{Goes, Placed, Learnt, Ends}
use Rattle.gz_round.specs.declared.run.Mark.{Mark}
use Rattle.gz_round.specs.declared.run.Run.{Run}
use Rattle.gz_core.specs.History.{Action, Caller, Trace, is_row_request, sent_from}
use Rattle.gz_core.specs.Names.{BallotAt}
use Rattle.gz_round.specs.Sent.{of_step, vote_by, phase_by, promise_by, round_after, or_earlier}
use Rattle.gz_round.specs.Asking.{asks_of, sent_run, marked_as, phase_after, AskedBy, IsAskedAt, IsLeftBy, round_of}
use Rattle.gz_round.specs.Following.{Asks, HasAsked, CanAsk, IsNoticeIfAny, IsPlain}
use Rattle.gz_round.specs.Acting.{is_waiting}
use Rattle.gz_round.specs.Starting.{AreUnread, AreForRows, AreRowRequests, MakeNoStep, ReadAlone, SendsLast, SitesRise, is_read, is_read_or_notice}
use Rattle.gz_round.proofs.Lists.{any_told, place_of, slice_get-set_same}
use Rattle.gz_round.proofs.Rising.{AreBelow, below_later, below_more, rising_more}
use Rattle.gz_round.proofs.Sends.{Kind, reads, writes, asked_kind, kind_plain, kind_row, kind_site, kind_stepless, kind_alone}
use Rattle.gz_round.proofs.Serves.{Passed, passed_none, passed_more, passed_all, round_rises}
use Rattle.gz_round.proofs.Unread.{AreRead, read_none, read_more}

pub left_refl : (run : Run) (step : Option RowStep) → IsLeftBy run run step
left_refl run step = record { rows = refl; marks_len = refl; stage = refl; own = refl; name = refl; target = refl; vote = λ e. refl; wrote = λ e. refl; rises = omega arith; round = omega arith }

pub left_trans : (a b d : Run) (step : Option RowStep) → IsLeftBy a b step → IsLeftBy b d step → IsLeftBy a d step
left_trans a b d step h k = record {
  rows = k.rows ∙ h.rows;
  marks_len = k.marks_len ∙ h.marks_len;
  stage = k.stage ∙ h.stage;
  own = k.own ∙ h.own;
  name = k.name ∙ h.name;
  target = k.target ∙ h.target;
  vote = λ e. k.vote e ∙ h.vote e;
  wrote = λ e. k.wrote e ∙ h.wrote e;
  rises = omega (arith, h.rises, k.rises);
  round = omega (arith, h.round, k.round);
}

marks_left : (run : Run) (at number : ℕ) (mark : Mark) (out : Out) → length (cond out.awaited (set run.marks at (marked_as mark number out)) run.marks) ≡ length run.marks
marks_left run at number mark out = elim (cases_Bool out.awaited) [
  | inl e ↦ ap length (cond-true out.awaited (set run.marks at (marked_as mark number out)) run.marks e) ∙ length-set run.marks at (marked_as mark number out)
  | inr e ↦ ap length (cond-false out.awaited (set run.marks at (marked_as mark number out)) run.marks e)
]

read_vote : (run : Run) (at number : ℕ) (mark : Mark) (step : Option RowStep) (row : Option RowAt) (out : Out) → Kind run at mark step row out → step ≡ None → (sent_run run at number mark out).last_vote ≡ run.last_vote
read_vote run at number mark step row out (reads e why) none = ap (λ (o : Out). or_earlier (of_step (vote_by run.name) o.op) run.last_vote) e
read_vote run at number mark step row out (writes made before new s r same made_is e) none = absurd (none-some made (sym none ∙ s))

read_wrote : (run : Run) (at number : ℕ) (mark : Mark) (step : Option RowStep) (row : Option RowAt) (out : Out) → Kind run at mark step row out → step ≡ None → (sent_run run at number mark out).wrote ≡ run.wrote
read_wrote run at number mark step row out (reads e why) none = ap (λ (o : Out). phase_after (of_step phase_by o.op) run.wrote) e
read_wrote run at number mark step row out (writes made before new s r same made_is e) none = absurd (none-some made (sym none ∙ s))

round_step : (o : Option (ℕ × BallotAt)) (round : ℕ) → round_after o round ≤ max (round_after o 0) round
round_step None round = omega arith
round_step (Some p) round = omega arith

sent_round : (run : Run) (at number : ℕ) (mark : Mark) (step : Option RowStep) (row : Option RowAt) (out : Out) → Kind run at mark step row out → (sent_run run at number mark out).round ≤ max (round_of step) run.round
sent_round run at number mark step row out (reads e why) = let same = ap (λ (o : Out). round_after (of_step promise_by o.op) run.round) e in omega arith
sent_round run at number mark step row out (writes made before new s r same made_is e) =
    let round = ap (λ (o : Out). round_after (of_step promise_by o.op) run.round) e in
    let step_is = ap round_of s in
    omega (arith, round, step_is, round_step (promise_by made) run.round)

left_sent : (run : Run) (at number : ℕ) (mark : Mark) (step : Option RowStep) (row : Option RowAt) (out : Out) → asks_of run at mark step row ≡ Some out → IsLeftBy run (sent_run run at number mark out) step
left_sent run at number mark step row out h =
    let k = asked_kind run at mark step row out h in
    record { rows = refl; marks_len = marks_left run at number mark out; stage = refl; own = refl; name = refl; target = refl; vote = read_vote run at number mark step row out k.2; wrote = read_wrote run at number mark step row out k.2; rises = round_rises (of_step promise_by out.op) run.round; round = sent_round run at number mark step row out k.2 }

-- what asking one site came to: nothing was sent, or one request
data Went (run new : Run) (at first : ℕ) (outs sent : List Out) (step : Option RowStep) : Type 0 where
  nothing : new ≡ run → sent ≡ outs → Went run new at first outs sent step
  one : (mark : Mark) (row : Option RowAt) (out : Out) → asks_of run at mark step row ≡ Some out → new ≡ sent_run run at (first + length outs) mark out → sent ≡ outs ++ (out ∷ []) → Went run new at first outs sent step

went_by : (run new : Run) (at first : ℕ) (outs sent : List Out) (mark : Mark) (step : Option RowStep) (row : Option RowAt) (o : Option Out) → asks_of run at mark step row ≡ o → AskedBy run at first outs mark o new sent → Went run new at first outs sent step
went_by run new at first outs sent mark step row None e h = nothing h.0 h.1
went_by run new at first outs sent mark step row (Some out) e h = one mark row out e h.0 h.1

went : (run new : Run) (at first : ℕ) (outs sent : List Out) (step : Option RowStep) → at < length run.marks → at < length run.rows → IsAskedAt run at step first outs new sent → Went run new at first outs sent step
went run new at first outs sent step l k h =
    let mark = place_of run.marks at l in
    let row = place_of run.rows at k in
    went_by run new at first outs sent mark.0 step row.0 (asks_of run at mark.0 step row.0) refl (h mark.0 row.0 mark.1 row.1)

-- what asking one site leaves as it was
left_asked : (run new : Run) (at first : ℕ) (outs sent : List Out) (step : Option RowStep) → Went run new at first outs sent step → IsLeftBy run new step
left_asked run new at first outs sent step (nothing same none) = subst (λ (r : Run). IsLeftBy run r step) (sym same) (left_refl run step)
left_asked run new at first outs sent step (one mark row out asks is more) = subst (λ (r : Run). IsLeftBy run r step) (sym is) (left_sent run at (first + length outs) mark step row out asks)

-- what is asked of a site is about its row
rows_asked : (run new : Run) (at first : ℕ) (outs sent : List Out) (step : Option RowStep) → Went run new at first outs sent step → AreForRows outs → AreForRows sent
rows_asked run new at first outs sent step (nothing same none) rows = subst AreForRows (sym none) rows
rows_asked run new at first outs sent step (one mark row out asks is more) rows =
    let about : is_row_request out.op ≡ true = kind_row run at mark step row out (asked_kind run at mark step row out asks).2 in
    subst AreForRows (sym more) (All-push (λ (o : Out). is_row_request o.op ≡ true) outs out rows about)

-- it goes to a site above those that were asked before
rises_asked : (run new : Run) (at first : ℕ) (outs sent : List Out) (step : Option RowStep) → Went run new at first outs sent step → SitesRise 0 outs × AreBelow at outs → SitesRise 0 sent × AreBelow (at + 1) sent
rises_asked run new at first outs sent step (nothing same none) h = subst (λ os. SitesRise 0 os × AreBelow (at + 1) os) (sym none) (h.0, below_later at outs h.1)
rises_asked run new at first outs sent step (one mark row out asks is more) h =
    let here : out.site ≡ at = kind_site run at mark step row out (asked_kind run at mark step row out asks).2 in
    subst (λ os. SitesRise 0 os × AreBelow (at + 1) os) (sym more) (rising_more 0 at outs out (omega arith) here h.0 h.1, below_more at outs out here h.1)

-- where the step is at most a notice, it reads or tells
stepless_asked : (run new : Run) (at first : ℕ) (outs sent : List Out) (step : Option RowStep) → Went run new at first outs sent step → IsNoticeIfAny step → MakeNoStep outs → MakeNoStep sent
stepless_asked run new at first outs sent step (nothing same none) notice h = subst MakeNoStep (sym none) h
stepless_asked run new at first outs sent step (one mark row out asks is more) notice h =
    let told : is_read_or_notice out.op ≡ true = kind_stepless run at mark step row out (asked_kind run at mark step row out asks).2 notice in
    subst MakeNoStep (sym more) (All-push (λ (o : Out). is_read_or_notice o.op ≡ true) outs out h told)

-- where there is no step, it reads
alone_asked : (run new : Run) (at first : ℕ) (outs sent : List Out) (step : Option RowStep) → Went run new at first outs sent step → step ≡ None → ReadAlone outs → ReadAlone sent
alone_asked run new at first outs sent step (nothing same none) no_step h = subst ReadAlone (sym none) h
alone_asked run new at first outs sent step (one mark row out asks is more) no_step h =
    let read : is_read out.op ≡ true = kind_alone run at mark step row out (asked_kind run at mark step row out asks).2 no_step in
    subst ReadAlone (sym more) (All-push (λ (o : Out). is_read o.op ≡ true) outs out h read)

-- a request that is awaited is kept
waits_marked : (run : Run) (at number : ℕ) (mark : Mark) (out : Out) → at < length run.marks → out.awaited ≡ true → is_waiting (sent_run run at number mark out) ≡ true
waits_marked run at number mark out l awaited =
    let marks = set run.marks at (marked_as mark number out) in
    ap (list_any (λ m. is_some m.awaited)) (cond-true out.awaited marks run.marks awaited) ∙ any_told (λ m. is_some m.awaited) marks at (marked_as mark number out) (slice_get-set_same run.marks at (marked_as mark number out) l) refl

-- it is awaited, unless it is a notice
waits_asked : (run new : Run) (at first : ℕ) (base outs sent : List Out) (step : Option RowStep) → at < length run.marks → Went run new at first outs sent step → IsPlain step → (outs ≡ base) ⊎ (is_waiting run ≡ true) → (sent ≡ base) ⊎ (is_waiting new ≡ true)
waits_asked run new at first base outs sent step l (nothing same none) plain (inl quiet) = inl (none ∙ quiet)
waits_asked run new at first base outs sent step l (nothing same none) plain (inr waits) = inr (ap is_waiting same ∙ waits)
waits_asked run new at first base outs sent step l (one mark row out asks is more) plain h =
    let awaited : out.awaited ≡ true = kind_plain run at mark step row out (asked_kind run at mark step row out asks).2 plain in
    inr (ap is_waiting is ∙ waits_marked run at (first + length outs) mark out l awaited)

-- nothing is asked
pub none_requested : AreRowRequests []
none_requested = record { rows = All-nil (λ (o : Out). is_row_request o.op ≡ true); rising = tt; few = omega arith }

-- nor is a step made
pub none_stepless : MakeNoStep []
none_stepless = All-nil (λ (o : Out). is_read_or_notice o.op ≡ true)

pub none_alone : ReadAlone []
none_alone = All-nil (λ (o : Out). is_read o.op ≡ true)

read_stepless : (op : Op) → is_read op ≡ true → is_read_or_notice op ≡ true
read_stepless (ReadRow key) e = refl
read_stepless op e = absurd (false≢true e)

-- requests that read alone make no step
pub alone_stepless : (outs : List Out) → ReadAlone outs → MakeNoStep outs
alone_stepless outs h = All-weaker (λ (o : Out). is_read o.op ≡ true) (λ (o : Out). is_read_or_notice o.op ≡ true) (λ o e. read_stepless o.op e) outs h

-- and may be the last ones of a call whose rows came to anything
pub alone_last : (outcome : Outcome) (outs : List Out) → ReadAlone outs → SendsLast outcome outs
alone_last Goes outs h = tt
alone_last (Placed v) outs h = alone_stepless outs h
alone_last (Learnt v x) outs h = h
alone_last (Ends answer) outs h = h

-- so far the sites below one were asked
pub record Going (c : Config) (start run : Run) (step : Option RowStep) (first : ℕ) (outs sent : List Out) (at : ℕ) : Type 0 where
  pub few : length sent ≤ length outs + at
  pub left : IsLeftBy start run step
  pub rows : AreForRows outs → AreForRows sent
  pub rising : outs ≡ [] → SitesRise 0 sent × AreBelow at sent
  pub stepless : IsNoticeIfAny step → MakeNoStep outs → MakeNoStep sent
  pub alone : step ≡ None → ReadAlone outs → ReadAlone sent
  pub idle : IsPlain step → (sent ≡ outs) ⊎ (is_waiting run ≡ true)
  pub reads : AreUnread c.n start → AreRead c.n start run outs sent at
  pub asked : (w : Caller) (past : List Trace) (ms : List Action) → Asks c w past start (sent_from first outs ms) step → Passed c w past run (sent_from first outs ms) (sent_from first sent ms) step at

pub going_none : (c : Config) (run : Run) (step : Option RowStep) (first : ℕ) (outs : List Out) → Going c run run step first outs outs 0
going_none c run step first outs = record {
  few = omega arith;
  left = left_refl run step;
  rows = λ h. h;
  rising = λ none. subst (λ os. SitesRise 0 os × AreBelow 0 os) (sym none) (tt, tt);
  stepless = λ notice h. h;
  alone = λ none h. h;
  idle = λ plain. inl refl;
  reads = read_none c.n run outs;
  asked = λ w past ms h. passed_none c w past run (sent_from first outs ms) step h;
}

pub inside_rows : (c : Config) (start run : Run) (step : Option RowStep) (first : ℕ) (outs sent : List Out) (at : ℕ) → CanAsk c start first outs step → Going c start run step first outs sent at → length run.rows ≡ c.n
inside_rows c start run step first outs sent at k g = ap length g.left.rows ∙ k.3.stands.knows.rows_len

pub inside_marks : (c : Config) (start run : Run) (step : Option RowStep) (first : ℕ) (outs sent : List Out) (at : ℕ) → CanAsk c start first outs step → Going c start run step first outs sent at → length run.marks ≡ c.n
inside_marks c start run step first outs sent at k g = g.left.marks_len ∙ k.3.stands.knows.marks_len

pub going_more : (c : Config) (start run new : Run) (step : Option RowStep) (first : ℕ) (outs sent more : List Out) (at : ℕ) → CanAsk c start first outs step → at < c.n → length more ≤ length sent + 1 → IsAskedAt run at step first sent new more →
    Going c start run step first outs sent at → Going c start new step first outs more (at + 1)
going_more c start run new step first outs sent more at k l few asked g =
    let few_then = g.few in
    let in_marks : at < length run.marks = omega (arith, inside_marks c start run step first outs sent at k g) in
    let in_rows : at < length run.rows = omega (arith, inside_rows c start run step first outs sent at k g) in
    let by : Went run new at first sent more step = went run new at first sent more step in_marks in_rows asked in
    record {
      few = omega arith;
      left = left_trans start run new step g.left (left_asked run new at first sent more step by);
      rows = λ (h : AreForRows outs). rows_asked run new at first sent more step by (g.rows h);
      rising = λ (none : outs ≡ []). rises_asked run new at first sent more step by (g.rising none);
      stepless = λ (notice : IsNoticeIfAny step) (h : MakeNoStep outs). stepless_asked run new at first sent more step by notice (g.stepless notice h);
      alone = λ (none : step ≡ None) (h : ReadAlone outs). alone_asked run new at first sent more step by none (g.alone none h);
      idle = λ (plain : IsPlain step). waits_asked run new at first outs sent more step in_marks by plain (g.idle plain);
      reads = λ (h : AreUnread c.n start). read_more c.n start run new outs sent more step at first l asked (g.reads h);
      asked = λ w past ms h. passed_more c w past run new (sent_from first outs ms) ms first sent more step at l asked (g.asked w past ms h);
    }

pub going_all : (c : Config) (start run : Run) (step : Option RowStep) (first : ℕ) (outs sent : List Out) → Going c start run step first outs sent c.n → (w : Caller) (past : List Trace) (ms : List Action) → Asks c w past start (sent_from first outs ms) step →
    HasAsked c w past run (sent_from first outs ms) (sent_from first sent ms) step
going_all c start run step first outs sent g w past ms h = passed_all c w past run (sent_from first outs ms) (sent_from first sent ms) step (g.asked w past ms h)
