-- A request that is sent: what it is, that it may be sent, and what is kept of it.
use Rattle.std.proofs.Common.{◌≡◌, ◌≢◌, ℕ, ◌<◌, max, true, false, cond, ◌||◌, ◌==◌, not, List, ◌∷◌, length, Option, Some, None, is_some, option_map, refl, sym, ap, ◌∙◌, subst, inl, inr, ◌⊎◌, arith, set}
use Rattle.std.proofs.Math.ListN.{length-set}
use Rattle.std.specs.List.{slice_get}
use Rattle.std.proofs.lemmas.Bool.{cases_Bool, cond-true, cond-false, or_parts, and_parts, eqb-true, true≢false}
use Rattle.std.proofs.lemmas.Option.{same_Some, none-some}
use Rattle.gz_core.specs.Names.{Name, BallotAt}
use Rattle.gz_core.specs.Rows.{RowAt}
use Rattle.gz_core.specs.Calls.{key_of}
use Rattle.gz_core.specs.declared.calls.Phase.{Phase}
use Rattle.gz_config.specs.declared.Config.{Config}
use Rattle.gz_core.specs.declared.requests.RowStep.{RowStep}
use Rattle.gz_core.specs.declared.requests.Op.TheVariants.{WriteRow}
use Rattle.gz_core.specs.declared.requests.Out.{Out}
use Rattle.gz_accept.specs.declared.answers.Step.{Step}
use Rattle.gz_accept.specs.declared.answers.Step.TheVariants.{Done, Already, Below, Settled, Trimmed}
use Rattle.gz_round.specs.declared.hearing.Seen.{Seen}
use Rattle.gz_round.specs.declared.run.Mark.{Mark}
use Rattle.gz_round.specs.declared.run.Run.{Run}
use Rattle.gz_core.specs.History.{Asked, Action, Sent, Caller, Trace, asked_of, is_row_request}
use Rattle.gz_round.specs.Sites.{SiteNow, site_now, after_sent, is_to, known, row_seen}
use Rattle.gz_round.specs.Sent.{is_notice, vote_by, phase_by, of_step, or_earlier, last_sent, phase_of, phase_or_look, promise_by, round_after, top_round}
use Rattle.gz_round.specs.Rounds.{top_rounds}
use Rattle.gz_round.specs.Sending.{MaySend, MayAsk, MayMake, IsMade, answer_of, made_by, is_awaited}
use Rattle.gz_round.specs.Asking.{asks_of, row_out, step_out, write_out, read_out, made_of, if_done, sent_run, marked_as, phase_after}
use Rattle.gz_round.specs.Standing.{Knows, Stands, IsSound, mark_of, etag_seen, awaited_of}
use Rattle.gz_round.specs.Following.{MayMakeOf, IsNoticeIfAny, IsPlain}
use Rattle.gz_round.specs.Starting.{is_read, is_read_or_notice}
use Rattle.gz_round.specs.Counting.{IsUntold}
use Rattle.gz_round.proofs.Lists.{told_after_set, told_same}
use Rattle.gz_round.proofs.Actions.{is_to_same, is_to_other, now_here, now_other, each_site}
use Rattle.gz_round.proofs.Known.{known_last, known_after_sent}
use Rattle.gz_round.proofs.Guards.{IsOf}

-- a step that is done makes its row
done_means : (answer : Step) (made row : RowAt) → if_done answer made ≡ Some row → (answer ≡ Done) × (row ≡ made)
done_means Done made row e = (refl, sym (same_Some made row e))
done_means Already made row e = absurd (none-some row e)
done_means (Below promised) made row e = absurd (none-some row e)
done_means Settled made row e = absurd (none-some row e)
done_means (Trimmed floor) made row e = absurd (none-some row e)

pub undone_means : (answer : Step) (made : RowAt) → if_done answer made ≡ None → answer ≢ Done
undone_means Done made e h = absurd (none-some made (sym e))
undone_means Already made e h = cc
undone_means (Below promised) made e h = cc
undone_means Settled made e h = cc
undone_means (Trimmed floor) made e h = cc

-- the kinds of a request
pub data Kind (run : Run) (at : ℕ) (mark : Mark) (step : Option RowStep) (row : Option RowAt) (out : Out) : Type 0 where
  reads : out ≡ read_out run at → (row ≡ None) ⊎ (mark.changed ≡ true) → Kind run at mark step row out
  writes : (made : RowStep) (before new : RowAt) → step ≡ Some made → row ≡ Some before → mark.changed ≡ false → IsMade made before new →
      out ≡ record { site = at; op = WriteRow run.key mark.etag made new; awaited = not (is_notice made) } → Kind run at mark step row out

write_kind : (run : Run) (at : ℕ) (mark : Mark) (step : RowStep) (before : RowAt) (out : Out) (new : Option RowAt) → mark.changed ≡ false → made_of step before ≡ new → write_out run at mark.etag step new ≡ Some out → Kind run at mark (Some step) (Some before) out
write_kind run at mark step before out None same e h = absurd (none-some out h)
write_kind run at mark step before out (Some new) same e h =
    let w : (answer_of step before ≡ Done) × (new ≡ made_by step before) = done_means (answer_of step before) (made_by step before) new e in
    writes step before new refl refl same (w.0, w.1) (sym (same_Some _ out h))

step_kind : (run : Run) (at : ℕ) (mark : Mark) (step : Option RowStep) (before : RowAt) (out : Out) → mark.changed ≡ false → step_out run at mark.etag step before ≡ Some out → Kind run at mark step (Some before) out
step_kind run at mark None before out same h = absurd (none-some out h)
step_kind run at mark (Some step) before out same h = write_kind run at mark step before out (made_of step before) same refl h

row_kind : (run : Run) (at : ℕ) (mark : Mark) (step : Option RowStep) (row : Option RowAt) (out : Out) → row_out run at mark step row ≡ Some out → Kind run at mark step row out
row_kind run at mark step None out h = reads (sym (same_Some (read_out run at) out h)) (inl refl)
row_kind run at mark step (Some before) out h =
    elim (cases_Bool mark.changed) [
      | inl e ↦ reads (sym (same_Some (read_out run at) out (sym (cond-true mark.changed (Some (read_out run at)) (step_out run at mark.etag step before) e) ∙ h))) (inr e)
      | inr e ↦ step_kind run at mark step before out e (sym (cond-false mark.changed (Some (read_out run at)) (step_out run at mark.etag step before) e) ∙ h)
    ]

-- what is asked of a site that isn't out and isn't awaited
pub asked_kind : (run : Run) (at : ℕ) (mark : Mark) (step : Option RowStep) (row : Option RowAt) (out : Out) → asks_of run at mark step row ≡ Some out → (mark.out ≡ false) × (is_some mark.awaited ≡ false) × Kind run at mark step row out
asked_kind run at mark step row out h =
    elim (cases_Bool (mark.out || is_some mark.awaited)) [
      | inl e ↦ absurd (none-some out (sym (cond-true (mark.out || is_some mark.awaited) None (row_out run at mark step row) e) ∙ h))
      | inr e ↦ (
          let both : (mark.out ≡ false) × (is_some mark.awaited ≡ false) = or_parts mark.out (is_some mark.awaited) e in
          (both.0, both.1, row_kind run at mark step row out (sym (cond-false (mark.out || is_some mark.awaited) None (row_out run at mark step row) e) ∙ h)))
    ]

none_awaits : (o : Option Asked) → is_some (option_map awaited_of o) ≡ false → o ≡ None
none_awaits None h = refl
none_awaits (Some a) h = absurd (true≢false h)

row_none : (o : Option Seen) → row_seen o ≡ None → o ≡ None
row_none None e = refl
row_none (Some seen) e = absurd (none-some seen.row (sym e))

pub known_none : (now : SiteNow) → now.out ≡ false → known now ≡ None → now.row ≡ None
known_none now o h = row_none now.row (sym (cond-false now.out None (row_seen now.row) o) ∙ h)

-- the site of a request is the one that is asked
pub kind_site : (run : Run) (at : ℕ) (mark : Mark) (step : Option RowStep) (row : Option RowAt) (out : Out) → Kind run at mark step row out → out.site ≡ at
kind_site run at mark step row out (reads e why) = ap (λ o. o.site) e
kind_site run at mark step row out (writes made before new s r same made_is e) = ap (λ o. o.site) e

-- it is about a row
pub kind_row : (run : Run) (at : ℕ) (mark : Mark) (step : Option RowStep) (row : Option RowAt) (out : Out) → Kind run at mark step row out → is_row_request out.op ≡ true
kind_row run at mark step row out (reads e why) = ap (λ (o : Out). is_row_request o.op) e
kind_row run at mark step row out (writes made before new s r same made_is e) = ap (λ (o : Out). is_row_request o.op) e

-- a request of a pass reads or makes the step
pub kind_of : (run : Run) (at : ℕ) (mark : Mark) (step : Option RowStep) (row : Option RowAt) (out : Out) → Kind run at mark step row out → IsOf out.op step
kind_of run at mark step row out (reads e why) = record { writes = λ (made : RowStep) (h : of_step (λ s. Some s) out.op ≡ Some made). absurd (none-some made (sym (ap (λ o. of_step (λ s. Some s) o.op) e) ∙ h)) }
kind_of run at mark step row out (writes made before new s r same made_is e) = record { writes = λ (other : RowStep) (h : of_step (λ s. Some s) out.op ≡ Some other). s ∙ ap (λ z. Some z) (same_Some made other (sym (ap (λ o. of_step (λ s. Some s) o.op) e) ∙ h)) }

pub etag_last : (o : Option Seen) (seen : Seen) → o ≡ Some seen → o ≡ Some (record { etag = etag_seen o; row = seen.row })
etag_last o seen e = subst (λ (p : Option Seen). p ≡ Some (record { etag = etag_seen p; row = seen.row })) (sym e) refl

kind_asks : (c : Config) (w : Caller) (past : List Trace) (run : Run) (ms : List Action) (at : ℕ) (step : Option RowStep) (out : Out) → run.key ≡ key_of w.call → MayMakeOf c w past ms step →
    (site_now ms at).out ≡ false → Kind run at (mark_of (site_now ms at)) step (known (site_now ms at)) out → MayAsk c w past ms (site_now ms at) out.op
kind_asks c w past run ms at step out key may kept (reads e (inl none)) = subst (λ (o : Out). MayAsk c w past ms (site_now ms at) o.op) (sym e) (key, inl (known_none (site_now ms at) kept none))
kind_asks c w past run ms at step out key may kept (reads e (inr changed)) = subst (λ (o : Out). MayAsk c w past ms (site_now ms at) o.op) (sym e) (key, inr changed)
kind_asks c w past run ms at step out key may kept (writes made before new s r same made_is e) =
    let last = known_last (site_now ms at) before r in
    let under : (site_now ms at).row ≡ Some (record { etag = etag_seen (site_now ms at).row; row = before }) = etag_last (site_now ms at).row last.0 last.1 ∙ ap (λ b. let z : Seen = record { etag = etag_seen (site_now ms at).row; row = b } in Some z) last.2 in
    let guard : MayMake c w past ms made = subst (λ (o : Option RowStep). MayMakeOf c w past ms o) s may in
    subst (λ (o : Out). MayAsk c w past ms (site_now ms at) o.op) (sym e) (key, record { before = before; last = under; same = same; made = made_is; guard = guard })

kind_awaited : (run : Run) (at : ℕ) (mark : Mark) (step : Option RowStep) (row : Option RowAt) (out : Out) → Kind run at mark step row out → out.awaited ≡ is_awaited out.op
kind_awaited run at mark step row out (reads e why) = subst (λ (o : Out). o.awaited ≡ is_awaited o.op) (sym e) refl
kind_awaited run at mark step row out (writes made before new s r same made_is e) = subst (λ (o : Out). o.awaited ≡ is_awaited o.op) (sym e) refl

-- it is awaited where the step is
pub kind_plain : (run : Run) (at : ℕ) (mark : Mark) (step : Option RowStep) (row : Option RowAt) (out : Out) → Kind run at mark step row out → IsPlain step → out.awaited ≡ true
kind_plain run at mark step row out (reads e why) plain = ap (λ o. o.awaited) e
kind_plain run at mark step row out (writes made before new s r same made_is e) plain =
    let plain_made : is_notice made ≡ false = subst IsPlain s plain in
    ap (λ o. o.awaited) e ∙ ap not plain_made

-- it is a read or a notice where the step is at most a notice
pub kind_stepless : (run : Run) (at : ℕ) (mark : Mark) (step : Option RowStep) (row : Option RowAt) (out : Out) → Kind run at mark step row out → IsNoticeIfAny step → is_read_or_notice out.op ≡ true
kind_stepless run at mark step row out (reads e why) notice = ap (λ (o : Out). is_read_or_notice o.op) e
kind_stepless run at mark step row out (writes made before new s r same made_is e) notice =
    let told : is_notice made ≡ true = subst IsNoticeIfAny s notice in
    ap (λ (o : Out). is_read_or_notice o.op) e ∙ told

-- it is a read where there is no step
pub kind_alone : (run : Run) (at : ℕ) (mark : Mark) (step : Option RowStep) (row : Option RowAt) (out : Out) → Kind run at mark step row out → step ≡ None → is_read out.op ≡ true
kind_alone run at mark step row out (reads e why) none = ap (λ (o : Out). is_read o.op) e
kind_alone run at mark step row out (writes made before new s r same made_is e) none = absurd (none-some made (sym none ∙ s))

-- it is one that may be sent
pub kind_may : (c : Config) (w : Caller) (past : List Trace) (run : Run) (ms : List Action) (at number : ℕ) (step : Option RowStep) (out : Out) → at < c.n → run.key ≡ key_of w.call → MayMakeOf c w past ms step → IsUntold ms at →
    asks_of run at (mark_of (site_now ms at)) step (known (site_now ms at)) ≡ Some out → MaySend c w past ms (asked_of number out)
kind_may c w past run ms at number step out l key may untold h =
    let k = asked_kind run at (mark_of (site_now ms at)) step (known (site_now ms at)) out h in
    let here : out.site ≡ at = kind_site run at (mark_of (site_now ms at)) step (known (site_now ms at)) out k.2 in
    let now : site_now ms out.site ≡ site_now ms at = ap (site_now ms) here in
    record {
      site = subst (λ (s : ℕ). s < c.n) (sym here) l;
      kept = ap (λ n. n.out) now ∙ k.0;
      idle = ap (λ n. n.awaits) now ∙ none_awaits (site_now ms at).awaits k.1;
      asks = subst (λ (n : SiteNow). MayAsk c w past ms n out.op) (sym now) (kind_asks c w past run ms at step out key may k.0 k.2);
      awaited = kind_awaited run at (mark_of (site_now ms at)) step (known (site_now ms at)) out k.2;
      once = λ e. subst (IsUntold ms) (sym here) untold;
    }

pub changed_sent : (a : Asked) (now : SiteNow) → (after_sent a now).changed ≡ now.changed
changed_sent a now = elim (cases_Bool a.awaited) [ inl e ↦ ap (λ n. n.changed) (cond-true a.awaited _ now e) | inr e ↦ ap (λ n. n.changed) (cond-false a.awaited _ now e) ]

phase_sent : (o : Option Phase) (ms : List Action) → phase_after o (phase_of ms) ≡ phase_or_look (or_earlier o (last_sent phase_by ms))
phase_sent None ms = refl
phase_sent (Some phase) ms = refl

sound_here : (a : Asked) (s : ℕ) (now : SiteNow) → now.out ≡ false → a.site ≡ s → IsSound now s → IsSound (after_sent a now) s
sound_here a s now kept same h =
    elim (cases_Bool a.awaited) [
      | inl e ↦ subst (λ n. IsSound n s) (sym (cond-true a.awaited _ now e)) (record { inside = λ (b : Asked) (k : Some a ≡ Some b). (kept, subst (λ (z : Asked). z.site ≡ s) (same_Some a b k) same, subst (λ (z : Asked). z.awaited ≡ true) (same_Some a b k) e); answered = refl })
      | inr e ↦ subst (λ n. IsSound n s) (sym (cond-false a.awaited _ now e)) h
    ]

mark_sent : (number : ℕ) (out : Out) (now : SiteNow) → now.out ≡ false → out.awaited ≡ true → marked_as (mark_of now) number out ≡ mark_of (after_sent (asked_of number out) now)
mark_sent number out now kept e =
    ap (λ (o : Option RowAt). let m : Mark = record { etag = etag_seen now.row; changed = now.changed; out = now.out; left = o; awaited = Some (awaited_of (asked_of number out)) } in m) (sym (cond-false now.out (row_seen now.row) None kept))
    ∙ ap mark_of (sym (cond-true out.awaited (record { row = now.row; changed = now.changed; out = now.out; awaits = Some (asked_of number out); unanswered = true }) now e))

marks_sent : (c : Config) (run : Run) (ms : List Action) (at number : ℕ) (out : Out) → Knows c run ms → at < c.n → is_row_request out.op ≡ true → out.site ≡ at → (site_now ms at).out ≡ false →
    (s : ℕ) → s < c.n → slice_get (cond out.awaited (set run.marks at (marked_as (mark_of (site_now ms at)) number out)) run.marks) s ≡ Some (mark_of (site_now (Sent (asked_of number out) ∷ ms) s))
marks_sent c run ms at number out k l row here kept =
    elim (cases_Bool out.awaited) [
      | inl e ↦ (
          let told = told_after_set c.n run.marks (λ s. mark_of (site_now ms s)) (λ s. mark_of (site_now (Sent (asked_of number out) ∷ ms) s)) at (marked_as (mark_of (site_now ms at)) number out) k.marks_len k.marks
          (mark_sent number out (site_now ms at) kept e ∙ ap mark_of (sym (now_here (Sent (asked_of number out)) ms at (is_to_same (asked_of number out) at row here))))
          (λ (s : ℕ) (n : s ≢ at). ap mark_of (sym (now_other (Sent (asked_of number out)) ms s (is_to_other (asked_of number out) s (λ (q : s ≡ out.site). n (q ∙ here)))))) in
          λ (s : ℕ) (i : s < c.n). ap (λ xs. slice_get xs s) (cond-true out.awaited (set run.marks at (marked_as (mark_of (site_now ms at)) number out)) run.marks e) ∙ told s i)
      | inr e ↦ (
          λ (s : ℕ) (i : s < c.n).
          ap (λ xs. slice_get xs s) (cond-false out.awaited (set run.marks at (marked_as (mark_of (site_now ms at)) number out)) run.marks e) ∙ (k.marks s i ∙ ap (λ n. Some (mark_of n)) (each_site (λ n. site_now ms s ≡ n) (Sent (asked_of number out)) ms s (λ h. sym (cond-false out.awaited _ (site_now ms s) e)) (λ h. refl))))
    ]

round_sent : (o : Option (ℕ × BallotAt)) (round used top : ℕ) → round ≡ max used top → round_after o round ≡ max used (round_after o top)
round_sent None round used top e = e
round_sent (Some p) round used top e = omega (arith, e)

-- what is kept once a request has gone out
pub stands_sent : (c : Config) (w : Caller) (past : List Trace) (run : Run) (ms : List Action) (at number : ℕ) (out : Out) → at < c.n → is_row_request out.op ≡ true → out.site ≡ at → Stands c w past run ms → MaySend c w past ms (asked_of number out) →
    Stands c w past (sent_run run at number (mark_of (site_now ms at)) out) (Sent (asked_of number out) ∷ ms)
stands_sent c w past run ms at number out l row here h may = record {
  name_is = h.name_is;
  key_is = h.key_is;
  target_is = h.target_is;
  own_is = h.own_is;
  named = h.named;
  writes = h.writes;
  knows = record {
    rows_len = h.knows.rows_len;
    marks_len = elim (cases_Bool out.awaited) [
      | inl e ↦ ap length (cond-true out.awaited (set run.marks at (marked_as (mark_of (site_now ms at)) number out)) run.marks e) ∙ (length-set run.marks at (marked_as (mark_of (site_now ms at)) number out) ∙ h.knows.marks_len)
      | inr e ↦ ap length (cond-false out.awaited (set run.marks at (marked_as (mark_of (site_now ms at)) number out)) run.marks e) ∙ h.knows.marks_len
    ];
    rows = told_same c.n run.rows (λ s. known (site_now ms s)) (λ s. known (site_now (Sent (asked_of number out) ∷ ms) s)) h.knows.rows (known_after_sent (asked_of number out) ms);
    marks = marks_sent c run ms at number out h.knows l row here (subst (λ (z : ℕ). (site_now ms z).out ≡ false) here may.kept);
  };
  met_is = h.met_is;
  vote_is = ap (λ (n : Name). or_earlier (of_step (vote_by n) out.op) run.last_vote) h.name_is ∙ ap (or_earlier (of_step (vote_by w.name) out.op)) h.vote_is;
  wrote_is = ap (phase_after (of_step phase_by out.op)) h.wrote_is ∙ phase_sent (of_step phase_by out.op) ms;
  round_is = round_sent (of_step promise_by out.op) run.round (top_rounds past) (top_round ms) h.round_is;
  sites = λ (s : ℕ). each_site (λ n. IsSound n s) (Sent (asked_of number out)) ms s
      (λ (k : is_to (asked_of number out) s ≡ true).
      let same : out.site ≡ s = eqb-true out.site s (and_parts (is_row_request out.op) (out.site == s) k).1 in
      let kept : (site_now ms s).out ≡ false = subst (λ (z : ℕ). (site_now ms z).out ≡ false) same may.kept in
      sound_here (asked_of number out) s (site_now ms s) kept same (h.sites s))
      (λ k. h.sites s);
  allowed = (λ about. may, h.allowed);
}
