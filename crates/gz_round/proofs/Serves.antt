-- A pass over the sites: what each is asked, and what holds once all were asked.
use Rattle.std.proofs.Common.{◌≡◌, ◌≢◌, ℕ, ◌+◌, ◌<◌, ◌≤◌, true, false, ◌||◌, not, List, ◌∷◌, length, Option, Some, None, is_some, option_map, refl, sym, ap, ◌∙◌, subst, inl, inr, ◌⊎◌, arith}
use Rattle.std.proofs.lemmas.Bool.{cases_Bool, cases_eq, cond-true, cond-false, or_from}
use Rattle.std.proofs.lemmas.Option.{none-some}
use Rattle.gz_core.specs.Rows.{RowAt}
use Rattle.gz_core.specs.Calls.{key_of}
use Rattle.gz_config.specs.declared.Config.{Config}
use Rattle.gz_core.specs.declared.requests.RowStep.{RowStep}
use Rattle.gz_core.specs.declared.requests.Op.TheVariants.{WriteRow}
use Rattle.gz_core.specs.declared.requests.Out.{Out}
use Rattle.gz_accept.specs.declared.answers.Step.TheVariants.{Done}
use Rattle.gz_round.specs.declared.hearing.Seen.{Seen}
use Rattle.gz_round.specs.declared.run.Run.{Run}
use Rattle.gz_core.specs.History.{Asked, Action, Sent, Caller, Trace, asked_of, is_row_request, sent_from}
use Rattle.gz_round.specs.Sites.{SiteNow, site_now, known, row_seen}
use Rattle.gz_core.specs.Names.{BallotAt}
use Rattle.gz_round.specs.Sent.{of_step, promise_by, round_after}
use Rattle.gz_round.specs.Counting.{IsUntold, IsUnnoticed}
use Rattle.gz_round.specs.Sending.{MayRead, MaySend, answer_of, made_by}
use Rattle.gz_round.specs.Asking.{round_of, asks_of, row_out, step_out, write_out, read_out, made_of, is_notice, sent_run, AskedBy, IsAskedAt}
use Rattle.gz_round.specs.Standing.{Stands, mark_of, awaited_of, etag_seen}
use Rattle.gz_round.specs.Following.{Asks, HasAsked, HeldOf, MayMakeOf, IsPlain, IsAwaitedBy}
use Rattle.gz_round.proofs.Notices.{unnoticed_more, untold_other, awaited_tells}
use Rattle.gz_round.specs.Goals.{IsServed, IsSettledBy}
use Rattle.gz_round.proofs.Actions.{is_to_same, is_to_other, now_here, now_other, sent_append}
use Rattle.gz_round.proofs.Known.{last_known, known_last}
use Rattle.gz_round.proofs.Guards.{may_kept_of}
use Rattle.gz_round.proofs.Stages.{held_kept_of}
use Rattle.gz_round.proofs.Sends.{Kind, reads, writes, asked_kind, kind_site, kind_row, kind_of, kind_may, kind_plain, known_none, stands_sent, undone_means}

write_none : (run : Run) (at : ℕ) (etag : Option ℕ) (step : RowStep) (o : Option RowAt) → write_out run at etag step o ≡ None → o ≡ None
write_none run at etag step None h = refl
write_none run at etag step (Some row) h = absurd (none-some _ (sym h))

settled_none : (w : Caller) (run : Run) (ms : List Action) (at : ℕ) (etag : Option ℕ) (seen : Seen) (step : Option RowStep) → step_out run at etag step seen.row ≡ None → IsSettledBy w ms at seen step
settled_none w run ms at etag seen None h = tt
settled_none w run ms at etag seen (Some step) h = λ (done : answer_of step seen.row ≡ Done). absurd (undone_means (answer_of step seen.row) (made_by step seen.row) (write_none run at etag step (made_of step seen.row) h) done)

idle_mark : (now : SiteNow) → now.awaits ≡ None → is_some (option_map awaited_of now.awaits) ≡ false
idle_mark now e = ap (λ (o : Option Asked). is_some (option_map awaited_of o)) e

served_row : (w : Caller) (run : Run) (ms : List Action) (at : ℕ) (step : Option RowStep) (o : Option Seen) → (site_now ms at).row ≡ o → (site_now ms at).out ≡ false →
    row_out run at (mark_of (site_now ms at)) step (known (site_now ms at)) ≡ None → (seen : Seen) × ((site_now ms at).row ≡ Some seen) × ((site_now ms at).changed ≡ false) × IsSettledBy w ms at seen step
served_row w run ms at step None e kept h =
    let unknown : known (site_now ms at) ≡ None = cond-false (site_now ms at).out None (row_seen (site_now ms at).row) kept ∙ ap row_seen e in
    absurd (none-some _ (sym (sym (ap (row_out run at (mark_of (site_now ms at)) step) unknown) ∙ h)))
served_row w run ms at step (Some seen) e kept h =
    let there : known (site_now ms at) ≡ Some seen.row = last_known (site_now ms at) seen e kept in
    let asked : row_out run at (mark_of (site_now ms at)) step (Some seen.row) ≡ None = sym (ap (row_out run at (mark_of (site_now ms at)) step) there) ∙ h in
    elim (cases_Bool (site_now ms at).changed) [
      | inl k ↦ absurd (none-some _ (sym (sym (cond-true (site_now ms at).changed (Some (read_out run at)) (step_out run at (etag_seen (site_now ms at).row) step seen.row) k) ∙ asked)))
      | inr k ↦ (seen, e, k, settled_none w run ms at (etag_seen (site_now ms at).row) seen step (sym (cond-false (site_now ms at).changed (Some (read_out run at)) (step_out run at (etag_seen (site_now ms at).row) step seen.row) k) ∙ asked))
    ]

-- a site of which nothing is asked is served
pub served_none : (w : Caller) (run : Run) (ms : List Action) (at : ℕ) (step : Option RowStep) → asks_of run at (mark_of (site_now ms at)) step (known (site_now ms at)) ≡ None → IsServed w ms step at
served_none w run ms at step h idle kept =
    let test : ((mark_of (site_now ms at)).out || is_some (mark_of (site_now ms at)).awaited) ≡ false = or_from (site_now ms at).out (is_some (option_map awaited_of (site_now ms at).awaits)) kept (idle_mark (site_now ms at) idle) in
    served_row w run ms at step (site_now ms at).row refl kept (sym (cond-false ((mark_of (site_now ms at)).out || is_some (mark_of (site_now ms at)).awaited) None (row_out run at (mark_of (site_now ms at)) step (known (site_now ms at))) test) ∙ h)

awaits_here : (ms : List Action) (a : Asked) (at : ℕ) → is_row_request a.op ≡ true → a.site ≡ at → a.awaited ≡ true → (site_now (Sent a ∷ ms) at).awaits ≡ Some a
awaits_here ms a at row here e = ap (λ n. n.awaits) (now_here (Sent a) ms at (is_to_same a at row here) ∙ cond-true a.awaited _ (site_now ms at) e)

same_here : (ms : List Action) (a : Asked) (at : ℕ) → is_row_request a.op ≡ true → a.site ≡ at → a.awaited ≡ false → site_now (Sent a ∷ ms) at ≡ site_now ms at
same_here ms a at row here e = now_here (Sent a) ms at (is_to_same a at row here) ∙ cond-false a.awaited _ (site_now ms at) e

-- a site that was asked for something that is awaited is served
served_awaits : (w : Caller) (ms : List Action) (a : Asked) (at : ℕ) (step : Option RowStep) → is_row_request a.op ≡ true → a.site ≡ at → a.awaited ≡ true → IsServed w (Sent a ∷ ms) step at
served_awaits w ms a at step row here e idle kept = absurd (none-some a (sym idle ∙ awaits_here ms a at row here e))

notice_last : (now : SiteNow) (before : RowAt) → known now ≡ Some before → (seen : Seen) × (now.row ≡ Some seen) × (seen.row ≡ before) × (seen.etag ≡ etag_seen now.row)
notice_last now before r = let last = known_last now before r in (last.0, last.1, last.2, sym (ap etag_seen last.1))

write_same : (made : RowStep) (key other : List ℕ) (etag tag : Option ℕ) (new row : RowAt) → key ≡ other → etag ≡ tag → new ≡ row → WriteRow key etag made new ≡ WriteRow other tag made row
write_same made key other etag tag new row p q r = ap (λ k. WriteRow k etag made new) p ∙ (ap (λ t. WriteRow other t made new) q ∙ ap (λ n. WriteRow other tag made n) r)

notice_sent : (number : ℕ) (out : Out) (at : ℕ) (key : List ℕ) (etag : Option ℕ) (made : RowStep) (row : RowAt) → out.site ≡ at → out.op ≡ WriteRow key etag made row → out.awaited ≡ false →
    Sent (asked_of number out) ≡ Sent (record { number = number; site = at; op = WriteRow key etag made row; awaited = false })
notice_sent number out at key etag made row p q r =
    ap (λ s. Sent (record { number = number; site = s; op = out.op; awaited = out.awaited })) p ∙ (ap (λ o. Sent (record { number = number; site = at; op = o; awaited = out.awaited })) q ∙ ap (λ b. Sent (record { number = number; site = at; op = WriteRow key etag made row; awaited = b })) r)

-- and so is one that got a notice
pub served_some : (w : Caller) (run : Run) (ms : List Action) (at number : ℕ) (step : Option RowStep) (out : Out) → run.key ≡ key_of w.call → Kind run at (mark_of (site_now ms at)) step (known (site_now ms at)) out → IsServed w (Sent (asked_of number out) ∷ ms) step at
served_some w run ms at number step out key (reads e why) = served_awaits w ms (asked_of number out) at step (ap (λ (o : Out). is_row_request o.op) e) (ap (λ o. o.site) e) (ap (λ o. o.awaited) e)
served_some w run ms at number step out key (writes made before new s r same made_is e) =
    elim (cases_Bool (is_notice made)) [
      | inr n ↦ served_awaits w ms (asked_of number out) at step (ap (λ (o : Out). is_row_request o.op) e) (ap (λ o. o.site) e) (ap (λ o. o.awaited) e ∙ ap not n)
      | inl n ↦ (λ idle kept.
          let here : out.site ≡ at = ap (λ o. o.site) e in
          let stays : site_now (Sent (asked_of number out) ∷ ms) at ≡ site_now ms at = same_here ms (asked_of number out) at (ap (λ (o : Out). is_row_request o.op) e) here (ap (λ o. o.awaited) e ∙ ap not n) in
          let last = notice_last (site_now ms at) before r in
          let op_is : out.op ≡ WriteRow (key_of w.call) last.0.etag made (made_by made last.0.row) =
          ap (λ o. o.op) e ∙ write_same made run.key (key_of w.call) (etag_seen (site_now ms at).row) last.0.etag new (made_by made last.0.row) key (sym last.3) (made_is.1 ∙ ap (made_by made) (sym last.2)) in (
            last.0,
            ap (λ n. n.row) stays ∙ last.1,
            ap (λ n. n.changed) stays ∙ same,
            subst (IsSettledBy w (Sent (asked_of number out) ∷ ms) at last.0) (sym s) (λ (done : answer_of made last.0.row ≡ Done). (n, (number, inl (notice_sent number out at (key_of w.call) last.0.etag made (made_by made last.0.row) here op_is (ap (λ o. o.awaited) e ∙ ap not n))))),
          ))
    ]

pub settled_more : (w : Caller) (m : Action) (ms : List Action) (s : ℕ) (seen : Seen) (step : Option RowStep) → IsSettledBy w ms s seen step → IsSettledBy w (m ∷ ms) s seen step
settled_more w m ms s seen None h = tt
settled_more w m ms s seen (Some step) h = λ (done : answer_of step seen.row ≡ Done). let k = h done in (k.0, (k.1.0, inr k.1.1))

-- a request to one site leaves the others served
pub served_other : (w : Caller) (ms : List Action) (a : Asked) (s : ℕ) (step : Option RowStep) → s ≢ a.site → IsServed w ms step s → IsServed w (Sent a ∷ ms) step s
served_other w ms a s step n h idle kept =
    let stays : site_now (Sent a ∷ ms) s ≡ site_now ms s = now_other (Sent a) ms s (is_to_other a s n) in
    let old = h (sym (ap (λ k. k.awaits) stays) ∙ idle) (sym (ap (λ k. k.out) stays) ∙ kept) in
    (old.0, ap (λ k. k.row) stays ∙ old.1, ap (λ k. k.changed) stays ∙ old.2, settled_more w (Sent a) ms s old.0 step old.3)

-- so far all sites below one were served
abbrev pub BelowServed : Caller → List Action → Option RowStep → ℕ → Type 0
BelowServed w ms step bound = (s : ℕ) → s < bound → IsServed w ms step s

-- what holds once the sites below one were asked, after these actions
pub record Passed (c : Config) (w : Caller) (past : List Trace) (run : Run) (start ms : List Action) (step : Option RowStep) (bound : ℕ) : Type 0 where
  pub stands : Stands c w past run ms
  pub may : MayMakeOf c w past ms step
  pub held : HeldOf c w past ms step
  pub served : BelowServed w ms step bound
  pub unnoticed : IsPlain step → IsUnnoticed ms
  pub untold : (s : ℕ) → bound ≤ s → IsUntold ms s
  pub rest : (s : ℕ) → bound ≤ s → site_now ms s ≡ site_now start s
  pub awaited : (s : ℕ) (a : Asked) → (site_now ms s).awaits ≡ Some a → IsAwaitedBy run start step s

pub passed_none : (c : Config) (w : Caller) (past : List Trace) (run : Run) (ms : List Action) (step : Option RowStep) → Asks c w past run ms step → Passed c w past run ms ms step 0
passed_none c w past run ms step h = record {
  stands = h.stands;
  may = h.may;
  held = h.held;
  served = λ (s : ℕ) (l : s < 0). absurd (omega arith);
  unnoticed = λ plain. h.unnoticed;
  untold = λ (s : ℕ) (l : 0 ≤ s). h.unnoticed s;
  rest = λ (s : ℕ) (l : 0 ≤ s). refl;
  awaited = λ (s : ℕ) (a : Asked) (e : (site_now ms s).awaits ≡ Some a). inl (a, e);
}

pub passed_all : (c : Config) (w : Caller) (past : List Trace) (run : Run) (start ms : List Action) (step : Option RowStep) → Passed c w past run start ms step c.n → HasAsked c w past run start ms step
passed_all c w past run start ms step p = record { stands = p.stands; may = p.may; held = p.held; served = p.served; unnoticed = p.unnoticed; awaited = p.awaited }

asked_none : (c : Config) (w : Caller) (past : List Trace) (run : Run) (start ms : List Action) (step : Option RowStep) (at : ℕ) → asks_of run at (mark_of (site_now ms at)) step (known (site_now ms at)) ≡ None →
    Passed c w past run start ms step at → Passed c w past run start ms step (at + 1)
asked_none c w past run start ms step at h p = record {
  stands = p.stands;
  may = p.may;
  held = p.held;
  served = λ (s : ℕ) (l : s < at + 1). elim (cases_eq s at) [ inl e ↦ subst (IsServed w ms step) (sym e) (served_none w run ms at step h) | inr n ↦ p.served s (omega arith) ];
  unnoticed = p.unnoticed;
  untold = λ (s : ℕ) (l : at + 1 ≤ s). p.untold s (omega arith);
  rest = λ (s : ℕ) (l : at + 1 ≤ s). p.rest s (omega arith);
  awaited = p.awaited;
}

-- a round of a promise is used once it is sent, and stays so
pub round_rises : (o : Option (ℕ × BallotAt)) (round : ℕ) → round ≤ round_after o round
round_rises None round = omega arith
round_rises (Some p) round = omega arith

round_used : (o : Option (ℕ × BallotAt)) (round : ℕ) → round_after o 0 ≤ round_after o round
round_used None round = omega arith
round_used (Some p) round = omega arith

awaited_later : (run new : Run) (start : List Action) (step : Option RowStep) (s : ℕ) → run.round ≤ new.round → IsAwaitedBy run start step s → IsAwaitedBy new start step s
awaited_later run new start step s l (inl before) = inl before
awaited_later run new start step s l (inr (inl due)) = inr (inl due)
awaited_later run new start step s l (inr (inr used)) = inr (inr (omega arith))

due_now : (now : SiteNow) → now.out ≡ false → (known now ≡ None) ⊎ (now.changed ≡ true) → (now.out ≡ false) × MayRead now
due_now now kept (inl none) = (kept, inl (known_none now kept none))
due_now now kept (inr changed) = (kept, inr changed)

-- why a site is awaited that was asked just now
awaited_here : (run : Run) (start ms : List Action) (at number : ℕ) (step : Option RowStep) (out : Out) → site_now ms at ≡ site_now start at → (site_now ms at).out ≡ false → Kind run at (mark_of (site_now ms at)) step (known (site_now ms at)) out →
    IsAwaitedBy (sent_run run at number (mark_of (site_now ms at)) out) start step at
awaited_here run start ms at number step out same kept (reads e why) = inr (inl (subst (λ (now : SiteNow). (now.out ≡ false) × MayRead now) same (due_now (site_now ms at) kept why)))
awaited_here run start ms at number step out same kept (writes made before new s r unchanged made_is e) =
    let step_round : round_of step ≡ round_after (promise_by made) 0 = ap round_of s in
    let sent_round : round_after (of_step promise_by out.op) run.round ≡ round_after (promise_by made) run.round = ap (λ (o : Out). round_after (of_step promise_by o.op) run.round) e in
    let used = round_used (promise_by made) run.round in
    inr (inr (omega arith))

asked_some : (c : Config) (w : Caller) (past : List Trace) (run : Run) (start ms : List Action) (step : Option RowStep) (at number : ℕ) (out : Out) → at < c.n → asks_of run at (mark_of (site_now ms at)) step (known (site_now ms at)) ≡ Some out →
    Passed c w past run start ms step at → Passed c w past (sent_run run at number (mark_of (site_now ms at)) out) start (Sent (asked_of number out) ∷ ms) step (at + 1)
asked_some c w past run start ms step at number out l h p =
    let k = asked_kind run at (mark_of (site_now ms at)) step (known (site_now ms at)) out h in
    let here : out.site ≡ at = kind_site run at (mark_of (site_now ms at)) step (known (site_now ms at)) out k.2 in
    let may : MaySend c w past ms (asked_of number out) = kind_may c w past run ms at number step out l p.stands.key_is p.may (p.untold at (omega arith)) h in
    let other : (s : ℕ) → s ≢ at → site_now (Sent (asked_of number out) ∷ ms) s ≡ site_now ms s = λ (s : ℕ) (n : s ≢ at). now_other (Sent (asked_of number out)) ms s (is_to_other (asked_of number out) s (λ (q : s ≡ out.site). n (q ∙ here))) in
    record {
      stands = stands_sent c w past run ms at number out l (kind_row run at (mark_of (site_now ms at)) step (known (site_now ms at)) out k.2) here p.stands may;
      may = may_kept_of c w past ms (asked_of number out) step (kind_of run at (mark_of (site_now ms at)) step (known (site_now ms at)) out k.2) p.may;
      held = held_kept_of c w past ms (asked_of number out) step (kind_of run at (mark_of (site_now ms at)) step (known (site_now ms at)) out k.2) p.held;
      served = λ (s : ℕ) (i : s < at + 1). elim (cases_eq s at) [
        | inl e ↦ subst (IsServed w (Sent (asked_of number out) ∷ ms) step) (sym e) (served_some w run ms at number step out p.stands.key_is k.2)
        | inr n ↦ served_other w ms (asked_of number out) s step (λ (q : s ≡ out.site). n (q ∙ here)) (p.served s (omega arith))
      ];
      unnoticed = λ (plain : IsPlain step). unnoticed_more (Sent (asked_of number out)) ms (awaited_tells (asked_of number out) (kind_plain run at (mark_of (site_now ms at)) step (known (site_now ms at)) out k.2 plain)) (p.unnoticed plain);
      untold = λ (s : ℕ) (i : at + 1 ≤ s).
          let apart : (e : s ≡ out.site) → ⊥ = λ (e : s ≡ out.site). omega (arith, here, e) in
          untold_other (asked_of number out) ms s apart (p.untold s (omega arith));
      rest = λ (s : ℕ) (i : at + 1 ≤ s). other s (λ (e : s ≡ at). omega arith) ∙ p.rest s (omega arith);
      awaited = λ (s : ℕ) (a : Asked) (e : (site_now (Sent (asked_of number out) ∷ ms) s).awaits ≡ Some a). elim (cases_eq s at) [
        | inl same ↦ subst (IsAwaitedBy (sent_run run at number (mark_of (site_now ms at)) out) start step) (sym same) (awaited_here run start ms at number step out (p.rest at (omega arith)) k.0 k.2)
        | inr n ↦ awaited_later run (sent_run run at number (mark_of (site_now ms at)) out) start step s (round_rises (of_step promise_by out.op) run.round) (p.awaited s a (sym (ap (λ now. now.awaits) (other s n)) ∙ e))
      ];
    }

asked_by : (c : Config) (w : Caller) (past : List Trace) (run new : Run) (start base : List Action) (first : ℕ) (outs sent : List Out) (step : Option RowStep) (at : ℕ) (o : Option Out) → at < c.n →
    asks_of run at (mark_of (site_now (sent_from first outs base) at)) step (known (site_now (sent_from first outs base) at)) ≡ o → AskedBy run at first outs (mark_of (site_now (sent_from first outs base) at)) o new sent →
    Passed c w past run start (sent_from first outs base) step at → Passed c w past new start (sent_from first sent base) step (at + 1)
asked_by c w past run new start base first outs sent step at None l e h p =
    subst (λ (r : Run). Passed c w past r start (sent_from first sent base) step (at + 1)) (sym h.0) (subst (λ os. Passed c w past run start (sent_from first os base) step (at + 1)) (sym h.1) (asked_none c w past run start (sent_from first outs base) step at e p))
asked_by c w past run new start base first outs sent step at (Some out) l e h p =
    let next = asked_some c w past run start (sent_from first outs base) step at (first + length outs) out l e p in
    let actions : sent_from first sent base ≡ Sent (asked_of (first + length outs) out) ∷ sent_from first outs base = ap (λ os. sent_from first os base) h.1 ∙ sent_append first outs out base in
    subst (λ (r : Run). Passed c w past r start (sent_from first sent base) step (at + 1)) (sym h.0) (subst (λ ms. Passed c w past (sent_run run at (first + length outs) (mark_of (site_now (sent_from first outs base) at)) out) start ms step (at + 1)) (sym actions) next)

-- one more site was asked
pub passed_more : (c : Config) (w : Caller) (past : List Trace) (run new : Run) (start base : List Action) (first : ℕ) (outs sent : List Out) (step : Option RowStep) (at : ℕ) → at < c.n → IsAskedAt run at step first outs new sent →
    Passed c w past run start (sent_from first outs base) step at → Passed c w past new start (sent_from first sent base) step (at + 1)
passed_more c w past run new start base first outs sent step at l asked p =
    asked_by c w past run new start base first outs sent step at (asks_of run at (mark_of (site_now (sent_from first outs base) at)) step (known (site_now (sent_from first outs base) at))) l refl
    (asked (mark_of (site_now (sent_from first outs base) at)) (known (site_now (sent_from first outs base) at)) (p.stands.knows.marks at l) (p.stands.knows.rows at l)) p
