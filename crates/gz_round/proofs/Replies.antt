-- A reply, or a give-up: what is noted of it stands for it.
use Rattle.std.proofs.Common.{◌≡◌, ◌≢◌, ℕ, ◌+◌, ◌<◌, max, Bool, true, false, ◌&&◌, cond, List, ◌∷◌, length, Option, Some, None, option_map, refl, sym, ap, ◌∙◌, subst, inl, inr}
use Rattle.std.proofs.Math.ListN.{length-set}
use Rattle.std.specs.List.{slice_get}
use Rattle.std.proofs.lemmas.Bool.{cases_eq, cond-true, cond-false, and_right, and_from}
use Rattle.std.proofs.lemmas.Option.{none-some}
use Rattle.gz_core.specs.Rows.{RowAt}
use Rattle.gz_config.specs.declared.Config.{Config}
use Rattle.gz_core.specs.declared.requests.Reply.{Reply}
use Rattle.gz_core.specs.declared.requests.Reply.TheVariants.{Row, NoRow, Written}
use Rattle.gz_round.specs.declared.hearing.Seen.{Seen}
use Rattle.gz_round.specs.declared.run.Mark.{Mark}
use Rattle.gz_round.specs.declared.run.Run.{Run}
use Rattle.gz_core.specs.History.{Asked, Action, Handed, GaveUp, Caller, Trace, is_row_request}
use Rattle.gz_round.specs.Sites.{SiteNow, site_now, after_reply, known, row_seen, written_by, as_heard, seen_in, is_changed}
use Rattle.gz_round.specs.Sent.{met, last_vote, phase_of, top_round}
use Rattle.gz_round.specs.Rounds.{top_rounds}
use Rattle.gz_round.specs.Sending.{IsAllowed, IsAwaitedOf}
use Rattle.gz_round.specs.Noting.{left_run, noted_by, written_at, written_of, IsReplyNoted}
use Rattle.gz_round.specs.Standing.{Knows, Stands, StageStands, IsSound, mark_of, etag_seen, awaited_of}
use Rattle.gz_round.specs.Following.{Ready}
use Rattle.gz_core.specs.Names.{BallotAt}
use Rattle.gz_round.specs.Goals.{IsOvertakenAskably}
use Rattle.gz_round.proofs.Askable.{askably_still, askable_ended}
use Rattle.gz_round.proofs.Notices.{tells, unnoticed_more}
use Rattle.gz_round.proofs.Lists.{told_after_set, told_same}
use Rattle.gz_round.proofs.Actions.{is_to_row, is_to_other, heard_row, now_here, now_other}
use Rattle.gz_round.proofs.AsHeard.{changed_heard, heard_again}
use Rattle.gz_round.proofs.Awaits.{awaits_to}
use Rattle.gz_round.proofs.Stages.{Ends, ended_known, stage_more}

abbrev pub met_by : Option Seen → Bool → ℕ → ℕ
met_by (Some seen) changed n = n
met_by None true n = n + 1
met_by None false n = n

ended_rows : (c : Config) (run : Run) (ms : List Action) (m : Action) (at : ℕ) (seen : Option Seen) (changed : Bool) → Ends m at seen changed → (site_now ms at).out ≡ false → Knows c run ms → at < c.n →
    (s : ℕ) → s < c.n → slice_get (noted_by run at (mark_of (site_now ms at)) (known (site_now ms at)) seen changed).rows s ≡ Some (known (site_now (m ∷ ms) s))
ended_rows c run ms m at (Some seen) changed e kept k l =
    told_after_set c.n run.rows (λ s. known (site_now ms s)) (λ s. known (site_now (m ∷ ms) s)) at (Some seen.row) k.rows_len k.rows
    (sym (ap known (now_here m ms at e.here ∙ e.after_is (site_now ms at)) ∙ cond-false (site_now ms at).out None (Some seen.row) kept))
    (λ (s : ℕ) (n : s ≢ at). ap known (sym (now_other m ms s (e.others s n))))
ended_rows c run ms m at None true e kept k l =
    told_same c.n run.rows (λ s. known (site_now ms s)) (λ s. known (site_now (m ∷ ms) s)) k.rows
    (λ (s : ℕ). elim (cases_eq s at) [
      | inl same ↦ subst (λ (z : ℕ). known (site_now ms z) ≡ known (site_now (m ∷ ms) z)) (sym same) (sym (ap known (now_here m ms at e.here ∙ e.after_is (site_now ms at))))
      | inr n ↦ ap known (sym (now_other m ms s (e.others s n)))
    ])
ended_rows c run ms m at None false e kept k l =
    told_after_set c.n run.rows (λ s. known (site_now ms s)) (λ s. known (site_now (m ∷ ms) s)) at None k.rows_len k.rows
    (sym (ap known (now_here m ms at e.here ∙ e.after_is (site_now ms at))))
    (λ (s : ℕ) (n : s ≢ at). ap known (sym (now_other m ms s (e.others s n))))

-- the mark of a site whose request ended, where it wasn't out
mark_heard : (etag : Option ℕ) (row : RowAt) (out : Bool) → out ≡ false → (let m : Mark = record { etag = etag; changed = false; out = false; left = None; awaited = None } in m) ≡ record { etag = etag; changed = false; out = out; left = cond out (Some row) None; awaited = None }
mark_heard etag row out kept = ap (λ (b : Bool). let m : Mark = record { etag = etag; changed = false; out = b; left = cond b (Some row) None; awaited = None } in m) (sym kept)

mark_overtaken : (now : SiteNow) → now.out ≡ false → (let m : Mark = record { etag = etag_seen now.row; changed = true; out = now.out; left = None; awaited = None } in m) ≡ mark_of (after_reply None true now)
mark_overtaken now kept = ap (λ (o : Option RowAt). let m : Mark = record { etag = etag_seen now.row; changed = true; out = now.out; left = o; awaited = None } in m) (sym (cond-false now.out (row_seen now.row) None kept))

mark_left : (now : SiteNow) → now.out ≡ false → (let m : Mark = record { etag = etag_seen now.row; changed = now.changed; out = true; left = known now; awaited = None } in m) ≡ mark_of (after_reply None false now)
mark_left now kept = ap (λ (o : Option RowAt). let m : Mark = record { etag = etag_seen now.row; changed = now.changed; out = true; left = o; awaited = None } in m) (cond-false now.out None (row_seen now.row) kept)

ended_marks : (c : Config) (run : Run) (ms : List Action) (m : Action) (at : ℕ) (seen : Option Seen) (changed : Bool) → Ends m at seen changed → (site_now ms at).out ≡ false → Knows c run ms → at < c.n →
    (s : ℕ) → s < c.n → slice_get (noted_by run at (mark_of (site_now ms at)) (known (site_now ms at)) seen changed).marks s ≡ Some (mark_of (site_now (m ∷ ms) s))
ended_marks c run ms m at (Some seen) changed e kept k l =
    told_after_set c.n run.marks (λ s. mark_of (site_now ms s)) (λ s. mark_of (site_now (m ∷ ms) s)) at (record { etag = seen.etag; changed = false; out = false; left = None; awaited = None }) k.marks_len k.marks
    (mark_heard seen.etag seen.row (site_now ms at).out kept ∙ sym (ap mark_of (now_here m ms at e.here ∙ e.after_is (site_now ms at))))
    (λ (s : ℕ) (n : s ≢ at). ap mark_of (sym (now_other m ms s (e.others s n))))
ended_marks c run ms m at None true e kept k l =
    told_after_set c.n run.marks (λ s. mark_of (site_now ms s)) (λ s. mark_of (site_now (m ∷ ms) s)) at (record { etag = etag_seen (site_now ms at).row; changed = true; out = (site_now ms at).out; left = None; awaited = None }) k.marks_len k.marks
    (mark_overtaken (site_now ms at) kept ∙ sym (ap mark_of (now_here m ms at e.here ∙ e.after_is (site_now ms at))))
    (λ (s : ℕ) (n : s ≢ at). ap mark_of (sym (now_other m ms s (e.others s n))))
ended_marks c run ms m at None false e kept k l =
    told_after_set c.n run.marks (λ s. mark_of (site_now ms s)) (λ s. mark_of (site_now (m ∷ ms) s)) at (record { etag = etag_seen (site_now ms at).row; changed = (site_now ms at).changed; out = true; left = known (site_now ms at); awaited = None }) k.marks_len k.marks
    (mark_left (site_now ms at) kept ∙ sym (ap mark_of (now_here m ms at e.here ∙ e.after_is (site_now ms at))))
    (λ (s : ℕ) (n : s ≢ at). ap mark_of (sym (now_other m ms s (e.others s n))))

ended_rows_len : (run : Run) (at : ℕ) (mark : Mark) (row : Option RowAt) (seen : Option Seen) (changed : Bool) → length (noted_by run at mark row seen changed).rows ≡ length run.rows
ended_rows_len run at mark row (Some seen) changed = length-set run.rows at (Some seen.row)
ended_rows_len run at mark row None true = refl
ended_rows_len run at mark row None false = length-set run.rows at None

ended_marks_len : (run : Run) (at : ℕ) (mark : Mark) (row : Option RowAt) (seen : Option Seen) (changed : Bool) → length (noted_by run at mark row seen changed).marks ≡ length run.marks
ended_marks_len run at mark row (Some seen) changed = length-set run.marks at _
ended_marks_len run at mark row None true = length-set run.marks at _
ended_marks_len run at mark row None false = length-set run.marks at _

ended_met : (run : Run) (at : ℕ) (mark : Mark) (row : Option RowAt) (seen : Option Seen) (changed : Bool) → (noted_by run at mark row seen changed).met ≡ met_by seen changed run.met
ended_met run at mark row (Some seen) changed = refl
ended_met run at mark row None true = refl
ended_met run at mark row None false = refl

-- all else is as it was
pub record IsElse (old new : Run) : Type 0 where
  pub name : new.name ≡ old.name
  pub key : new.key ≡ old.key
  pub target : new.target ≡ old.target
  pub own : new.own ≡ old.own
  pub vote : new.last_vote ≡ old.last_vote
  pub wrote : new.wrote ≡ old.wrote
  pub round : new.round ≡ old.round
  pub stage : new.stage ≡ old.stage

pub ended_else : (run : Run) (at : ℕ) (mark : Mark) (row : Option RowAt) (seen : Option Seen) (changed : Bool) → IsElse run (noted_by run at mark row seen changed)
ended_else run at mark row (Some seen) changed = record { name = refl; key = refl; target = refl; own = refl; vote = refl; wrote = refl; round = refl; stage = refl }
ended_else run at mark row None true = record { name = refl; key = refl; target = refl; own = refl; vote = refl; wrote = refl; round = refl; stage = refl }
ended_else run at mark row None false = record { name = refl; key = refl; target = refl; own = refl; vote = refl; wrote = refl; round = refl; stage = refl }

sound_ended : (seen : Option Seen) (changed : Bool) (now : SiteNow) (s : ℕ) → IsSound (after_reply seen changed now) s
sound_ended (Some seen) changed now s = record { inside = λ (a : Asked) (e : None ≡ Some a). absurd (none-some a e); answered = refl }
sound_ended None true now s = record { inside = λ (a : Asked) (e : None ≡ Some a). absurd (none-some a e); answered = refl }
sound_ended None false now s = record { inside = λ (a : Asked) (e : None ≡ Some a). absurd (none-some a e); answered = refl }

-- what is noted stands for the action
pub stands_ended : (c : Config) (w : Caller) (past : List Trace) (run : Run) (ms : List Action) (m : Action) (at : ℕ) (seen : Option Seen) (changed : Bool) → Ends m at seen changed → at < c.n → (site_now ms at).out ≡ false →
    last_vote w.name (m ∷ ms) ≡ last_vote w.name ms → phase_of (m ∷ ms) ≡ phase_of ms → top_round (m ∷ ms) ≡ top_round ms → met (m ∷ ms) ≡ met_by seen changed (met ms) → IsAllowed c w past ms m → Stands c w past run ms → Stands c w past (noted_by run at (mark_of (site_now ms at)) (known (site_now ms at)) seen changed) (m ∷ ms)
stands_ended c w past run ms m at seen changed e l kept votes phase rounds met_then may h =
    let rest = ended_else run at (mark_of (site_now ms at)) (known (site_now ms at)) seen changed in
    record {
      name_is = rest.name ∙ h.name_is;
      key_is = rest.key ∙ h.key_is;
      target_is = rest.target ∙ h.target_is;
      own_is = rest.own ∙ h.own_is;
      named = h.named;
      writes = h.writes;
      knows = record {
        rows_len = ended_rows_len run at (mark_of (site_now ms at)) (known (site_now ms at)) seen changed ∙ h.knows.rows_len;
        marks_len = ended_marks_len run at (mark_of (site_now ms at)) (known (site_now ms at)) seen changed ∙ h.knows.marks_len;
        rows = ended_rows c run ms m at seen changed e kept h.knows l;
        marks = ended_marks c run ms m at seen changed e kept h.knows l;
      };
      met_is = ended_met run at (mark_of (site_now ms at)) (known (site_now ms at)) seen changed ∙ (ap (met_by seen changed) h.met_is ∙ sym met_then);
      vote_is = rest.vote ∙ (h.vote_is ∙ sym votes);
      wrote_is = rest.wrote ∙ (h.wrote_is ∙ sym phase);
      round_is = rest.round ∙ (h.round_is ∙ ap (λ (n : ℕ). max (top_rounds past) n) (sym rounds));
      sites = λ (s : ℕ). elim (cases_eq s at) [
        | inl same ↦ subst (λ (z : ℕ). IsSound (site_now (m ∷ ms) z) z) (sym same) (subst (λ n. IsSound n at) (sym (now_here m ms at e.here ∙ e.after_is (site_now ms at))) (sound_ended seen changed (site_now ms at) at))
        | inr n ↦ subst (λ k. IsSound k s) (sym (now_other m ms s (e.others s n))) (h.sites s)
      ];
      allowed = (may, h.allowed);
    }

seen_unchanged : (written : Option RowAt) (reply : Reply) (seen : Seen) → seen_in written reply ≡ Some seen → is_changed reply ≡ false
seen_unchanged written (Row etag row) seen e = refl
seen_unchanged written NoRow seen e = refl
seen_unchanged written (Written etag) seen e = refl
seen_unchanged written reply seen e = absurd (none-some seen e)

met_not : (a : Asked) (reply : Reply) (ms : List Action) → is_changed reply ≡ false → met (Handed a reply ∷ ms) ≡ met ms
met_not a reply ms e = cond-false (is_row_request a.op && is_changed reply) (met ms + 1) (met ms) (and_right (is_row_request a.op) (is_changed reply) e)

met_handed : (a : Asked) (reply : Reply) (ms : List Action) (seen : Option Seen) (changed : Bool) → is_row_request a.op ≡ true → seen_in (written_by a.op) reply ≡ seen → is_changed reply ≡ changed → met (Handed a reply ∷ ms) ≡ met_by seen changed (met ms)
met_handed a reply ms (Some seen) changed row e f = met_not a reply ms (seen_unchanged (written_by a.op) reply seen e)
met_handed a reply ms None true row e f = cond-true (is_row_request a.op && is_changed reply) (met ms + 1) (met ms) (and_from (is_row_request a.op) (is_changed reply) row f)
met_handed a reply ms None false row e f = met_not a reply ms f

-- a call is ready once what came is noted
ready_ended : (c : Config) (w : Caller) (past : List Trace) (run : Run) (ms : List Action) (m : Action) (at : ℕ) (seen : Option Seen) (changed : Bool) (a : Asked) → Ends m at seen changed → (site_now ms at).awaits ≡ Some a → tells m ≡ false → Ready c w past run ms →
    Stands c w past (noted_by run at (mark_of (site_now ms at)) (known (site_now ms at)) seen changed) (m ∷ ms) → StageStands c w past run.stage (m ∷ ms) → Ready c w past (noted_by run at (mark_of (site_now ms at)) (known (site_now ms at)) seen changed) (m ∷ ms)
ready_ended c w past run ms m at seen changed a ends awaits quiet r stands stage =
    let new : Run = noted_by run at (mark_of (site_now ms at)) (known (site_now ms at)) seen changed in
    let rest : IsElse run (noted_by run at (mark_of (site_now ms at)) (known (site_now ms at)) seen changed) = ended_else run at (mark_of (site_now ms at)) (known (site_now ms at)) seen changed in
    record {
      stands = stands;
      stage = subst (λ st. StageStands c w past st (m ∷ ms)) (sym rest.stage) stage;
      unnoticed = unnoticed_more m ms quiet r.unnoticed;
      above = subst (λ st. IsOvertakenAskably c new st (m ∷ ms)) (sym rest.stage) (askably_still c run new run.stage ms (m ∷ ms) rest.round (λ (v : ℕ) (b : BallotAt). askable_ended c m ms at seen changed a v b ends awaits) r.above);
    }

-- a reply that is heard as it is
ready_heard : (c : Config) (w : Caller) (past : List Trace) (run new : Run) (ms : List Action) (at : ℕ) (a : Asked) (reply : Reply) → at < c.n → (site_now ms at).awaits ≡ Some a → Ready c w past run ms → as_heard c.n (written_by a.op) reply ≡ reply → new ≡ noted_by run at (mark_of (site_now ms at)) (known (site_now ms at)) (seen_in (written_by a.op) reply) (is_changed reply) → Ready c w past new (Handed a reply ∷ ms)
ready_heard c w past run new ms at a reply l awaits r same new_is =
    let sound = (r.stands.sites at).inside a awaits in
    let row = is_to_row a at (awaits_to ms at a awaits) in
    let ends : Ends (Handed a reply) at (seen_in (written_by a.op) reply) (is_changed reply) = record { here = awaits_to ms at a awaits; others = λ (s : ℕ) (n : s ≢ at). is_to_other a s (λ (q : s ≡ a.site). n (q ∙ sound.1)); after_is = λ now. refl } in
    let awaited : IsAwaitedOf ms a = subst (λ (z : ℕ). (site_now ms z).awaits ≡ Some a) (sym sound.1) awaits in
    let stands : Stands c w past (noted_by run at (mark_of (site_now ms at)) (known (site_now ms at)) (seen_in (written_by a.op) reply) (is_changed reply)) (Handed a reply ∷ ms) =
    stands_ended c w past run ms (Handed a reply) at (seen_in (written_by a.op) reply) (is_changed reply) ends l sound.0 refl refl refl (met_handed a reply ms (seen_in (written_by a.op) reply) (is_changed reply) row refl refl) (λ about. (awaited, same)) r.stands in
    let stage : StageStands c w past run.stage (Handed a reply ∷ ms) = stage_more c w past (Handed a reply) ms run.stage (ended_known (Handed a reply) ms at (seen_in (written_by a.op) reply) (is_changed reply) ends (heard_row a reply row)) (record { vote = refl; phase = refl; promise = refl; cast = refl }) r.stage in
    subst (λ (n : Run). Ready c w past n (Handed a reply ∷ ms)) (sym new_is) (ready_ended c w past run ms (Handed a reply) at (seen_in (written_by a.op) reply) (is_changed reply) a ends awaits refl r stands stage)

-- a reply that is handed, as the call hears it
pub ready_handed : (c : Config) (w : Caller) (past : List Trace) (run new : Run) (ms : List Action) (at : ℕ) (a : Asked) (reply : Reply) → at < c.n → (site_now ms at).awaits ≡ Some a → Ready c w past run ms → IsReplyNoted c.n run at reply new → Ready c w past new (Handed a (as_heard c.n (written_by a.op) reply) ∷ ms)
ready_handed c w past run new ms at a reply l awaits r noted =
    let mark : Mark = mark_of (site_now ms at) in
    let row : Option RowAt = known (site_now ms at) in
    let written : written_at (mark_of (site_now ms at)) ≡ written_by a.op = ap (λ (o : Option Asked). written_of (option_map awaited_of o)) awaits in
    let heard : Reply = as_heard c.n (written_by a.op) reply in
    let new_is : new ≡ noted_by run at (mark_of (site_now ms at)) (known (site_now ms at)) (seen_in (written_by a.op) (as_heard c.n (written_by a.op) reply)) (is_changed (as_heard c.n (written_by a.op) reply)) =
    noted mark row (r.stands.knows.marks at l) (r.stands.knows.rows at l) ∙ (ap (λ o. noted_by run at mark row (seen_in o (as_heard c.n o reply)) (is_changed reply)) written ∙ ap (noted_by run at mark row (seen_in (written_by a.op) heard)) (sym (changed_heard c.n (written_by a.op) reply))) in
    ready_heard c w past run new ms at a heard l awaits r (heard_again c.n (written_by a.op) reply) new_is

-- a request that is given up
pub ready_gave_up : (c : Config) (w : Caller) (past : List Trace) (run new : Run) (ms : List Action) (at : ℕ) (a : Asked) → at < c.n → (site_now ms at).awaits ≡ Some a → Ready c w past run ms → new ≡ left_run run at (mark_of (site_now ms at)) (known (site_now ms at)) → Ready c w past new (GaveUp a ∷ ms)
ready_gave_up c w past run new ms at a l awaits r new_is =
    let sound = (r.stands.sites at).inside a awaits in
    let ends : Ends (GaveUp a) at None false = record { here = awaits_to ms at a awaits; others = λ (s : ℕ) (n : s ≢ at). is_to_other a s (λ (q : s ≡ a.site). n (q ∙ sound.1)); after_is = λ now. refl } in
    let awaited : IsAwaitedOf ms a = subst (λ (z : ℕ). (site_now ms z).awaits ≡ Some a) (sym sound.1) awaits in
    let stands : Stands c w past (left_run run at (mark_of (site_now ms at)) (known (site_now ms at))) (GaveUp a ∷ ms) = stands_ended c w past run ms (GaveUp a) at None false ends l sound.0 refl refl refl refl (λ about. awaited) r.stands in
    let stage : StageStands c w past run.stage (GaveUp a ∷ ms) = stage_more c w past (GaveUp a) ms run.stage (ended_known (GaveUp a) ms at None false ends refl) (record { vote = refl; phase = refl; promise = refl; cast = refl }) r.stage in
    subst (λ (n : Run). Ready c w past n (GaveUp a ∷ ms)) (sym new_is) (ready_ended c w past run ms (GaveUp a) at None false a ends awaits refl r stands stage)
