-- What is asked of a site, as the running call keeps it, and what the call keeps once it is asked.
use Rattle.std.specs.Prelude.{ℕ, ◌≡◌, ◌≤◌, ◌+◌, max, true, ◌||◌, not, if◌then◌else◌, List, [], ◌∷◌, ◌++◌, length, slice_get, slice_set, Option, Some, None, is_some}
use Rattle.gz_core.specs.Rows.{RowAt}
use Rattle.gz_core.specs.declared.calls.Phase.{Phase}
use Rattle.gz_core.specs.declared.requests.RowStep.{RowStep}
use Rattle.gz_core.specs.declared.requests.Op.{Op}
use Rattle.gz_core.specs.declared.requests.Op.TheVariants.{ReadRow, WriteRow}
use Rattle.gz_core.specs.declared.requests.Out.{Out}
use Rattle.gz_accept.specs.declared.answers.Step.{Step}
use Rattle.gz_accept.specs.declared.answers.Step.TheVariants.{Done, Already, Below, Settled, Trimmed}
use Rattle.gz_round.specs.declared.run.Mark.{Mark}
use Rattle.gz_round.specs.declared.run.Run.{Run}
use Rattle.gz_round.specs.Sites.{written_by}
pub use Rattle.gz_round.specs.Sent.{is_notice}
use Rattle.gz_round.specs.Sent.{vote_by, phase_by, promise_by, round_after, of_step, or_earlier}
use Rattle.gz_round.specs.Sending.{answer_of, made_by}

-- a row where the step is done
abbrev pub if_done : Step → RowAt → Option RowAt
if_done Done row = Some row
if_done Already row = None
if_done (Below promised) row = None
if_done Settled row = None
if_done (Trimmed floor) row = None

-- the row that a step makes of another, where it is done
abbrev pub made_of : RowStep → RowAt → Option RowAt
made_of step row = if_done (answer_of step row) (made_by step row)

abbrev pub read_out : Run → ℕ → Out
read_out run at = record { site = at; op = ReadRow run.key; awaited = true }

abbrev pub write_out : Run → ℕ → Option ℕ → RowStep → Option RowAt → Option Out
write_out run at etag step None = None
write_out run at etag step (Some row) = Some (record { site = at; op = WriteRow run.key etag step row; awaited = not (is_notice step) })

abbrev pub step_out : Run → ℕ → Option ℕ → Option RowStep → RowAt → Option Out
step_out run at etag None row = None
step_out run at etag (Some step) row = write_out run at etag step (made_of step row)

abbrev pub row_out : Run → ℕ → Mark → Option RowStep → Option RowAt → Option Out
row_out run at mark step None = Some (read_out run at)
row_out run at mark step (Some row) = if mark.changed then Some (read_out run at) else step_out run at mark.etag step row

-- what is asked of a site: nothing where it is out or awaited; a read where no row was heard, or the last one was
-- overtaken; else the write of the step, where it is done on the last row
abbrev pub asks_of : Run → ℕ → Mark → Option RowStep → Option RowAt → Option Out
asks_of run at mark step row = if mark.out || is_some mark.awaited then None else row_out run at mark step row

abbrev pub marked_as : Mark → ℕ → Out → Mark
marked_as mark number out = record { etag = mark.etag; changed = mark.changed; out = mark.out; left = None; awaited = Some (record { number = number; written = written_by out.op }) }

abbrev pub phase_after : Option Phase → Phase → Phase
phase_after None phase = phase
phase_after (Some later) phase = later

-- what a request says of the call: where it voted last for its value, which part sent a row last, and the greatest round
abbrev pub noted : Run → Op → Run
noted run op = record run {
  last_vote = or_earlier (of_step (vote_by run.name) op) run.last_vote;
  wrote = phase_after (of_step phase_by op) run.wrote;
  round = round_after (of_step promise_by op) run.round;
}

abbrev pub marked_run : Run → ℕ → ℕ → Mark → Out → Run
marked_run run at number mark out = record run { marks = if out.awaited then slice_set run.marks at (marked_as mark number out) else run.marks }

-- what is kept once a request has gone out
abbrev pub sent_run : Run → ℕ → ℕ → Mark → Out → Run
sent_run run at number mark out = noted (marked_run run at number mark out) out.op

-- what asking a site came to
abbrev pub AskedBy : Run → ℕ → ℕ → List Out → Mark → Option Out → Run → List Out → Type 0
AskedBy old at first outs mark None new sent = (new ≡ old) × (sent ≡ outs)
AskedBy old at first outs mark (Some out) new sent = (new ≡ sent_run old at (first + length outs) mark out) × (sent ≡ outs ++ (out ∷ []))

-- a site was asked for all that it may be asked for
abbrev pub IsAskedAt : Run → ℕ → Option RowStep → ℕ → List Out → Run → List Out → Type 0
IsAskedAt old at step first outs new sent = (mark : Mark) (row : Option RowAt) → slice_get old.marks at ≡ Some mark → slice_get old.rows at ≡ Some row → AskedBy old at first outs mark (asks_of old at mark step row) new sent

-- the round of a step's promise, 0 where it promises nothing
abbrev pub round_of : Option RowStep → ℕ
round_of None = 0
round_of (Some step) = round_after (promise_by step) 0

-- what asking leaves as it was
pub record IsLeftBy (old new : Run) (step : Option RowStep) : Type 0 where
  pub rows : new.rows ≡ old.rows
  pub marks_len : length new.marks ≡ length old.marks
  pub stage : new.stage ≡ old.stage
  pub own : new.own ≡ old.own
  pub name : new.name ≡ old.name
  pub target : new.target ≡ old.target
  pub vote : step ≡ None → new.last_vote ≡ old.last_vote
  pub wrote : step ≡ None → new.wrote ≡ old.wrote
  pub rises : old.round ≤ new.round
  pub round : new.round ≤ max (round_of step) old.round
