-- What a line of a log adds to what was read above it.
use Rattle.std.specs.Prelude.{ℕ, ◌-◌, ◌==◌, ◌&&◌, not, nat_lt, nat_le, Bool, true, if◌then◌else◌, List, [], ◌∷◌, ◌++◌, length, Option, Some, None, is_some, option_map, slice_get, Result, Ok, Err, codes}
use Rattle.gz_core.specs.Names.{Name}
use Rattle.gz_core.specs.declared.calls.Answer.{Answer}
use Rattle.gz_core.specs.declared.texts.Why.TheVariants as whys
use Rattle.gz_history.specs.declared.record.CallRec.{CallRec}
use Rattle.gz_text.specs.declared.faults.Fault.{Fault}
use Rattle.gz_text.specs.declared.faults.Fault.TheVariants.{Bad}
use Rattle.gz_text.specs.Faults.{with, or_bad}
use Rattle.gz_text.specs.Fields.{number_field, is_word}
use Rattle.gz_text.specs.Names.{name_field}
use Rattle.gz_text.specs.Places.{field_at, fields_from}
use Rattle.gz_logs.specs.declared.kinds.Kind.{Kind}
use Rattle.gz_logs.specs.declared.lines.Counts.{Counts}
use Rattle.gz_logs.specs.declared.calls.Timed.{Timed}
use Rattle.gz_logs.specs.Answers.{answer_in}
use Rattle.gz_logs.specs.Calls.{timed_in}
use Rattle.gz_logs.specs.Kinds.{kind_of}
use Rattle.gz_logs.specs.Named.{is_named}

-- what was read: the calls, and the counts of the last line, if it was read
pub record Seen : Type 0 where
  pub calls : List CallRec
  pub ends : Option Counts

-- the beginning of the call of the line before
abbrev pub begin_before : List CallRec → Option ℕ
begin_before calls = option_map (λ c. c.begin) (slice_get calls (length calls - 1))

-- a tick is above another, if there is another
abbrev pub is_after : Option ℕ → ℕ → Bool
is_after None tick = true
is_after (Some before) tick = nat_lt before tick

-- a call ends after it began, within the most events, exactly where it has an answer
abbrev pub is_end : ℕ → Option ℕ → Bool → Bool
is_end begin None is_open = is_open
is_end begin (Some end) is_open = nat_lt begin end && nat_le end 4000000 && not is_open

-- the ticks of a call are in order
abbrev pub is_ordered : Option ℕ → ℕ → Option ℕ → Bool → Bool
is_ordered before begin end is_open = is_after before begin && nat_le begin 4000000 && is_end begin end is_open

-- the one field `open`, where there is no answer
abbrev pub is_open : List (List ℕ) → Bool
is_open fields = length fields == 1 && is_word (codes "open") (field_at 0 fields)

abbrev pub answer_or_open : Kind → List (List ℕ) → Result (Option Answer) Fault
answer_or_open kind fields = if is_open fields then Ok None else with (answer_in kind fields) (λ answer. Ok (Some answer))

-- a call with its answer
abbrev pub answered : Name → Timed → List (List ℕ) → Result CallRec Fault
answered name timed fields =
    with (answer_or_open (kind_of timed.call) fields) (λ answer.
    Ok (record { name = name; call = timed.call; begin = timed.begin; end = timed.end; answer = answer }))

-- a call after the calls above it
abbrev pub placed : List CallRec → Name → Timed → List (List ℕ) → Result CallRec Fault
placed calls name timed fields =
    if is_named name calls then Err (Bad whys.Name)
    else (if is_ordered (begin_before calls) timed.begin timed.end (is_open fields) then answered name timed fields
    else Err (Bad whys.Order))

-- the call of a line whose name was read: the fields up to its end, whether it may stand there, and its answer
abbrev pub call_from : List CallRec → Name → List (List ℕ) → Result CallRec Fault
call_from calls name fields =
    if nat_lt (length fields) 7 then Err (Bad whys.Count)
    else with (timed_in fields) (λ timed. placed calls name timed (fields_from 6 fields))

-- the call of a line
abbrev pub call_line : List CallRec → List (List ℕ) → Result CallRec Fault
call_line calls fields = with (or_bad whys.Word (name_field (field_at 0 fields))) (λ name. call_from calls name fields)

-- the counts of a last line
abbrev pub counts_in : List (List ℕ) → Result Counts Fault
counts_in fields =
    with (or_bad whys.Number (number_field (field_at 1 fields))) (λ calls.
    with (or_bad whys.Number (number_field (field_at 2 fields))) (λ events.
    with (or_bad whys.Number (number_field (field_at 3 fields))) (λ skipped.
    Ok (record { calls = calls; events = events; skipped = skipped }))))

abbrev pub counted_calls : ℕ → Counts → Result Counts Fault
counted_calls calls counts = if counts.calls == calls then Ok counts else Err (Bad whys.End)

-- the last line, after so many calls
abbrev pub end_line : ℕ → List (List ℕ) → Result Counts Fault
end_line calls fields = if length fields == 4 then with (counts_in fields) (counted_calls calls) else Err (Bad whys.Count)

-- what is seen with one more line, of which these are the fields
abbrev pub with_call : List CallRec → Result CallRec Fault → Result Seen Fault
with_call calls read = with read (λ call. Ok (record { calls = calls ++ call ∷ []; ends = None }))

abbrev pub with_end : List CallRec → Result Counts Fault → Result Seen Fault
with_end calls read = with read (λ counts. Ok (record { calls = calls; ends = Some counts }))

abbrev pub line_after : Seen → List (List ℕ) → Result Seen Fault
line_after seen fields =
    if is_some seen.ends then Err (Bad whys.End)
    else (if is_word (codes "end") (field_at 0 fields) then with_end seen.calls (end_line (length seen.calls) fields)
    else with_call seen.calls (call_line seen.calls fields))

-- a line without fields is skipped
abbrev pub after : Seen → List (List ℕ) → Result Seen Fault
after seen [] = Ok seen
after seen (word ∷ more) = line_after seen (word ∷ more)
