-- What is read of a log fits.
use Rattle.std.proofs.Common.{ℕ, ◌≡◌, ◌+◌, ◌≤◌, List, [], ◌∷◌, ◌++◌, length, true, false, inl, inr, refl, sym, ap, subst, ◌∙◌, arith}
use Rattle.std.specs.Prelude.{Option, Some, None, is_some, Result, Ok, IfSome, All, codes, ◌==◌, ◌&&◌, nat_lt, nat_le}
use Rattle.std.proofs.lemmas.Bool.{cases_Bool, and_parts, eqb-true}
use Rattle.std.proofs.lemmas.Bool.Decides.{nat_tests}
use Rattle.std.proofs.lemmas.Grind.{common_steps}
use Rattle.std.proofs.lemmas.List.Elements.{All-append, All-cons, All-nil}
use Rattle.gz_core.specs.Calls.{key_of}
use Rattle.gz_core.specs.Keys.{IsKey}
use Rattle.gz_core.specs.Names.{Name}
use Rattle.gz_core.specs.declared.calls.Answer.{Answer}
use Rattle.gz_core.specs.declared.calls.Call.{Call}
use Rattle.gz_core.specs.declared.calls.Call.TheVariants as calls
use Rattle.gz_core.specs.declared.texts.Why.TheVariants as whys
use Rattle.gz_history.specs.declared.record.CallRec.{CallRec}
use Rattle.gz_text.specs.declared.faults.Fault.{Fault}
use Rattle.gz_text.specs.declared.faults.Fault.TheVariants.{Bad}
use Rattle.gz_text.specs.Faults.{with, or_bad}
use Rattle.gz_text.specs.Fields.{number_field, positive_below, key_field, is_dash, is_word}
use Rattle.gz_text.specs.Names.{name_field}
use Rattle.gz_text.specs.Places.{field_at, fields_from}
use Rattle.gz_text.specs.Texts.{lines, fields_of}
use Rattle.gz_logs.specs.declared.kinds.Kind.{Kind}
use Rattle.gz_logs.specs.declared.kinds.Kind.TheVariants.{Put, Delete, Get, GetAt, Collect}
use Rattle.gz_logs.specs.declared.calls.Timed.{Timed}
use Rattle.gz_logs.specs.declared.lines.Counts.{Counts}
use Rattle.gz_logs.specs.Answers.{version_in, answer_in}
use Rattle.gz_logs.specs.Bytes.{bytes_in}
use Rattle.gz_logs.specs.Calls.{call_in, asked_in, end_in, timed_in}
use Rattle.gz_logs.specs.Fitting.{IsCount, IsArgument, IsEnded, IsCall, FitsLog}
use Rattle.gz_logs.specs.Kinds.{kind_in, kind_of}
use Rattle.gz_logs.specs.Laws.{ReadCanBeWritten}
use Rattle.gz_logs.specs.Lines.{Seen, begin_before, is_after, is_end, is_ordered, is_open, answer_or_open, answered, placed, call_from, call_line, counts_in, counted_calls, end_line, with_call, with_end, line_after, after}
use Rattle.gz_logs.specs.Named.{is_named}
use Rattle.gz_logs.specs.Parsed.{Log, finished, read_from, unread, parsed}
use Rattle.gz_logs.proofs.Choices.{with_ok, same_ok, some_ok, then_ok, else_ok}
use Rattle.gz_logs.proofs.Histories.{reads_history, no_history, same_log, at_line_ok}
use Rattle.gz_logs.proofs.ReadFields.{count_bound, positive_bound, version_bound, name_bound, key_bound, object_bound}
use Rattle.gz_logs.proofs.ReadAnswers.{answer_bound}
use Rattle.gz_logs.proofs.Written.{written_is_read}

-- what was asked
record IsAsked (key : List ℕ) (call : Call) : Type 0 where
  key_is : key ≡ key_of call
  argument : IsArgument call

asked_bound : (kind : Kind) (key argument : List ℕ) (call : Call) → call_in kind key argument ≡ Ok call → IsAsked key call
asked_bound Put key argument call h =
    let bytes = with_ok (bytes_in whys.Bytes argument) (λ bytes. Ok (calls.Put key bytes)) call h in
    subst (IsAsked key) (same_ok (calls.Put key bytes.0) call bytes.1.1) (record { key_is = refl; argument = object_bound whys.Bytes bytes.0 argument bytes.1.0 })
asked_bound Delete key argument call h =
    let dash = then_ok (is_dash argument) (Ok (calls.Delete key)) (Bad whys.Number) call h in
    subst (IsAsked key) (same_ok (calls.Delete key) call dash.1) (record { key_is = refl; argument = tt })
asked_bound Get key argument call h =
    let dash = then_ok (is_dash argument) (Ok (calls.Get key)) (Bad whys.Number) call h in
    subst (IsAsked key) (same_ok (calls.Get key) call dash.1) (record { key_is = refl; argument = tt })
asked_bound GetAt key argument call h =
    let version = with_ok (or_bad whys.Number (version_in argument)) (λ version. Ok (calls.GetAt key version)) call h in
    subst (IsAsked key) (same_ok (calls.GetAt key version.0) call version.1.1)
    (record { key_is = refl; argument = version_bound version.0 argument (some_ok whys.Number (version_in argument) version.0 version.1.0) })
asked_bound Collect key argument call h =
    let keep = with_ok (or_bad whys.Number (positive_below 1001 argument)) (λ keep. Ok (calls.Collect key keep)) call h in
    let bound = positive_bound 1001 keep.0 argument (some_ok whys.Number (positive_below 1001 argument) keep.0 keep.1.0) in
    subst (IsAsked key) (same_ok (calls.Collect key keep.0) call keep.1.1) (record { key_is = refl; argument = (bound.some, omega (arith, bound.below)) })

record IsTimed (timed : Timed) : Type 0 where
  key : IsKey (key_of timed.call)
  argument : IsArgument timed.call

timed_bound : (fields : List (List ℕ)) (timed : Timed) → timed_in fields ≡ Ok timed → IsTimed timed
timed_bound fields timed h =
    let call = with_ok (asked_in fields) _ timed h in
    let begin = with_ok (or_bad whys.Number (number_field (field_at 4 fields))) _ timed call.1.1 in
    let end = with_ok (end_in (field_at 5 fields)) _ timed begin.1.1 in
    let kind = with_ok (or_bad whys.Word (kind_in (field_at 1 fields))) _ call.0 call.1.0 in
    let key = with_ok (or_bad whys.Key (key_field (field_at 2 fields))) _ call.0 kind.1.1 in
    let asked = asked_bound kind.0 key.0 (field_at 3 fields) call.0 key.1.1 in
    let is_key = key_bound key.0 (field_at 2 fields) (some_ok whys.Key (key_field (field_at 2 fields)) key.0 key.1.0) in
    subst IsTimed (same_ok (record { call = call.0; begin = begin.0; end = end.0 }) timed end.1.1) (record { key = subst IsKey asked.key_is is_key; argument = asked.argument })

-- an end exactly where there is an answer
open_bound : (kind : Kind) (begin : ℕ) (end : Option ℕ) → is_end begin end true ≡ true → IsEnded kind end None
open_bound kind begin None h = tt
open_bound kind begin (Some end) h = absurd (grind (arith, common_steps))

told_ended : (kind : Kind) (begin : ℕ) (end : Option ℕ) (fields : List (List ℕ)) (a : Answer) → is_end begin end false ≡ true → answer_in kind fields ≡ Ok a → IsEnded kind end (Some a)
told_ended kind begin None fields a h read = absurd (cc)
told_ended kind begin (Some end) fields a h read =
    let most : end ≤ 4000000 = grind (arith, nat_tests, common_steps) in
    (most, answer_bound kind fields a read)

ended_bound : (kind : Kind) (begin : ℕ) (end : Option ℕ) (fields : List (List ℕ)) (answer : Option Answer) → is_end begin end (is_open fields) ≡ true → answer_or_open kind fields ≡ Ok answer → IsEnded kind end answer
ended_bound kind begin end fields answer h read =
    elim (cases_Bool (is_open fields)) [
      | inl none ↦ (let test : is_end begin end true ≡ true = ap (is_end begin end) (sym none) ∙ h in
          let same : ◌≡◌ {A = Result (Option Answer) Fault} (Ok None) (Ok answer) = grind (arith, common_steps) in
          subst (IsEnded kind end) (same_ok None answer same) (open_bound kind begin end test))
      | inr other ↦ (let test : is_end begin end false ≡ true = ap (is_end begin end) (sym other) ∙ h in
          let asked : with (answer_in kind fields) (λ a. Ok (Some a)) ≡ Ok answer = grind (arith, common_steps) in
          let a = with_ok (answer_in kind fields) (λ a. Ok (Some a)) answer asked in
          subst (IsEnded kind end) (same_ok (Some a.0) answer a.1.1) (told_ended kind begin end fields a.0 test a.1.0))
    ]

-- a call
placed_bound : (before : List CallRec) (name : Name) (timed : Timed) (fields : List (List ℕ)) (c : CallRec) → placed before name timed fields ≡ Ok c → IsTimed timed
    → (n : List ℕ) → name_field n ≡ Some name → IsCall c
placed_bound before name timed fields c h is n named =
    let new = else_ok (is_named name before) _ (Bad whys.Name) c h in
    let ordered = then_ok (is_ordered (begin_before before) timed.begin timed.end (is_open fields)) (answered name timed fields) (Bad whys.Order) c new.1 in
    let ticks = and_parts (is_after (begin_before before) timed.begin && nat_le timed.begin 4000000) (is_end timed.begin timed.end (is_open fields)) ordered.0 in
    let first = and_parts (is_after (begin_before before) timed.begin) (nat_le timed.begin 4000000) ticks.0 in
    let answer = with_ok (answer_or_open (kind_of timed.call) fields) (λ answer. Ok (record { name = name; call = timed.call; begin = timed.begin; end = timed.end; answer = answer })) c ordered.1 in
    subst IsCall (same_ok (record { name = name; call = timed.call; begin = timed.begin; end = timed.end; answer = answer.0 }) c answer.1.1)
    (record {
      name = name_bound name n named;
      key = is.key;
      argument = is.argument;
      begin = grind (arith, nat_tests, first.1);
      ended = ended_bound (kind_of timed.call) timed.begin timed.end fields answer.0 ticks.1 answer.1.0;
    })

call_bound : (before : List CallRec) (fields : List (List ℕ)) (c : CallRec) → call_line before fields ≡ Ok c → IsCall c
call_bound before fields c h =
    let name = with_ok (or_bad whys.Word (name_field (field_at 0 fields))) (λ name. call_from before name fields) c h in
    let seven = else_ok (nat_lt (length fields) 7) _ (Bad whys.Count) c name.1.1 in
    let timed = with_ok (timed_in fields) (λ timed. placed before name.0 timed (fields_from 6 fields)) c seven.1 in
    placed_bound before name.0 timed.0 (fields_from 6 fields) c timed.1.1 (timed_bound fields timed.0 timed.1.0)
    (field_at 0 fields) (some_ok whys.Word (name_field (field_at 0 fields)) name.0 name.1.0)

-- the counts of the last line
record AreCounted (calls : List CallRec) (counts : Counts) : Type 0 where
  counted : IsCount (length calls)
  events : IsCount counts.events
  skipped : IsCount counts.skipped

counts_bound : (before : List CallRec) (fields : List (List ℕ)) (counts : Counts) → end_line (length before) fields ≡ Ok counts → AreCounted before counts
counts_bound before fields counts h =
    let four = then_ok (length fields == 4) (with (counts_in fields) (counted_calls (length before))) (Bad whys.Count) counts h in
    let read = with_ok (counts_in fields) (counted_calls (length before)) counts four.1 in
    let counted = then_ok (read.0.calls == length before) (Ok read.0) (Bad whys.End) counts read.1.1 in
    let all = with_ok (or_bad whys.Number (number_field (field_at 1 fields))) _ read.0 read.1.0 in
    let events = with_ok (or_bad whys.Number (number_field (field_at 2 fields))) _ read.0 all.1.1 in
    let skipped = with_ok (or_bad whys.Number (number_field (field_at 3 fields))) _ read.0 events.1.1 in
    let same = same_ok (record { calls = all.0; events = events.0; skipped = skipped.0 }) read.0 skipped.1.1 in
    let many : all.0 ≡ length before = ap (λ (k : Counts). k.calls) same ∙ eqb-true read.0.calls (length before) counted.0 in
    let whole : record { calls = all.0; events = events.0; skipped = skipped.0 } ≡ counts = same ∙ same_ok read.0 counts counted.1 in
    subst (AreCounted before) whole (record {
      counted = subst IsCount many (count_bound all.0 (field_at 1 fields) (some_ok whys.Number (number_field (field_at 1 fields)) all.0 all.1.0));
      events = count_bound events.0 (field_at 2 fields) (some_ok whys.Number (number_field (field_at 2 fields)) events.0 events.1.0);
      skipped = count_bound skipped.0 (field_at 3 fields) (some_ok whys.Number (number_field (field_at 3 fields)) skipped.0 skipped.1.0);
    })

-- what was seen is within bounds
record IsSeen (seen : Seen) : Type 0 where
  calls : All IsCall seen.calls
  ends : IfSome seen.ends (AreCounted seen.calls)

line_bound : (seen next : Seen) (fields : List (List ℕ)) → IsSeen seen → line_after seen fields ≡ Ok next → IsSeen next
line_bound seen next fields h e =
    elim (cases_Bool (is_some seen.ends)) [
      | inl ended ↦ absurd (grind (arith, common_steps))
      | inr going ↦ elim (cases_Bool (is_word (codes "end") (field_at 0 fields))) [
        | inl last ↦ (let read : with_end seen.calls (end_line (length seen.calls) fields) ≡ Ok next = grind (arith, common_steps) in
            let counts = with_ok (end_line (length seen.calls) fields) (λ counts. Ok (record { calls = seen.calls; ends = Some counts })) next read in
            subst IsSeen (same_ok (record { calls = seen.calls; ends = Some counts.0 }) next counts.1.1)
            (record { calls = h.calls; ends = counts_bound seen.calls fields counts.0 counts.1.0 }))
        | inr other ↦ (let read : with_call seen.calls (call_line seen.calls fields) ≡ Ok next = grind (arith, common_steps) in
            let call = with_ok (call_line seen.calls fields) (λ call. Ok (record { calls = seen.calls ++ call ∷ []; ends = None })) next read in
            let one = call_bound seen.calls fields call.0 call.1.0 in
            subst IsSeen (same_ok (record { calls = seen.calls ++ call.0 ∷ []; ends = None }) next call.1.1)
            (record { calls = All-append IsCall seen.calls (call.0 ∷ []) h.calls (All-cons IsCall call.0 [] one (All-nil IsCall)); ends = tt }))
      ]
    ]

after_bound : (seen next : Seen) (fields : List (List ℕ)) → IsSeen seen → after seen fields ≡ Ok next → IsSeen next
after_bound seen next [] h e = subst IsSeen (same_ok seen next e) h
after_bound seen next (word ∷ more) h e = line_bound seen next (word ∷ more) h e

-- the log that was read
record IsLog (log : Log) : Type 0 where
  calls : All IsCall log.calls
  counted : IsCount (length log.calls)
  events : IsCount log.events
  skipped : IsCount log.skipped

finished_bound : (line : ℕ) (before : List CallRec) (ends : Option Counts) (log : Log) → IsSeen (record { calls = before; ends = ends }) → finished line before ends ≡ Ok log → IsLog log
finished_bound line before None log h e = absurd (cc)
finished_bound line before (Some counts) log h e =
    let counted = h.ends in
    subst IsLog (same_log (record { calls = before; events = counts.events; skipped = counts.skipped }) log e)
    (record { calls = h.calls; counted = counted.counted; events = counted.events; skipped = counted.skipped })

reads_bound : (line : ℕ) (seen : Seen) (texts : List (List ℕ)) (log : Log) → IsSeen seen → read_from line seen texts ≡ Ok log → IsLog log
reads_bound line seen [] log h e = finished_bound line seen.calls seen.ends log h e
reads_bound line seen (text ∷ texts) log h e =
    let read = at_line_ok line (after seen (fields_of text)) (λ next. read_from (line + 1) next texts) log e in
    reads_bound (line + 1) read.0 texts log (after_bound seen read.0 (fields_of text) h read.1.0) read.1.1

fits : (text : List ℕ) (log : Log) → parsed text ≡ Ok log → FitsLog log.calls log.events log.skipped
fits text log h =
    let is = reads_bound 1 unread (lines text) log (record { calls = All-nil IsCall; ends = tt }) h in
    record {
      history = reads_history 1 unread (lines text) log no_history h;
      each = is.calls;
      counted = is.counted;
      events_counted = is.events;
      skipped_counted = is.skipped;
    }

pub read_can_be_written : ReadCanBeWritten
read_can_be_written text log h = (fits text log h, written_is_read log.calls log.events log.skipped (fits text log h))
