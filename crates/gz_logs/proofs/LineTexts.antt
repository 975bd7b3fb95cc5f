-- Lines are read as they are written.
use Rattle.std.proofs.Common.{ℕ, ◌≡◌, List, ◌∷◌, ◌++◌, length, true, false, inl, inr, refl, ap, subst, ◌∙◌, append_assoc, arith}
use Rattle.std.specs.Prelude.{Option, Some, None, Ok, decimal, codes, nat_lt, ◌==◌}
use Rattle.std.proofs.lemmas.Bool.{eqb-true, and_parts}
use Rattle.gz_core.specs.Names.{Name}
use Rattle.gz_core.specs.Calls.{key_of}
use Rattle.gz_core.specs.declared.calls.Answer.{Answer}
use Rattle.gz_core.specs.declared.calls.Call.{Call}
use Rattle.gz_core.specs.declared.calls.Call.TheVariants as calls
use Rattle.gz_core.specs.declared.texts.Why.TheVariants as whys
use Rattle.gz_history.specs.declared.record.CallRec.{CallRec}
use Rattle.gz_history.specs.Log.{name_text, kind_text, argument_text, tick_text, answer_text, line_text, end_text}
use Rattle.gz_text.specs.declared.faults.Fault.TheVariants.{Bad}
use Rattle.gz_text.specs.Faults.{with, or_bad}
use Rattle.gz_text.specs.Fields.{number_field, positive_below, key_field, is_dash, is_word}
use Rattle.gz_text.specs.Names.{name_field}
use Rattle.gz_text.specs.Places.{field_at, fields_from}
use Rattle.gz_logs.specs.declared.kinds.Kind.{Kind}
use Rattle.gz_logs.specs.declared.kinds.Kind.TheVariants.{Put, Delete, Get, GetAt, Collect}
use Rattle.gz_logs.specs.declared.calls.Timed.{Timed}
use Rattle.gz_logs.specs.declared.lines.Counts.{Counts}
use Rattle.gz_logs.specs.Answers.{version_in, answer_in}
use Rattle.gz_logs.specs.Bytes.{bytes_in}
use Rattle.gz_logs.specs.Calls.{call_in, asked_in, end_in, timed_in}
use Rattle.gz_logs.specs.Kinds.{kind_in, kind_of}
use Rattle.gz_logs.specs.Lines.{begin_before, is_ordered, is_open, answer_or_open, answered, placed, call_from, call_line, counts_in, counted_calls, end_line}
use Rattle.gz_logs.specs.Named.{is_named}
use Rattle.gz_logs.proofs.Choices.{with_ok, same_ok, word_read, some_ok, then_ok, else_ok, either_ok, no_some, one_word}
use Rattle.gz_logs.proofs.FieldTexts.{number_text, positive_text, version_text, key_text, name_read}
use Rattle.gz_logs.proofs.BytesTexts.{bytes_read}
use Rattle.gz_logs.proofs.AnswerTexts.{answer_read}
use Rattle.gz_logs.proofs.Joined.{joined, joined_one, joined_four, joined_seven, same_four, same_seven}

-- the words of the kinds of calls
abbrev kind_word : Kind → List ℕ
kind_word Put = codes "put"
kind_word Delete = codes "delete"
kind_word Get = codes "get"
kind_word GetAt = codes "getat"
kind_word Collect = codes "collect"

kind_read : (word : List ℕ) (kind : Kind) → kind_in word ≡ Some kind → word ≡ kind_word kind
kind_read word kind =
    one_word kind_word word Put _ kind
    (one_word kind_word word Delete _ kind
    (one_word kind_word word Get _ kind
    (one_word kind_word word GetAt _ kind
    (one_word kind_word word Collect None kind (no_some (word ≡ kind_word kind) kind)))))

-- what was asked
record AskedAs (kind : Kind) (key argument : List ℕ) (call : Call) : Type 0 where
  kind_is : kind_word kind ≡ kind_text call
  key_is : key ≡ key_of call
  argument_is : argument ≡ argument_text call

call_asked : (kind : Kind) (key argument : List ℕ) (call : Call) → call_in kind key argument ≡ Ok call → AskedAs kind key argument call
call_asked Put key argument call h =
    let bytes = with_ok (bytes_in whys.Bytes argument) (λ bytes. Ok (calls.Put key bytes)) call h in
    subst (λ (c : Call). AskedAs Put key argument c) (same_ok (calls.Put key bytes.0) call bytes.1.1)
    (record { kind_is = refl; key_is = refl; argument_is = bytes_read whys.Bytes bytes.0 argument bytes.1.0 })
call_asked Delete key argument call h =
    let dash = then_ok (is_dash argument) (Ok (calls.Delete key)) (Bad whys.Number) call h in
    subst (λ (c : Call). AskedAs Delete key argument c) (same_ok (calls.Delete key) call dash.1)
    (record { kind_is = refl; key_is = refl; argument_is = word_read (codes "-") argument dash.0 })
call_asked Get key argument call h =
    let dash = then_ok (is_dash argument) (Ok (calls.Get key)) (Bad whys.Number) call h in
    subst (λ (c : Call). AskedAs Get key argument c) (same_ok (calls.Get key) call dash.1)
    (record { kind_is = refl; key_is = refl; argument_is = word_read (codes "-") argument dash.0 })
call_asked GetAt key argument call h =
    let version = with_ok (or_bad whys.Number (version_in argument)) (λ version. Ok (calls.GetAt key version)) call h in
    subst (λ (c : Call). AskedAs GetAt key argument c) (same_ok (calls.GetAt key version.0) call version.1.1)
    (record { kind_is = refl; key_is = refl; argument_is = version_text version.0 argument (some_ok whys.Number (version_in argument) version.0 version.1.0) })
call_asked Collect key argument call h =
    let keep = with_ok (or_bad whys.Number (positive_below 1001 argument)) (λ keep. Ok (calls.Collect key keep)) call h in
    subst (λ (c : Call). AskedAs Collect key argument c) (same_ok (calls.Collect key keep.0) call keep.1.1)
    (record { kind_is = refl; key_is = refl; argument_is = positive_text 1001 keep.0 argument (omega arith) (some_ok whys.Number (positive_below 1001 argument) keep.0 keep.1.0) })

tick_read : (tick : Option ℕ) (field : List ℕ) → end_in field ≡ Ok tick → field ≡ tick_text tick
tick_read tick field h =
    elim (either_ok (is_dash field) None _ tick h) [
      | inl dash ↦ word_read (codes "-") field dash.0 ∙ ap tick_text dash.1
      | inr other ↦ (let n = with_ok (or_bad whys.Number (number_field field)) (λ tick. Ok (Some tick)) tick other in
          number_text n.0 field (some_ok whys.Number (number_field field) n.0 n.1.0) ∙ ap tick_text (same_ok (Some n.0) tick n.1.1))
    ]

-- the fields of a call up to its end
record TimedAs (fields : List (List ℕ)) (timed : Timed) : Type 0 where
  kind_is : field_at 1 fields ≡ kind_text timed.call
  key_is : field_at 2 fields ≡ key_of timed.call
  argument_is : field_at 3 fields ≡ argument_text timed.call
  begin_is : field_at 4 fields ≡ decimal timed.begin
  end_is : field_at 5 fields ≡ tick_text timed.end

timed_read : (fields : List (List ℕ)) (timed : Timed) → timed_in fields ≡ Ok timed → TimedAs fields timed
timed_read fields timed h =
    let call = with_ok (asked_in fields) _ timed h in
    let begin = with_ok (or_bad whys.Number (number_field (field_at 4 fields))) _ timed call.1.1 in
    let end = with_ok (end_in (field_at 5 fields)) _ timed begin.1.1 in
    let kind = with_ok (or_bad whys.Word (kind_in (field_at 1 fields))) _ call.0 call.1.0 in
    let key = with_ok (or_bad whys.Key (key_field (field_at 2 fields))) _ call.0 kind.1.1 in
    let asked = call_asked kind.0 key.0 (field_at 3 fields) call.0 key.1.1 in
    subst (λ (t : Timed). TimedAs fields t) (same_ok (record { call = call.0; begin = begin.0; end = end.0 }) timed end.1.1)
    (record {
      kind_is = kind_read (field_at 1 fields) kind.0 (some_ok whys.Word (kind_in (field_at 1 fields)) kind.0 kind.1.0) ∙ asked.kind_is;
      key_is = key_text key.0 (field_at 2 fields) (some_ok whys.Key (key_field (field_at 2 fields)) key.0 key.1.0) ∙ asked.key_is;
      argument_is = asked.argument_is;
      begin_is = number_text begin.0 (field_at 4 fields) (some_ok whys.Number (number_field (field_at 4 fields)) begin.0 begin.1.0);
      end_is = tick_read end.0 (field_at 5 fields) end.1.0;
    })

-- an answer, or none
open_read : (kind : Kind) (fields : List (List ℕ)) (answer : Option Answer) → answer_or_open kind fields ≡ Ok answer → joined fields ≡ answer_text answer
open_read kind fields answer h =
    elim (either_ok (is_open fields) None _ answer h) [
      | inl none ↦ (let parts = and_parts (length fields == 1) (is_word (codes "open") (field_at 0 fields)) none.0 in
          joined_one fields parts.0 ∙ word_read (codes "open") (field_at 0 fields) parts.1 ∙ ap answer_text none.1)
      | inr other ↦ (let a = with_ok (answer_in kind fields) (λ answer. Ok (Some answer)) answer other in
          answer_read kind fields a.0 a.1.0 ∙ ap answer_text (same_ok (Some a.0) answer a.1.1))
    ]

-- seven texts with a blank between, and LF
pub line_of_seven : (a b c d e f g : List ℕ) → (a ++ 32 ∷ (b ++ 32 ∷ (c ++ 32 ∷ (d ++ 32 ∷ (e ++ 32 ∷ (f ++ 32 ∷ g)))))) ++ codes "\n"
    ≡ (a ++ codes " " ++ b ++ codes " " ++ c ++ codes " " ++ d) ++ codes " " ++ e ++ codes " " ++ f ++ codes " " ++ g ++ codes "\n"
line_of_seven a b c d e f g = simp append_assoc refl

placed_text : (calls : List CallRec) (name : Name) (timed : Timed) (fields : List (List ℕ)) (c : CallRec) → placed calls name timed (fields_from 6 fields) ≡ Ok c
    → nat_lt (length fields) 7 ≡ false → field_at 0 fields ≡ name_text name → TimedAs fields timed → joined fields ++ codes "\n" ≡ line_text c
placed_text calls name timed fields c h seven first timed_as =
    let rest = fields_from 6 fields in
    let new = else_ok (is_named name calls) _ (Bad whys.Name) c h in
    let ordered = then_ok (is_ordered (begin_before calls) timed.begin timed.end (is_open rest)) (answered name timed rest) (Bad whys.Order) c new.1 in
    let answer = with_ok (answer_or_open (kind_of timed.call) rest) (λ answer. Ok (record { name = name; call = timed.call; begin = timed.begin; end = timed.end; answer = answer })) c ordered.1 in
    let last = open_read (kind_of timed.call) rest answer.0 answer.1.0 in
    ap (λ (x : List ℕ). x ++ codes "\n") (joined_seven fields seven)
    ∙ ap (λ (x : List ℕ). x ++ codes "\n") (same_seven _ _ _ _ _ _ _ (name_text name) (kind_text timed.call) (key_of timed.call) (argument_text timed.call) (decimal timed.begin) (tick_text timed.end) (answer_text answer.0)
    first timed_as.kind_is timed_as.key_is timed_as.argument_is timed_as.begin_is timed_as.end_is last)
    ∙ line_of_seven (name_text name) (kind_text timed.call) (key_of timed.call) (argument_text timed.call) (decimal timed.begin) (tick_text timed.end) (answer_text answer.0)
    ∙ ap line_text (same_ok (record { name = name; call = timed.call; begin = timed.begin; end = timed.end; answer = answer.0 }) c answer.1.1)

pub call_text : (calls : List CallRec) (fields : List (List ℕ)) (c : CallRec) → call_line calls fields ≡ Ok c → joined fields ++ codes "\n" ≡ line_text c
call_text calls fields c h =
    let name = with_ok (or_bad whys.Word (name_field (field_at 0 fields))) (λ name. call_from calls name fields) c h in
    let seven = else_ok (nat_lt (length fields) 7) _ (Bad whys.Count) c name.1.1 in
    let timed = with_ok (timed_in fields) (λ timed. placed calls name.0 timed (fields_from 6 fields)) c seven.1 in
    placed_text calls name.0 timed.0 fields c timed.1.1 seven.0
    (name_read name.0 (field_at 0 fields) (some_ok whys.Word (name_field (field_at 0 fields)) name.0 name.1.0)) (timed_read fields timed.0 timed.1.0)

-- the last line
pub line_of_four : (a b c d : List ℕ) → (a ++ 32 ∷ (b ++ 32 ∷ (c ++ 32 ∷ d))) ++ codes "\n" ≡ a ++ codes " " ++ b ++ codes " " ++ c ++ codes " " ++ d ++ codes "\n"
line_of_four a b c d = simp append_assoc refl

pub end_read : (calls : ℕ) (fields : List (List ℕ)) (counts : Counts) → is_word (codes "end") (field_at 0 fields) ≡ true → end_line calls fields ≡ Ok counts
    → joined fields ++ codes "\n" ≡ end_text calls counts.events counts.skipped
end_read calls fields counts word h =
    let four = then_ok (length fields == 4) (with (counts_in fields) (counted_calls calls)) (Bad whys.Count) counts h in
    let read = with_ok (counts_in fields) (counted_calls calls) counts four.1 in
    let counted = then_ok (read.0.calls == calls) (Ok read.0) (Bad whys.End) counts read.1.1 in
    let all = with_ok (or_bad whys.Number (number_field (field_at 1 fields))) _ read.0 read.1.0 in
    let events = with_ok (or_bad whys.Number (number_field (field_at 2 fields))) _ read.0 all.1.1 in
    let skipped = with_ok (or_bad whys.Number (number_field (field_at 3 fields))) _ read.0 events.1.1 in
    let same = same_ok (record { calls = all.0; events = events.0; skipped = skipped.0 }) read.0 skipped.1.1 in
    let a = word_read (codes "end") (field_at 0 fields) word in
    let b = number_text all.0 (field_at 1 fields) (some_ok whys.Number (number_field (field_at 1 fields)) all.0 all.1.0) in
    let c = number_text events.0 (field_at 2 fields) (some_ok whys.Number (number_field (field_at 2 fields)) events.0 events.1.0) in
    let d = number_text skipped.0 (field_at 3 fields) (some_ok whys.Number (number_field (field_at 3 fields)) skipped.0 skipped.1.0) in
    ap (λ (x : List ℕ). x ++ codes "\n") (joined_four fields four.0)
    ∙ ap (λ (x : List ℕ). x ++ codes "\n") (same_four _ _ _ _ (codes "end") (decimal all.0) (decimal events.0) (decimal skipped.0) a b c d)
    ∙ line_of_four (codes "end") (decimal all.0) (decimal events.0) (decimal skipped.0)
    ∙ ap (λ (k : Counts). end_text k.calls k.events k.skipped) same
    ∙ ap (λ (n : ℕ). end_text n read.0.events read.0.skipped) (eqb-true read.0.calls calls counted.0)
    ∙ ap (λ (k : Counts). end_text calls k.events k.skipped) (same_ok read.0 counts counted.1)
