-- A line of a log is words with blanks between, and these words are read as its call, or as the counts.
use Rattle.std.proofs.Common.{ℕ, ◌≡◌, ◌<◌, ◌≤◌, List, [], ◌∷◌, ◌++◌, length, get_or, Bool, true, false, inl, inr, refl, ap, ◌∙◌, arith}
use Rattle.std.specs.Prelude.{◌==◌, ◌&&◌, nat_lt, nat_le, Option, Some, None, is_none, Result, Ok, Err, decimal, codes, if◌then◌else◌}
use Rattle.std.specs.Char.{is_ascii_digit}
use Rattle.std.proofs.lemmas.Bool.{cases_Bool}
use Rattle.std.proofs.lemmas.Bool.Decides.{nat_tests}
use Rattle.std.proofs.lemmas.Grind.{common_steps}
use Rattle.gz_core.specs.Names.{Name}
use Rattle.gz_core.specs.Calls.{key_of}
use Rattle.gz_core.specs.declared.calls.Answer.{Answer}
use Rattle.gz_core.specs.declared.calls.Answer.TheVariants as answers
use Rattle.gz_core.specs.declared.calls.Call.{Call}
use Rattle.gz_core.specs.declared.calls.Call.TheVariants as calls
use Rattle.gz_core.specs.declared.texts.Why.TheVariants as whys
use Rattle.gz_history.specs.Broken.{EndsLater}
use Rattle.gz_history.specs.Log.{name_text, kind_text, argument_text, tick_text, answer_text, line_text, end_text}
use Rattle.gz_history.specs.declared.record.CallRec.{CallRec}
use Rattle.gz_text.specs.declared.faults.Fault.{Fault}
use Rattle.gz_text.specs.declared.faults.Fault.TheVariants.{Bad}
use Rattle.gz_text.specs.Faults.{with, or_bad}
use Rattle.gz_text.specs.Fields.{number_field, key_field, is_dash, is_word}
use Rattle.gz_text.specs.Places.{fields_from}
use Rattle.gz_logs.specs.declared.kinds.Kind.{Kind}
use Rattle.gz_logs.specs.declared.calls.Timed.{Timed}
use Rattle.gz_logs.specs.Calls.{call_in, asked_in, end_in, timed_in}
use Rattle.gz_logs.specs.Fitting.{IsCount, IsArgument, IsEnded, IsCall}
use Rattle.gz_logs.specs.Kinds.{kind_in, kind_of}
use Rattle.gz_logs.specs.Lines.{begin_before, is_after, is_end, is_ordered, is_open, answered, placed, call_from, call_line, counted_calls, end_line}
use Rattle.gz_logs.specs.Named.{is_named}
use Rattle.gz_logs.proofs.Choices.{word_read}
use Rattle.gz_logs.proofs.Joined.{joined}
use Rattle.gz_logs.proofs.LineTexts.{line_of_seven, line_of_four}
use Rattle.gz_logs.proofs.Words.{IsWord, AreWords, both_pass}
use Rattle.gz_logs.proofs.WrittenFields.{decimal_word, positive_read, count_read, version_read, name_of, name_word, name_begins, decimal_begins, key_word, key_read, bytes_word, bytes_read_back}
use Rattle.gz_logs.proofs.WrittenAnswers.{told_words, answer_words, answer_joined, answer_words_are, open_where, ended_back}

-- the words of a call, and of the last line
abbrev pub call_words : CallRec → List (List ℕ)
call_words c = name_text c.name ∷ kind_text c.call ∷ key_of c.call ∷ argument_text c.call ∷ decimal c.begin ∷ tick_text c.end ∷ answer_words c.answer

abbrev pub end_words : ℕ → ℕ → ℕ → List (List ℕ)
end_words calls events skipped = codes "end" ∷ decimal calls ∷ decimal events ∷ decimal skipped ∷ []

-- with blanks between they are the lines
six_told : (a b c d e f : List ℕ) (answer : Answer)
    → joined (a ∷ b ∷ c ∷ d ∷ e ∷ f ∷ told_words answer) ≡ a ++ 32 ∷ (b ++ 32 ∷ (c ++ 32 ∷ (d ++ 32 ∷ (e ++ 32 ∷ (f ++ 32 ∷ joined (told_words answer))))))
six_told a b c d e f (answers.Ok version) = refl
six_told a b c d e f (answers.Thin version stored) = refl
six_told a b c d e f (answers.Short stored) = refl
six_told a b c d e f (answers.Bytes version name bytes) = refl
six_told a b c d e f (answers.Incomplete version name fates) = refl
six_told a b c d e f (answers.Gone version name) = refl
six_told a b c d e f answers.Absent = refl
six_told a b c d e f (answers.Unborn latest) = refl
six_told a b c d e f (answers.Collected floor) = refl
six_told a b c d e f (answers.Swept floor dropped) = refl
six_told a b c d e f (answers.Held why) = refl
six_told a b c d e f (answers.NoQuorum phase heard) = refl
six_told a b c d e f (answers.Contended met) = refl
six_told a b c d e f (answers.Unsure why) = refl

six_joined : (a b c d e f : List ℕ) (answer : Option Answer)
    → joined (a ∷ b ∷ c ∷ d ∷ e ∷ f ∷ answer_words answer) ≡ a ++ 32 ∷ (b ++ 32 ∷ (c ++ 32 ∷ (d ++ 32 ∷ (e ++ 32 ∷ (f ++ 32 ∷ joined (answer_words answer))))))
six_joined a b c d e f None = refl
six_joined a b c d e f (Some answer) = six_told a b c d e f answer

pub call_joined : (c : CallRec) → joined (call_words c) ++ codes "\n" ≡ line_text c
call_joined c =
    let a = name_text c.name in
    let b = kind_text c.call in
    let k = key_of c.call in
    let d = argument_text c.call in
    let e = decimal c.begin in
    let f = tick_text c.end in
    ap (λ (x : List ℕ). x ++ codes "\n") (six_joined a b k d e f c.answer)
    ∙ ap (λ (g : List ℕ). (a ++ 32 ∷ (b ++ 32 ∷ (k ++ 32 ∷ (d ++ 32 ∷ (e ++ 32 ∷ (f ++ 32 ∷ g)))))) ++ codes "\n") (answer_joined c.answer)
    ∙ line_of_seven a b k d e f (answer_text c.answer)

pub end_joined : (calls events skipped : ℕ) → joined (end_words calls events skipped) ++ codes "\n" ≡ end_text calls events skipped
end_joined calls events skipped = line_of_four (codes "end") (decimal calls) (decimal events) (decimal skipped)

-- they are words
kind_word : (call : Call) → IsWord (kind_text call)
kind_word (calls.Put key bytes) = record { some = omega arith; printable = refl }
kind_word (calls.Delete key) = record { some = omega arith; printable = refl }
kind_word (calls.Get key) = record { some = omega arith; printable = refl }
kind_word (calls.GetAt key version) = record { some = omega arith; printable = refl }
kind_word (calls.Collect key keep) = record { some = omega arith; printable = refl }

argument_word : (call : Call) → IsArgument call → IsWord (argument_text call)
argument_word (calls.Put key bytes) h = bytes_word bytes h.bytes_are
argument_word (calls.Delete key) h = record { some = omega arith; printable = refl }
argument_word (calls.Get key) h = record { some = omega arith; printable = refl }
argument_word (calls.GetAt key version) h = decimal_word version (omega (arith, h.bounded))
argument_word (calls.Collect key keep) h = decimal_word keep (omega (arith, h.1))

-- a tick within the most events
ended_by : (kind : Kind) (end : ℕ) (answer : Option Answer) → IsEnded kind (Some end) answer → end ≤ 4000000
ended_by kind end None h = absurd h
ended_by kind end (Some answer) h = h.0

end_word : (kind : Kind) (end : Option ℕ) (answer : Option Answer) → IsEnded kind end answer → IsWord (tick_text end)
end_word kind None answer h = record { some = omega arith; printable = refl }
end_word kind (Some end) answer h = decimal_word end (omega (arith, ended_by kind end answer h))

pub call_words_are : (c : CallRec) → IsCall c → AreWords (call_words c)
call_words_are c h = (
  name_word c.name h.name,
  (
    kind_word c.call,
    (
      key_word (key_of c.call) h.key,
      (
        argument_word c.call h.argument,
        (
          decimal_word c.begin (omega (arith, h.begin)),
          (end_word (kind_of c.call) c.end c.answer h.ended, answer_words_are (kind_of c.call) c.end c.answer h.ended),
        ),
      ),
    ),
  ),
)

pub end_words_are : (calls events skipped : ℕ) → IsCount calls → IsCount events → IsCount skipped → AreWords (end_words calls events skipped)
end_words_are calls events skipped h i j = (
  record { some = omega arith; printable = refl },
  (decimal_word calls (omega (arith, h)), (decimal_word events (omega (arith, i)), (decimal_word skipped (omega (arith, j)), tt))),
)

-- what was asked is read
kind_back : (call : Call) → kind_in (kind_text call) ≡ Some (kind_of call)
kind_back (calls.Put key bytes) = refl
kind_back (calls.Delete key) = refl
kind_back (calls.Get key) = refl
kind_back (calls.GetAt key version) = refl
kind_back (calls.Collect key keep) = refl

argument_back : (call : Call) → IsArgument call → call_in (kind_of call) (key_of call) (argument_text call) ≡ Ok call
argument_back (calls.Put key bytes) h = ap (λ (r : Result (List ℕ) Fault). with r (λ found. Ok (calls.Put key found))) (bytes_read_back whys.Bytes bytes h)
argument_back (calls.Delete key) h = refl
argument_back (calls.Get key) h = refl
argument_back (calls.GetAt key version) h = ap (λ (o : Option ℕ). with (or_bad whys.Number o) (λ v. Ok (calls.GetAt key v))) (version_read version h)
argument_back (calls.Collect key keep) h =
    ap (λ (o : Option ℕ). with (or_bad whys.Number o) (λ n. Ok (calls.Collect key n))) (positive_read 1001 keep h.0 (omega (arith, h.1)) (omega arith))

asked_back : (c : CallRec) → IsCall c → asked_in (call_words c) ≡ Ok c.call
asked_back c h =
    ap (λ (o : Option Kind). with (or_bad whys.Word o) (λ kind. with (or_bad whys.Key (key_field (key_of c.call))) (λ key. call_in kind key (argument_text c.call)))) (kind_back c.call)
    ∙ ap (λ (o : Option (List ℕ)). with (or_bad whys.Key o) (λ key. call_in (kind_of c.call) key (argument_text c.call))) (key_read (key_of c.call) h.key)
    ∙ argument_back c.call h.argument

digit_is_no_sign : (b : ℕ) → is_ascii_digit b ≡ true → (b == 35) ≡ false
digit_is_no_sign b h = grind (arith, nat_tests, common_steps)

-- a text that begins with a digit is no word that begins with another character
starts_apart : (word field : List ℕ) → is_ascii_digit (get_or word 0 0) ≡ false → is_ascii_digit (get_or field 0 0) ≡ true → is_word word field ≡ false
starts_apart word field h digit =
    elim (cases_Bool (is_word word field)) [
      | inl same ↦ (let e = word_read word field same in absurd (cc))
      | inr other ↦ other
    ]

no_dash : (n : ℕ) → IsCount n → is_dash (decimal n) ≡ false
no_dash n h = starts_apart (codes "-") (decimal n) refl (decimal_begins n (omega (arith, h)))

tick_back : (kind : Kind) (end : Option ℕ) (answer : Option Answer) → IsEnded kind end answer → end_in (tick_text end) ≡ Ok end
tick_back kind None answer h = refl
tick_back kind (Some end) answer h =
    let counted : IsCount end = omega (arith, ended_by kind end answer h) in
    ap (λ (t : Bool). if t then Ok None else with (or_bad whys.Number (number_field (decimal end))) (λ tick. Ok (Some tick))) (no_dash end counted)
    ∙ ap (λ (o : Option ℕ). with (or_bad whys.Number o) (λ tick. Ok (Some tick))) (count_read end counted)

abbrev timed_of : CallRec → Timed
timed_of c = record { call = c.call; begin = c.begin; end = c.end }

timed_back : (c : CallRec) → IsCall c → timed_in (call_words c) ≡ Ok (timed_of c)
timed_back c h =
    ap (λ (r : Result Call Fault). with r (λ call. with (or_bad whys.Number (number_field (decimal c.begin))) (λ begin. with (end_in (tick_text c.end)) (λ end. Ok (record { call = call; begin = begin; end = end }))))) (asked_back c h)
    ∙ ap (λ (o : Option ℕ). with (or_bad whys.Number o) (λ begin. with (end_in (tick_text c.end)) (λ end. Ok (record { call = c.call; begin = begin; end = end })))) (count_read c.begin (omega (arith, h.begin)))
    ∙ ap (λ (r : Result (Option ℕ) Fault). with r (λ end. Ok (record { call = c.call; begin = c.begin; end = end }))) (tick_back (kind_of c.call) c.end c.answer h.ended)

-- a call that comes after others, with a new name
end_ordered : (kind : Kind) (begin : ℕ) (end : Option ℕ) (answer : Option Answer) → IsEnded kind end answer → ((tick : ℕ) → end ≡ Some tick → begin < tick)
    → is_end begin end (is_none answer) ≡ true
end_ordered kind begin None None h later = refl
end_ordered kind begin None (Some answer) h later = absurd h
end_ordered kind begin (Some end) None h later = absurd h
end_ordered kind begin (Some end) (Some answer) h later =
    let low = later end refl in
    let high = h.0 in
    grind (arith, nat_tests, common_steps)

ordered : (calls : List CallRec) (c : CallRec) → IsCall c → EndsLater c → is_after (begin_before calls) c.begin ≡ true → is_ordered (begin_before calls) c.begin c.end (is_open (answer_words c.answer)) ≡ true
ordered calls c h later after =
    let ended = end_ordered (kind_of c.call) c.begin c.end c.answer h.ended later in
    let most : nat_le c.begin 4000000 ≡ true = let l = h.begin in grind (arith, nat_tests) in
    ap (λ (t : Bool). is_ordered (begin_before calls) c.begin c.end t) (open_where c.answer)
    ∙ both_pass (is_after (begin_before calls) c.begin && nat_le c.begin 4000000) (is_end c.begin c.end (is_none c.answer)) (both_pass (is_after (begin_before calls) c.begin) (nat_le c.begin 4000000) after most) ended

answered_back : (c : CallRec) → IsCall c → answered c.name (timed_of c) (answer_words c.answer) ≡ Ok c
answered_back c h =
    ap (λ (r : Result (Option Answer) Fault). with r (λ answer. Ok (record { name = c.name; call = c.call; begin = c.begin; end = c.end; answer = answer }))) (ended_back (kind_of c.call) c.end c.answer h.ended)

placed_back : (calls : List CallRec) (c : CallRec) → IsCall c → EndsLater c → is_named c.name calls ≡ false → is_after (begin_before calls) c.begin ≡ true
    → placed calls c.name (timed_of c) (answer_words c.answer) ≡ Ok c
placed_back calls c h later new after =
    let fields = answer_words c.answer in
    ap (λ (t : Bool). if t then Err (Bad whys.Name) else (if is_ordered (begin_before calls) c.begin c.end (is_open fields) then answered c.name (timed_of c) fields else Err (Bad whys.Order))) new
    ∙ ap (λ (t : Bool). if t then answered c.name (timed_of c) fields else Err (Bad whys.Order)) (ordered calls c h later after)
    ∙ answered_back c h

some_told : (answer : Answer) → 1 ≤ length (told_words answer)
some_told (answers.Ok version) = omega arith
some_told (answers.Thin version stored) = omega arith
some_told (answers.Short stored) = omega arith
some_told (answers.Bytes version name bytes) = omega arith
some_told (answers.Incomplete version name fates) = omega arith
some_told (answers.Gone version name) = omega arith
some_told answers.Absent = omega arith
some_told (answers.Unborn latest) = omega arith
some_told (answers.Collected floor) = omega arith
some_told (answers.Swept floor dropped) = omega arith
some_told (answers.Held why) = omega arith
some_told (answers.NoQuorum phase heard) = omega arith
some_told (answers.Contended met) = omega arith
some_told (answers.Unsure why) = omega arith

some_answer : (answer : Option Answer) → 1 ≤ length (answer_words answer)
some_answer None = omega arith
some_answer (Some answer) = some_told answer

pub call_back : (calls : List CallRec) (c : CallRec) → IsCall c → EndsLater c → is_named c.name calls ≡ false → is_after (begin_before calls) c.begin ≡ true
    → call_line calls (call_words c) ≡ Ok c
call_back calls c h later new after =
    let some = some_answer c.answer in
    let seven : nat_lt (length (call_words c)) 7 ≡ false = grind (arith, nat_tests) in
    ap (λ (o : Option Name). with (or_bad whys.Word o) (λ name. call_from calls name (call_words c))) (name_of c.name h.name)
    ∙ ap (λ (t : Bool). if t then Err (Bad whys.Count) else with (timed_in (call_words c)) (λ timed. placed calls c.name timed (fields_from 6 (call_words c)))) seven
    ∙ ap (λ (r : Result Timed Fault). with r (λ timed. placed calls c.name timed (answer_words c.answer))) (timed_back c h)
    ∙ placed_back calls c h later new after

-- the first word of a call begins no comment and is not `end`
pub call_begins : (c : CallRec) → IsCall c → (get_or (name_text c.name) 0 0 == 35) ≡ false
call_begins c h = digit_is_no_sign (get_or (name_text c.name) 0 0) (name_begins c.name h.name)

pub no_end : (c : CallRec) → IsCall c → is_word (codes "end") (name_text c.name) ≡ false
no_end c h = starts_apart (codes "end") (name_text c.name) refl (name_begins c.name h.name)

-- the last line is read
pub end_back : (calls events skipped : ℕ) → IsCount calls → IsCount events → IsCount skipped
    → end_line calls (end_words calls events skipped) ≡ Ok (record { calls = calls; events = events; skipped = skipped })
end_back calls events skipped h i j =
    let same : (calls == calls) ≡ true = grind (arith, nat_tests) in
    ap (λ (o : Option ℕ). with (with (or_bad whys.Number o) (λ n. with (or_bad whys.Number (number_field (decimal events))) (λ e. with (or_bad whys.Number (number_field (decimal skipped))) (λ s. Ok (record { calls = n; events = e; skipped = s }))))) (counted_calls calls)) (count_read calls h)
    ∙ ap (λ (o : Option ℕ). with (with (or_bad whys.Number o) (λ e. with (or_bad whys.Number (number_field (decimal skipped))) (λ s. Ok (record { calls = calls; events = e; skipped = s })))) (counted_calls calls)) (count_read events i)
    ∙ ap (λ (o : Option ℕ). with (with (or_bad whys.Number o) (λ s. Ok (record { calls = calls; events = events; skipped = s }))) (counted_calls calls)) (count_read skipped j)
    ∙ ap (λ (t : Bool). if t then Ok (record { calls = calls; events = events; skipped = skipped }) else Err (Bad whys.End)) same
