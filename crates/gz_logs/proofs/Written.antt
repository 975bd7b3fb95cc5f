-- A log that was written is read back.
use Rattle.std.proofs.Common.{ℕ, suc, ◌≡◌, ◌+◌, ◌-◌, ◌<◌, List, [], ◌∷◌, ◌++◌, length, slice_get, Bool, true, false, inl, inr, refl, sym, ap, subst, ◌∙◌, append_assoc, append-nil, length-append, arith}
use Rattle.std.specs.Prelude.{Option, Some, None, option_map, Result, Ok, All, decimal, flat_map, codes, if◌then◌else◌}
use Rattle.std.proofs.lemmas.Bool.{cases_Bool}
use Rattle.std.proofs.lemmas.Bool.Decides.{nat_tests}
use Rattle.std.proofs.lemmas.Grind.{common_steps}
use Rattle.std.proofs.lemmas.Option.{slice_get_within}
use Rattle.std.proofs.lemmas.List.Elements.{All-head, All-tail}
use Rattle.gz_core.specs.Calls.{key_of}
use Rattle.gz_core.specs.Names.{Name}
use Rattle.gz_history.specs.Broken.{IsHistory, EndsLater, Precedes}
use Rattle.gz_history.specs.Log.{name_text, kind_text, argument_text, tick_text, line_text, end_text}
use Rattle.gz_history.specs.declared.record.CallRec.{CallRec}
use Rattle.gz_text.specs.declared.faults.Fault.{Fault}
use Rattle.gz_text.specs.Texts.{lines, fields_of}
use Rattle.gz_logs.specs.declared.lines.Counts.{Counts}
use Rattle.gz_logs.specs.Fitting.{IsCall, IsCount}
use Rattle.gz_logs.specs.Laws.{WrittenIsRead}
use Rattle.gz_logs.specs.Lines.{Seen, begin_before, is_after, call_line, end_line, with_call, with_end, after}
use Rattle.gz_logs.specs.Named.{same_name, is_named}
use Rattle.gz_logs.specs.Parsed.{Log, at_line, read_from}
use Rattle.gz_logs.proofs.Histories.{get_front, get_next}
use Rattle.gz_logs.proofs.Joined.{joined}
use Rattle.gz_logs.proofs.Words.{AreWords, fields_of_joined, lines_joined}
use Rattle.gz_logs.proofs.WrittenAnswers.{answer_words}
use Rattle.gz_logs.proofs.WrittenLines.{call_words, end_words, call_joined, end_joined, call_words_are, end_words_are, call_back, call_begins, no_end, end_back}

-- what was read of some calls
abbrev seen_calls : List CallRec → Seen
seen_calls calls = record { calls = calls; ends = None }

one_name : (x y : Name) → same_name x y ≡ true → x ≡ y
one_name x y h = let session : x.session ≡ y.session = grind (arith, common_steps) in let seq : x.seq ≡ y.seq = grind (arith, common_steps) in λ i. record { session = session i; seq = seq i }

-- no call has a name
none_named : (name : Name) (calls : List CallRec) → ((i : ℕ) (a : CallRec) → slice_get calls i ≡ Some a → a.name ≡ name → ⊥) → is_named name calls ≡ false
none_named name [] h = refl
none_named name (c ∷ cs) h =
    elim (cases_Bool (same_name c.name name)) [
      | inl same ↦ absurd (h 0 c refl (one_name c.name name same))
      | inr other ↦ (let rest = none_named name cs (λ i a p. h (suc i) a p) in rw other rest)
    ]

begins_after : (last : Option CallRec) (tick : ℕ) → ((a : CallRec) → last ≡ Some a → a.begin < tick) → is_after (option_map (λ c. c.begin) last) tick ≡ true
begins_after None tick h = refl
begins_after (Some a) tick h = let later = h a refl in grind (arith, nat_tests)

-- a call of a history after those before it
record Follows (before : List CallRec) (c : CallRec) : Type 0 where
  new : is_named c.name before ≡ false
  after_all : is_after (begin_before before) c.begin ≡ true
  ends : EndsLater c

follows : (before : List CallRec) (c : CallRec) (more : List CallRec) → IsHistory (before ++ c ∷ more) → Follows before c
follows before c more h =
    let len : length (before ++ c ∷ more) ≡ length before + (length more + 1) = omega (arith, length-append before (c ∷ more)) in
    let here = get_next before more c in
    let precedes : (i : ℕ) (a : CallRec) → slice_get before i ≡ Some a → Precedes a c = λ i a p.
    let within = slice_get_within before i a p in
    h.order i (length before) within (omega arith) a c (get_front before (c ∷ more) i within ∙ p) here in
    record {
      new = none_named c.name before (λ i a p same. (precedes i a p).name same);
      after_all = begins_after (slice_get before (length before - 1)) c.begin (λ a p. (precedes (length before - 1) a p).began);
      ends = h.ends (length before) c (omega arith) here;
    }

-- the line of one more call is read
call_read : (before : List CallRec) (c : CallRec) → IsCall c → Follows before c → after (seen_calls before) (fields_of (joined (call_words c))) ≡ Ok (seen_calls (before ++ c ∷ []))
call_read before c h f =
    ap (λ (fields : List (List ℕ)). after (seen_calls before) fields) (fields_of_joined (name_text c.name) (kind_text c.call ∷ key_of c.call ∷ argument_text c.call ∷ decimal c.begin ∷ tick_text c.end ∷ answer_words c.answer) (call_words_are c h) (call_begins c h))
    ∙ ap (λ (t : Bool). if t then with_end before (end_line (length before) (call_words c)) else with_call before (call_line before (call_words c))) (no_end c h)
    ∙ ap (λ (r : Result CallRec Fault). with_call before r) (call_back before c h f.ends f.new f.after_all)

-- so is the last line
end_read_back : (calls : List CallRec) (events skipped : ℕ) → IsCount (length calls) → IsCount events → IsCount skipped
    → after (seen_calls calls) (fields_of (joined (end_words (length calls) events skipped)))
    ≡ Ok (record { calls = calls; ends = Some (record { calls = length calls; events = events; skipped = skipped }) })
end_read_back calls events skipped h i j =
    ap (λ (fields : List (List ℕ)). after (seen_calls calls) fields) (fields_of_joined (codes "end") (decimal (length calls) ∷ decimal events ∷ decimal skipped ∷ []) (end_words_are (length calls) events skipped h i j) refl)
    ∙ ap (λ (r : Result Counts Fault). with_end calls r) (end_back (length calls) events skipped h i j)

-- a text of which this is the first line
first_line : (words : List (List ℕ)) (line rest : List ℕ) → AreWords words → joined words ++ codes "\n" ≡ line → lines (line ++ rest) ≡ joined words ∷ lines rest
first_line words line rest h same = ap (λ (x : List ℕ). lines (x ++ rest)) (sym same) ∙ lines_joined words rest h

end_line_alone : (calls : List CallRec) (events skipped : ℕ) → IsCount (length calls) → IsCount events → IsCount skipped
    → lines (end_text (length calls) events skipped) ≡ joined (end_words (length calls) events skipped) ∷ []
end_line_alone calls events skipped h i j =
    ap lines (sym (append-nil (end_text (length calls) events skipped)))
    ∙ first_line (end_words (length calls) events skipped) (end_text (length calls) events skipped) [] (end_words_are (length calls) events skipped h i j) (end_joined (length calls) events skipped)

abbrev log_with : List CallRec → ℕ → ℕ → Log
log_with calls events skipped = record { calls = calls; events = events; skipped = skipped }

ended_read : (line : ℕ) (calls : List CallRec) (events skipped : ℕ) → IsCount (length calls) → IsCount events → IsCount skipped
    → read_from line (seen_calls calls) (lines (end_text (length calls) events skipped)) ≡ Ok (log_with calls events skipped)
ended_read line calls events skipped h i j =
    ap (λ (texts : List (List ℕ)). read_from line (seen_calls calls) texts) (end_line_alone calls events skipped h i j)
    ∙ ap (λ (r : Result Seen Fault). at_line line r (λ next. read_from (line + 1) next [])) (end_read_back calls events skipped h i j)

-- the lines of the calls that are left are read
module _ (all : List CallRec) (events skipped : ℕ) (counted : IsCount (length all)) (events_counted : IsCount events) (skipped_counted : IsCount skipped) (h : IsHistory all) where
  rest_read : (line : ℕ) (before rest : List CallRec) → before ++ rest ≡ all → All IsCall rest
      → read_from line (seen_calls before) (lines (flat_map line_text rest ++ end_text (length all) events skipped)) ≡ Ok (log_with all events skipped)
  rest_read line before [] whole calls =
      ap (λ (cs : List CallRec). read_from line (seen_calls cs) (lines (end_text (length all) events skipped))) (sym (append-nil before) ∙ whole)
      ∙ ended_read line all events skipped counted events_counted skipped_counted
  rest_read line before (c ∷ more) whole calls =
      let one : IsCall c = All-head IsCall c more calls in
      let text = flat_map line_text more ++ end_text (length all) events skipped in
      let f = follows before c more (subst IsHistory (sym whole) h) in
      ap (λ (x : List ℕ). read_from line (seen_calls before) (lines x)) (append_assoc (line_text c) (flat_map line_text more) (end_text (length all) events skipped))
      ∙ ap (λ (texts : List (List ℕ)). read_from line (seen_calls before) texts) (first_line (call_words c) (line_text c) text (call_words_are c one) (call_joined c))
      ∙ ap (λ (r : Result Seen Fault). at_line line r (λ next. read_from (line + 1) next (lines text))) (call_read before c one f)
      ∙ rest_read (line + 1) (before ++ c ∷ []) more (append_assoc before (c ∷ []) more ∙ whole) (All-tail IsCall c more calls)

pub written_is_read : WrittenIsRead
written_is_read calls events skipped h = rest_read calls events skipped h.counted h.events_counted h.skipped_counted h.history 1 [] calls refl h.each
