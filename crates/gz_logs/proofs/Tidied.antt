-- What is read is the log of what was read.
use Rattle.std.proofs.Common.{ℕ, ◌≡◌, ◌+◌, List, [], ◌∷◌, ◌++◌, length, inl, inr, sym, ap, ◌∙◌, append_assoc, arith}
use Rattle.std.specs.Prelude.{Option, Some, None, Ok, flat_map, codes}
use Rattle.std.proofs.lemmas.Bool.{cases_Bool}
use Rattle.std.proofs.lemmas.Grind.{flat_map-append, common_steps}
use Rattle.std.proofs.lemmas.List.{append-nil}
use Rattle.gz_history.specs.declared.record.CallRec.{CallRec}
use Rattle.gz_history.specs.Log.{line_text, end_text, log_of}
use Rattle.gz_text.specs.Fields.{is_word}
use Rattle.gz_text.specs.Texts.{fields_of, lines}
use Rattle.gz_logs.specs.declared.lines.Counts.{Counts}
use Rattle.gz_logs.specs.Laws.{tidy_line, ReadIsWritten}
use Rattle.gz_logs.specs.Lines.{Seen, call_line, end_line, with_call, with_end, line_after, after}
use Rattle.gz_logs.specs.Parsed.{Log, finished, read_from, unread}
use Rattle.gz_logs.proofs.Choices.{with_ok, same_ok}
use Rattle.gz_logs.proofs.Histories.{same_log, at_line_ok}
use Rattle.gz_logs.proofs.LineTexts.{call_text, end_read}

-- the text of the last line, if it was seen
abbrev ends_text : ℕ → Option Counts → List ℕ
ends_text calls None = []
ends_text calls (Some counts) = end_text calls counts.events counts.skipped

-- the text of what was seen
abbrev text_of : Seen → List ℕ
text_of seen = flat_map line_text seen.calls ++ ends_text (length seen.calls) seen.ends

-- one more call
one_more : (calls : List CallRec) (c : CallRec) → (flat_map line_text calls ++ []) ++ line_text c ≡ flat_map line_text (calls ++ c ∷ []) ++ []
one_more calls c =
    ap (λ (x : List ℕ). x ++ line_text c) (append-nil (flat_map line_text calls))
    ∙ ap (λ (x : List ℕ). flat_map line_text calls ++ x) (sym (append-nil (line_text c)))
    ∙ sym (flat_map-append line_text calls (c ∷ []))
    ∙ sym (append-nil (flat_map line_text (calls ++ c ∷ [])))

line_tidied : (calls : List CallRec) (word : List ℕ) (more : List (List ℕ)) (next : Seen) → line_after (record { calls = calls; ends = None }) (word ∷ more) ≡ Ok next
    → text_of (record { calls = calls; ends = None }) ++ tidy_line (word ∷ more) ≡ text_of next
line_tidied calls word more next h =
    elim (cases_Bool (is_word (codes "end") word)) [
      | inl last ↦ (let read : with_end calls (end_line (length calls) (word ∷ more)) ≡ Ok next = grind (arith, common_steps) in
          let counts = with_ok (end_line (length calls) (word ∷ more)) (λ counts. Ok (record { calls = calls; ends = Some counts })) next read in
          ap (λ (x : List ℕ). x ++ tidy_line (word ∷ more)) (append-nil (flat_map line_text calls))
          ∙ ap (λ (x : List ℕ). flat_map line_text calls ++ x) (end_read (length calls) (word ∷ more) counts.0 last counts.1.0)
          ∙ ap text_of (same_ok (record { calls = calls; ends = Some counts.0 }) next counts.1.1))
      | inr other ↦ (let read : with_call calls (call_line calls (word ∷ more)) ≡ Ok next = grind (arith, common_steps) in
          let call = with_ok (call_line calls (word ∷ more)) (λ call. Ok (record { calls = calls ++ call ∷ []; ends = None })) next read in
          ap (λ (x : List ℕ). (flat_map line_text calls ++ []) ++ x) (call_text calls (word ∷ more) call.0 call.1.0)
          ∙ one_more calls call.0
          ∙ ap text_of (same_ok (record { calls = calls ++ call.0 ∷ []; ends = None }) next call.1.1))
    ]

after_tidied : (calls : List CallRec) (ends : Option Counts) (fields : List (List ℕ)) (next : Seen) → after (record { calls = calls; ends = ends }) fields ≡ Ok next
    → text_of (record { calls = calls; ends = ends }) ++ tidy_line fields ≡ text_of next
after_tidied calls ends [] next h = append-nil (text_of (record { calls = calls; ends = ends })) ∙ ap text_of (same_ok (record { calls = calls; ends = ends }) next h)
after_tidied calls None (word ∷ more) next h = line_tidied calls word more next h
after_tidied calls (Some counts) (word ∷ more) next h = absurd (cc)

-- the lines of a text without those that are skipped
abbrev tidied : List (List ℕ) → List ℕ
tidied texts = flat_map (λ line. tidy_line (fields_of line)) texts

finished_tidied : (line : ℕ) (calls : List CallRec) (ends : Option Counts) (log : Log) → finished line calls ends ≡ Ok log
    → text_of (record { calls = calls; ends = ends }) ≡ log_of log.calls log.events log.skipped
finished_tidied line calls None log h = absurd (cc)
finished_tidied line calls (Some counts) log h = ap (λ (x : Log). log_of x.calls x.events x.skipped) (same_log (record { calls = calls; events = counts.events; skipped = counts.skipped }) log h)

reads_tidied : (line : ℕ) (seen : Seen) (texts : List (List ℕ)) (log : Log) → read_from line seen texts ≡ Ok log
    → text_of seen ++ tidied texts ≡ log_of log.calls log.events log.skipped
reads_tidied line seen [] log h = append-nil (text_of seen) ∙ finished_tidied line seen.calls seen.ends log h
reads_tidied line seen (text ∷ texts) log h =
    let read = at_line_ok line (after seen (fields_of text)) (λ next. read_from (line + 1) next texts) log h in
    sym (append_assoc (text_of seen) (tidy_line (fields_of text)) (tidied texts))
    ∙ ap (λ (x : List ℕ). x ++ tidied texts) (after_tidied seen.calls seen.ends (fields_of text) read.0 read.1.0)
    ∙ reads_tidied (line + 1) read.0 texts log read.1.1

pub read_is_written : ReadIsWritten
read_is_written text log h = reads_tidied 1 unread (lines text) log h
