-- Lines that are read one after another.
use denote.Ref.{Bor}
use Rattle.std.proofs.Common.{ℕ, ◌≡◌, ◌+◌, ◌<◌, ◌≤◌, List, ◌∷◌, length, map, drop, get_or, ap, sym, subst, ◌∙◌}
use Rattle.std.specs.Prelude.{Result, Ok, Err}
use Rattle.std.proofs.lemmas.List.{drop-map, drop_more, at_drop_all, length-map}
use Rattle.gz_core.specs.declared.texts.TextError.{TextError}
use Rattle.gz_history.specs.declared.record.CallRec.{CallRec}
use Rattle.gz_text.specs.declared.faults.Fault.{Fault}
use Rattle.gz_text.specs.declared.faults.Fault.TheVariants.{Bad, TooLong}
use Rattle.gz_text.specs.Faults.{error_at, told_number}
use Rattle.gz_text.specs.Texts.{fields_of}
use Rattle.gz_logs.specs.Lines.{Seen, after}
use Rattle.gz_logs.specs.declared.lines.Counts.{Counts}
use Rattle.gz_logs.specs.Parsed.{Log, FaultAt, finished, at_line, read_from, Parses}
use Rattle.gz_logs.specs.Reading.{Steps}

-- the lines that are lent
abbrev pub lent : List (Bor (List ℕ)) → List (List ℕ)
lent texts = map (λ text. text.now) texts

-- the next of them
lent-more : (texts : List (Bor (List ℕ))) (i : ℕ) (d : Bor (List ℕ)) → i < length texts → drop i (lent texts) ≡ (get_or texts i d).now ∷ drop (i + 1) (lent texts)
lent-more texts i d h =
    drop-map (λ (text : Bor (List ℕ)). text.now) i texts
    ∙ ap (λ (xs : List (Bor (List ℕ))). lent xs) (drop_more texts i d h)
    ∙ ap (λ (xs : List (List ℕ)). (get_or texts i d).now ∷ xs) (sym (drop-map (λ (text : Bor (List ℕ)). text.now) (i + 1) texts))

-- what is read from a line on
abbrev pub rest_of : List (Bor (List ℕ)) → ℕ → Seen → Result Log FaultAt
rest_of texts i seen = read_from (i + 1) seen (drop i (lent texts))

step : (texts : List (Bor (List ℕ))) (i : ℕ) (d : Bor (List ℕ)) (seen : Seen) → i < length texts → rest_of texts i seen ≡ at_line (i + 1) (after seen (fields_of (get_or texts i d).now)) (λ next. rest_of texts (i + 1) next)
step texts i d seen h = ap (λ (xs : List (List ℕ)). read_from (i + 1) seen xs) (lent-more texts i d h)

-- a line without a fault
pub rest_more : (texts : List (Bor (List ℕ))) (i : ℕ) (d : Bor (List ℕ)) (seen next : Seen) → i < length texts → after seen (fields_of (get_or texts i d).now) ≡ Ok next → rest_of texts i seen ≡ rest_of texts (i + 1) next
rest_more texts i d seen next h read = step texts i d seen h ∙ ap (λ (r : Result Seen Fault). at_line (i + 1) r (λ s. rest_of texts (i + 1) s)) read

-- a line with a fault
pub rest_fault : (texts : List (Bor (List ℕ))) (i : ℕ) (d : Bor (List ℕ)) (seen : Seen) (fault : Fault) → i < length texts → after seen (fields_of (get_or texts i d).now) ≡ Err fault → rest_of texts i seen ≡ Err (record { line = i + 1; fault = fault })
rest_fault texts i d seen fault h read = step texts i d seen h ∙ ap (λ (r : Result Seen Fault). at_line (i + 1) r (λ s. rest_of texts (i + 1) s)) read

-- no line is left
pub rest_none : (texts : List (Bor (List ℕ))) (i : ℕ) (seen : Seen) → length texts ≤ i → rest_of texts i seen ≡ finished (i + 1) seen.calls seen.ends
rest_none texts i seen h = at_drop_all (λ xs. read_from (i + 1) seen xs) (lent texts) i (rw (length-map texts (λ (text : Bor (List ℕ)). text.now)) h)

-- the log of these calls
abbrev pub log_of_calls : List CallRec → Counts → Log
log_of_calls calls counts = record { calls = calls; events = counts.events; skipped = counts.skipped }

-- the error of that fault
pub parses_fault : (log : Result Log FaultAt) (line told : ℕ) (fault : Fault) (error : TextError) → told ≡ told_number line → error ≡ error_at told fault → log ≡ Err (record { line = line; fault = fault }) → Parses log (Err error)
parses_fault log line told (Bad why) error number same read = subst (λ (e : TextError). Parses log (Err e)) (sym same) (line, (number, read))
parses_fault log line told TooLong error number same read = subst (λ (e : TextError). Parses log (Err e)) (sym same) (line, (number, read))

-- what a line that was read gives, and one that has a fault
pub step_ok : (read : Result Seen Fault) (new : Seen) (r : Result (Unit {0}) Fault) (done : Unit {0}) → r ≡ Ok done → Steps read new r → read ≡ Ok new
step_ok read new r done same steps = subst (λ (x : Result (Unit {0}) Fault). Steps read new x) same steps

pub step_err : (read : Result Seen Fault) (new : Seen) (r : Result (Unit {0}) Fault) (fault : Fault) → r ≡ Err fault → Steps read new r → read ≡ Err fault
step_err read new r fault same steps = subst (λ (x : Result (Unit {0}) Fault). Steps read new x) same steps
