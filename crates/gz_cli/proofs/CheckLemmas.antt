-- The check of a log: the line of its first fault, and how the check of a log ends.
use Rattle.std.proofs.Common.{ℕ, ◌≡◌, ◌+◌, ◌≤◌, List, [], ◌∷◌, length, Err, Ok, sym, ap, ◌∙◌, subst, arith}
use Rattle.std.specs.Prelude.{Option, Some, None, Result}
use Rattle.std.proofs.lemmas.List.{length-map}
use Rattle.gz_core.specs.declared.texts.TextError.{TextError}
use Rattle.gz_core.specs.declared.texts.TextError.TheVariants.{Bad, TooLong as TextTooLong, NoMemory as NoTextMemory}
use Rattle.gz_history.specs.Legal.{IsLegal}
use Rattle.gz_history.specs.declared.legality.Broken.{Broken}
use Rattle.gz_history.specs.declared.record.CallRec.{CallRec}
use Rattle.gz_lines.specs.Grammar.{read_line}
use Rattle.gz_lines.proofs.CutLemmas.{length_readings}
use Rattle.gz_logs.specs.declared.lines.Counts.{Counts}
use Rattle.gz_logs.specs.Lines.{Seen, after}
use Rattle.gz_logs.specs.Parsed.{Log, FaultAt, parsed, read_from, finished, at_line, unread, IsFaultTold, Parses}
use Rattle.gz_text.specs.declared.faults.Fault.{Fault}
use Rattle.gz_text.specs.declared.faults.Fault.TheVariants as faults
use Rattle.gz_text.specs.Faults.{told_number}
use Rattle.gz_text.specs.Texts.{lines, fields_of}
use Rattle.gz_words.specs.Words.{check}
use Rattle.gz_cli.specs.Causes.{Counts as CountsOf, LogCause, CheckCause, JudgeCause, AreSteady, IsPossibleEnd, text_status}
use Rattle.gz_cli.specs.Inputs.{Files, HasBytes, LoadsLog, IsReadableLog, IsLegalLog, IsBrokenLog, IsLogFaultAt}
use Rattle.gz_cli.specs.declared.status.Status.{Status}
use Rattle.gz_cli.specs.declared.status.Status.TheVariants.{Done, NotLegal, Usage, ShelfFault, NoFile, FileTooLarge, BadConfig, BadText, TooLong, Full, BadRecord, SinkFault, NoMemory}
use Rattle.gz_cli.proofs.RunLemmas.{not-absent, not-large, same-bytes}
use Rattle.gz_cli.proofs.Unbroken.{legal_is_unbroken}

-- the line of the fault, 0 of a log
abbrev fault_line : Result Log FaultAt → ℕ
fault_line (Ok log) = 0
fault_line (Err at) = at.line

finished-within : (line : ℕ) (calls : List CallRec) (ends : Option Counts) → fault_line (finished line calls ends) ≤ line
finished-within line calls None = omega arith
finished-within line calls (Some counts) = omega arith

at_line-within : (line most : ℕ) (seen : Result Seen Fault) (next : Seen → Result Log FaultAt) → line ≤ most → ((s : Seen) → fault_line (next s) ≤ most) → fault_line (at_line line seen next) ≤ most
at_line-within line most (Ok seen) next here later = later seen
at_line-within line most (Err fault) next here later = here

read_from-within : (texts : List (List ℕ)) (line : ℕ) (seen : Seen) → fault_line (read_from line seen texts) ≤ line + length texts
read_from-within [] line seen = let within = finished-within line seen.calls seen.ends in omega (arith, within)
read_from-within (text ∷ texts) line seen =
    at_line-within line (line + length (text ∷ texts)) (after seen (fields_of text)) (λ next. read_from (line + 1) next texts) (omega arith)
    (λ next. let within = read_from-within texts (line + 1) next in omega (arith, within))

-- the line of a fault is at most two above the bytes
fault-within : (text : List ℕ) (line : ℕ) (fault : Fault) → parsed text ≡ Err (record { line = line; fault = fault }) → line ≤ length text + 2
fault-within text line fault is =
    let same : fault_line (parsed text) ≡ line = ap fault_line is in
    let most = read_from-within (lines text) 1 unread in
    let few = length_readings text in
    omega (arith, same, most, few, length-map (lines text) read_line)

own-number : (bytes : List ℕ) (line told : ℕ) → length bytes ≤ 67108864 → line ≤ length bytes + 2 → told ≡ told_number line → line ≡ told
own-number bytes line told small within is = omega (arith, is)

-- of a file within the limit, the number that is told of a line is the line's own
own-fault : (bytes : List ℕ) (told : ℕ) (fault : Fault) → length bytes ≤ 67108864 → IsFaultTold (parsed bytes) told fault → parsed bytes ≡ Err (record { line = told; fault = fault })
own-fault bytes told fault small h =
    let same = own-number bytes h.0 told small (fault-within bytes h.0 fault h.1.1) h.1.0 in
    subst (λ (n : ℕ). parsed bytes ≡ Err (record { line = n; fault = fault })) same h.1.1

-- the status of a text that is no log has its cause
pub log-cause : (files : Files) (name bytes : List ℕ) (old new : CountsOf) (error : TextError) → HasBytes files name bytes → Parses (parsed bytes) (Err error) → LogCause files name old new (text_status error)
log-cause files name bytes old new (Bad line why) has parses = (bytes, (has, own-fault bytes line (faults.Bad why) has.within parses))
log-cause files name bytes old new (TextTooLong line) has parses = (bytes, (has, own-fault bytes line faults.TooLong has.within parses))
log-cause files name bytes old new NoTextMemory has parses = tt

-- the calls of a log, none of a fault
abbrev calls_in : Result Log FaultAt → List CallRec
calls_in (Ok log) = log.calls
calls_in (Err at) = []

-- a file that is told spells one log
one-log : (files : Files) (name : List ℕ) (calls : List CallRec) (good : IsReadableLog files name) → LoadsLog files name calls → good.log.calls ≡ calls
one-log files name calls good (bytes, (has, spells)) =
    let same = same-bytes files name good.bytes bytes good.file has.file in
    sym (ap calls_in good.reads) ∙ ap (λ (bs : List ℕ). calls_in (parsed bs)) (sym same) ∙ ap calls_in spells.2

not-legal-log : (files : Files) (name : List ℕ) (broken : Broken) → IsReadableLog files name → IsBrokenLog files name broken → IsLegalLog files name → ⊥
not-legal-log files name broken good (calls, (loads, first)) (others, (reads, legal)) =
    legal_is_unbroken calls broken (subst IsLegal (sym (one-log files name others good reads) ∙ one-log files name calls good loads) legal) first

not-faulty-log : (files : Files) (name : List ℕ) (line : ℕ) (fault : Fault) → IsReadableLog files name → IsLogFaultAt files name line fault → ⊥
not-faulty-log files name line fault good (bytes, (has, faulty)) =
    let same = same-bytes files name good.bytes bytes good.file has.file in
    let ok = good.reads in
    let err : parsed good.bytes ≡ Err (record { line = line; fault = fault }) = subst (λ (bs : List ℕ). parsed bs ≡ Err (record { line = line; fault = fault })) same faulty in
    cc

-- the check of a log is done, or the log isn't legal, or memory ran out
pub check-completes : (files : Files) (log : List ℕ) (old new : CountsOf) (status : Status) → CheckCause files log old new status → IsReadableLog files log → AreSteady old new → IsPossibleEnd (Some (check log)) files status
check-completes files log old new Done cause good steady = tt
check-completes files log old new (NotLegal clause a b) cause good steady = not-legal-log files log (record { clause = clause; a = a; b = b }) good cause
check-completes files log old new Usage cause good steady = cause
check-completes files log old new (ShelfFault n) cause good steady = steady.shelf cause.1
check-completes files log old new (NoFile n) cause good steady = not-absent files log good.bytes good.file cause.1.1
check-completes files log old new (FileTooLarge n) cause good steady = not-large files log good.bytes good.file good.within cause.1.1
check-completes files log old new (BadConfig why) cause good steady = cause
check-completes files log old new (BadText line why) cause good steady = not-faulty-log files log line (faults.Bad why) good cause
check-completes files log old new (TooLong line) cause good steady = not-faulty-log files log line faults.TooLong good cause
check-completes files log old new (Full events held) cause good steady = tt
check-completes files log old new (BadRecord at why) cause good steady = absurd cause
check-completes files log old new SinkFault cause good steady = steady.sink cause.1
check-completes files log old new NoMemory cause good steady = tt

-- the cause of a status once the calls of the log are known is one over the file
pub judged-cause : (files : Files) (log : List ℕ) (old new : CountsOf) (calls : List CallRec) (status : Status) → LoadsLog files log calls → JudgeCause calls old.sink new.sink status → CheckCause files log old new status
judged-cause files log old new calls Done loads cause = (calls, (loads, cause))
judged-cause files log old new calls (NotLegal clause a b) loads cause = (calls, (loads, cause))
judged-cause files log old new calls Usage loads cause = cause
judged-cause files log old new calls (ShelfFault n) loads cause = absurd cause
judged-cause files log old new calls (NoFile n) loads cause = absurd cause
judged-cause files log old new calls (FileTooLarge n) loads cause = absurd cause
judged-cause files log old new calls (BadConfig why) loads cause = cause
judged-cause files log old new calls (BadText line why) loads cause = absurd cause
judged-cause files log old new calls (TooLong line) loads cause = absurd cause
judged-cause files log old new calls (Full events held) loads cause = cause
judged-cause files log old new calls (BadRecord at why) loads cause = cause
judged-cause files log old new calls SinkFault loads cause = ((calls, (loads, cause.0)), cause.1)
judged-cause files log old new calls NoMemory loads cause = tt
