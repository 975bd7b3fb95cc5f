-- A record that is shown: its first fault, and how the showing ends.
use Rattle.std.proofs.Common.{ℕ, ◌≡◌, List, Err, Ok, sym, ap, ◌∙◌}
use Rattle.std.specs.Prelude.{Some}
use Rattle.gz_show.specs.Shown.{MayShow}
use Rattle.gz_show.specs.declared.errors.RecordWhy.{RecordWhy}
use Rattle.gz_show.specs.declared.errors.ShowError.{ShowError}
use Rattle.gz_show.specs.declared.errors.ShowError.TheVariants.{Bad, NoMemory as NoShowMemory}
use Rattle.gz_show.proofs.Records.{row_is_shown, fragment_is_shown}
use Rattle.gz_words.specs.Words.{show}
use Rattle.gz_words.specs.declared.command.Record.{Record}
use Rattle.gz_words.specs.declared.command.Record.TheVariants.{Row, Fragment}
use Rattle.gz_cli.specs.Causes.{Counts, RecordCause, ShowCause, WriteCause, AreSteady, IsPossibleEnd, record_status}
use Rattle.gz_cli.specs.Inputs.{Files, HasBytes, LoadsRecord, IsRecordText, IsRecordFaultAt, IsShownRecord, IsReadableFile, shown}
use Rattle.gz_cli.specs.declared.status.Status.{Status}
use Rattle.gz_cli.specs.declared.status.Status.TheVariants.{Done, NotLegal, Usage, ShelfFault, NoFile, FileTooLarge, BadConfig, BadText, TooLong, Full, BadRecord, SinkFault, NoMemory}
use Rattle.gz_cli.proofs.RunLemmas.{not-absent, not-large, same-bytes}

-- the status of bytes that are no record has its cause
pub record-cause : (files : Files) (kind : Record) (name bytes : List ℕ) (old new : Counts) (error : ShowError) → HasBytes files name bytes → MayShow (Err error) (shown kind bytes) → RecordCause files kind name old new (record_status error)
record-cause files kind name bytes old new (Bad at why) has shows = (bytes, (has, shows))
record-cause files kind name bytes old new NoShowMemory has shows = tt

-- what is a record is shown
record-is-shown : (kind : Record) (bytes text : List ℕ) → IsRecordText kind bytes text → shown kind bytes ≡ Ok text
record-is-shown Row bytes text is = row_is_shown bytes text is
record-is-shown Fragment bytes text is = fragment_is_shown bytes text is

-- a file that is told is no record where it has a fault
not-shown : (files : Files) (kind : Record) (name : List ℕ) (at : ℕ) (why : RecordWhy) → IsReadableFile files name → IsRecordFaultAt files kind name at why → IsShownRecord files kind name → ⊥
not-shown files kind name at why good (bytes, (has, faulty)) (text, (others, (there, is))) =
    let same = same-bytes files name good.bytes bytes good.file has.file in
    let also = same-bytes files name good.bytes others good.file there.file in
    let whole : shown kind bytes ≡ Ok text = ap (shown kind) (same ∙ sym also) ∙ record-is-shown kind others text is in
    cc

-- a record is shown, or the file is none, or memory ran out
pub show-completes : (files : Files) (kind : Record) (file : List ℕ) (old new : Counts) (status : Status) → ShowCause files kind file old new status → IsReadableFile files file → AreSteady old new
    → IsPossibleEnd (Some (show kind file)) files status
show-completes files kind file old new Done cause good steady = tt
show-completes files kind file old new (NotLegal clause a b) cause good steady = cause
show-completes files kind file old new Usage cause good steady = cause
show-completes files kind file old new (ShelfFault n) cause good steady = steady.shelf cause.1
show-completes files kind file old new (NoFile n) cause good steady = not-absent files file good.bytes good.file cause.1.1
show-completes files kind file old new (FileTooLarge n) cause good steady = not-large files file good.bytes good.file good.within cause.1.1
show-completes files kind file old new (BadConfig why) cause good steady = cause
show-completes files kind file old new (BadText line why) cause good steady = cause
show-completes files kind file old new (TooLong line) cause good steady = cause
show-completes files kind file old new (Full events held) cause good steady = tt
show-completes files kind file old new (BadRecord at why) cause good steady = not-shown files kind file at why good cause
show-completes files kind file old new SinkFault cause good steady = steady.sink cause.1
show-completes files kind file old new NoMemory cause good steady = tt

-- the cause of a status once the lines of the record are known is one over the file
pub written-cause : (files : Files) (kind : Record) (file text : List ℕ) (old new : Counts) (status : Status) → LoadsRecord files kind file text → WriteCause old.sink new.sink status → ShowCause files kind file old new status
written-cause files kind file text old new Done loads cause = (text, loads)
written-cause files kind file text old new (NotLegal clause a b) loads cause = cause
written-cause files kind file text old new Usage loads cause = cause
written-cause files kind file text old new (ShelfFault n) loads cause = absurd cause
written-cause files kind file text old new (NoFile n) loads cause = absurd cause
written-cause files kind file text old new (FileTooLarge n) loads cause = absurd cause
written-cause files kind file text old new (BadConfig why) loads cause = cause
written-cause files kind file text old new (BadText line why) loads cause = cause
written-cause files kind file text old new (TooLong line) loads cause = cause
written-cause files kind file text old new (Full events held) loads cause = cause
written-cause files kind file text old new (BadRecord at why) loads cause = absurd cause
written-cause files kind file text old new SinkFault loads cause = ((text, loads), cause)
written-cause files kind file text old new NoMemory loads cause = tt
