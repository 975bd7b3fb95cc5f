-- The cause of each status of a run.
use Rattle.std.specs.Prelude.{ℕ, ◌⊎◌, ◌≡◌, ◌≤◌, List, Option, Some, None}
use Rattle.gz_core.specs.Causes.{Rose}
use Rattle.gz_core.specs.declared.texts.TextError.{TextError}
use Rattle.gz_core.specs.declared.texts.TextError.TheVariants.{Bad, TooLong as TextTooLong, NoMemory as NoTextMemory}
use Rattle.gz_history.specs.Broken.{IsFirstBroken}
use Rattle.gz_history.specs.Legal.{IsLegal}
use Rattle.gz_history.specs.declared.record.CallRec.{CallRec}
use Rattle.gz_settings.specs.declared.refusal.ConfigText.{ConfigText}
use Rattle.gz_settings.specs.declared.refusal.ConfigText.TheVariants.{NotToml, UnknownKey, Kind, Rule, NoMemory as NoConfigMemory}
use Rattle.gz_site.specs.Files.{Exceeds}
use Rattle.gz_site.specs.declared.shelves.ShelfError.{ShelfError}
use Rattle.gz_site.specs.declared.shelves.ShelfError.TheVariants.{Failed, NoSuch, TooLarge}
use Rattle.gz_site.specs.declared.sinks.SinkError.{SinkError}
use Rattle.gz_site.specs.declared.sinks.SinkError.TheVariants.{Failed as SinkFailed, NoMemory as NoSinkMemory}
use Rattle.gz_text.specs.declared.faults.Fault.{Fault}
use Rattle.gz_text.specs.declared.faults.Fault.TheVariants as faults
use Rattle.gz_show.specs.declared.errors.RecordWhy.{RecordWhy}
use Rattle.gz_show.specs.declared.errors.ShowError.{ShowError}
use Rattle.gz_show.specs.declared.errors.ShowError.TheVariants.{Bad as BadBytes, NoMemory as NoShowMemory}
use Rattle.gz_words.specs.Words.{Task, replay, check, show, code}
use Rattle.gz_words.specs.declared.command.Record.{Record}
use Rattle.gz_cli.specs.Inputs.{Files, FileIs, IsMisconfigured, IsConfigured, IsFaultAt, IsLoaded, IsWanted, IsPlayable, CanConfigure, IsLogFaultAt, IsLegalLog, IsBrokenLog, IsReadableLog, IsRecordFaultAt, IsShownRecord, IsReadableFile}
use Rattle.gz_cli.specs.declared.status.Status.{Status}
use Rattle.gz_cli.specs.declared.status.Status.TheVariants.{Done, NotLegal, Usage, ShelfFault, NoFile, FileTooLarge, BadConfig, BadText, TooLong, Full, BadRecord, SinkFault, NoMemory}

-- the counts of what was handed in: faults of the shelf, files that were not there, files above the limit, and
-- faults of the sink
pub record Counts : Type 0 where
  pub faults : ℕ
  pub absences : ℕ
  pub excesses : ℕ
  pub sink : ℕ

-- no count of the shelf fell
pub record NoneFell (old new : Counts) : Type 0 where
  pub faults : old.faults ≤ new.faults
  pub absences : old.absences ≤ new.absences
  pub excesses : old.excesses ≤ new.excesses

-- the status of a file that could not be read, by what the shelf answered
abbrev pub ShelfCause : List ℕ → ShelfError → Status → Type 0
ShelfCause name error Done = ⊥
ShelfCause name error (NotLegal clause a b) = ⊥
ShelfCause name error Usage = ⊥
ShelfCause name error (ShelfFault n) = (n ≡ name) × (error ≡ Failed)
ShelfCause name error (NoFile n) = (n ≡ name) × (error ≡ NoSuch)
ShelfCause name error (FileTooLarge n) = (n ≡ name) × (error ≡ TooLarge)
ShelfCause name error (BadConfig why) = ⊥
ShelfCause name error (BadText line why) = ⊥
ShelfCause name error (TooLong line) = ⊥
ShelfCause name error (Full events held) = ⊥
ShelfCause name error (BadRecord at why) = ⊥
ShelfCause name error SinkFault = ⊥
ShelfCause name error NoMemory = Unit {0}

-- why nothing was had of a file: a table by the status, over the counts before and after, and over what it is for its bytes to be
-- refused as a configuration, as a schedule or a log, and as a record
abbrev pub FileCause : Files → List ℕ → Counts → Counts → (ConfigText → Type 0) → (ℕ → Fault → Type 0) → (ℕ → RecordWhy → Type 0) → Status → Type 0
FileCause files name old new Refused Faulty Spoilt Done = ⊥
FileCause files name old new Refused Faulty Spoilt (NotLegal clause a b) = ⊥
FileCause files name old new Refused Faulty Spoilt Usage = ⊥
FileCause files name old new Refused Faulty Spoilt (ShelfFault n) = (n ≡ name) × Rose old.faults new.faults
FileCause files name old new Refused Faulty Spoilt (NoFile n) = (n ≡ name) × (Rose old.absences new.absences × FileIs files name (λ file. file ≡ None))
FileCause files name old new Refused Faulty Spoilt (FileTooLarge n) = (n ≡ name) × (Rose old.excesses new.excesses × FileIs files name (λ file. Exceeds file 67108864))
FileCause files name old new Refused Faulty Spoilt (BadConfig why) = Refused why
FileCause files name old new Refused Faulty Spoilt (BadText line why) = Faulty line (faults.Bad why)
FileCause files name old new Refused Faulty Spoilt (TooLong line) = Faulty line faults.TooLong
FileCause files name old new Refused Faulty Spoilt (Full events held) = ⊥
FileCause files name old new Refused Faulty Spoilt (BadRecord at why) = Spoilt at why
FileCause files name old new Refused Faulty Spoilt SinkFault = ⊥
FileCause files name old new Refused Faulty Spoilt NoMemory = Unit {0}

-- the file was not read
abbrev pub UnreadCause : Files → List ℕ → Counts → Counts → Status → Type 0
UnreadCause files name old new status = FileCause files name old new (λ why. ⊥) (λ line fault. ⊥) (λ at why. ⊥) status

-- the file gave no configuration
abbrev pub ConfigCause : Files → List ℕ → Counts → Counts → Status → Type 0
ConfigCause files name old new status = FileCause files name old new (IsMisconfigured files (Some name)) (λ line fault. ⊥) (λ at why. ⊥) status

-- the file gave no lines
abbrev pub LoadCause : Files → List ℕ → Counts → Counts → Status → Type 0
LoadCause files name old new status = FileCause files name old new (λ why. ⊥) (IsFaultAt files name) (λ at why. ⊥) status

-- the file gave no calls
abbrev pub LogCause : Files → List ℕ → Counts → Counts → Status → Type 0
LogCause files name old new status = FileCause files name old new (λ why. ⊥) (IsLogFaultAt files name) (λ at why. ⊥) status

-- the file gave no record of this kind
abbrev pub RecordCause : Files → Record → List ℕ → Counts → Counts → Status → Type 0
RecordCause files kind name old new status = FileCause files name old new (λ why. ⊥) (λ line fault. ⊥) (IsRecordFaultAt files kind name) status

-- the same of a configuration that need not be named
abbrev pub SettingCause : Files → Option (List ℕ) → Counts → Counts → Status → Type 0
SettingCause files None old new status = ⊥
SettingCause files (Some name) old new status = ConfigCause files name old new status

-- the status of a text that gives no configuration
abbrev pub config_status : ConfigText → Status
config_status NotToml = BadConfig NotToml
config_status (UnknownKey name) = BadConfig (UnknownKey name)
config_status (Kind name) = BadConfig (Kind name)
config_status (Rule why) = BadConfig (Rule why)
config_status NoConfigMemory = NoMemory

-- the status of a text that is no schedule
abbrev pub text_status : TextError → Status
text_status (Bad line why) = BadText line why
text_status (TextTooLong line) = TooLong line
text_status NoTextMemory = NoMemory

-- the status of bytes that are no record
abbrev pub record_status : ShowError → Status
record_status (BadBytes at why) = BadRecord at why
record_status NoShowMemory = NoMemory

-- why a replay was refused, or that memory ran out: a table by the status. The file of a configuration comes first, and of these causes the
-- files can have only one
abbrev pub RefusalCause : Files → List ℕ → Option (List ℕ) → Counts → Counts → Status → Type 0
RefusalCause files schedule config old new Done = ⊥
RefusalCause files schedule config old new (NotLegal clause a b) = ⊥
RefusalCause files schedule config old new Usage = ⊥
RefusalCause files schedule config old new (ShelfFault n) = IsWanted files schedule config n × Rose old.faults new.faults
RefusalCause files schedule config old new (NoFile n) = IsWanted files schedule config n × (Rose old.absences new.absences × FileIs files n (λ file. file ≡ None))
RefusalCause files schedule config old new (FileTooLarge n) = IsWanted files schedule config n × (Rose old.excesses new.excesses × FileIs files n (λ file. Exceeds file 67108864))
RefusalCause files schedule config old new (BadConfig why) = IsMisconfigured files config why
RefusalCause files schedule config old new (BadText line why) = IsConfigured files config × IsFaultAt files schedule line (faults.Bad why)
RefusalCause files schedule config old new (TooLong line) = IsConfigured files config × IsFaultAt files schedule line faults.TooLong
RefusalCause files schedule config old new (Full events held) = ⊥
RefusalCause files schedule config old new (BadRecord at why) = ⊥
RefusalCause files schedule config old new SinkFault = ⊥
RefusalCause files schedule config old new NoMemory = Unit {0}

-- the cause of each status of a replay: each comes exactly where its cause does, want of memory aside
abbrev pub Cause : Files → List ℕ → Option (List ℕ) → Counts → Counts → Status → Type 0
Cause files schedule config old new Done = IsLoaded files schedule config
Cause files schedule config old new (NotLegal clause a b) = ⊥
Cause files schedule config old new Usage = ⊥
Cause files schedule config old new (ShelfFault n) = RefusalCause files schedule config old new (ShelfFault n)
Cause files schedule config old new (NoFile n) = RefusalCause files schedule config old new (NoFile n)
Cause files schedule config old new (FileTooLarge n) = RefusalCause files schedule config old new (FileTooLarge n)
Cause files schedule config old new (BadConfig why) = RefusalCause files schedule config old new (BadConfig why)
Cause files schedule config old new (BadText line why) = RefusalCause files schedule config old new (BadText line why)
Cause files schedule config old new (TooLong line) = RefusalCause files schedule config old new (TooLong line)
Cause files schedule config old new (Full events held) = IsLoaded files schedule config
Cause files schedule config old new (BadRecord at why) = ⊥
Cause files schedule config old new SinkFault = IsLoaded files schedule config × Rose old.sink new.sink
Cause files schedule config old new NoMemory = Unit {0}

-- the cause of a status once the output is known, over the sink's count of faults before and after
abbrev pub WriteCause : ℕ → ℕ → Status → Type 0
WriteCause old new Done = Unit {0}
WriteCause old new (NotLegal clause a b) = ⊥
WriteCause old new Usage = ⊥
WriteCause old new (ShelfFault name) = ⊥
WriteCause old new (NoFile name) = ⊥
WriteCause old new (FileTooLarge name) = ⊥
WriteCause old new (BadConfig why) = ⊥
WriteCause old new (BadText line why) = ⊥
WriteCause old new (TooLong line) = ⊥
WriteCause old new (Full events held) = ⊥
WriteCause old new (BadRecord at why) = ⊥
WriteCause old new SinkFault = Rose old new
WriteCause old new NoMemory = Unit {0}

-- the cause of a status once the lines are known, over the sink's count of faults before and after
abbrev pub PlayCause : ℕ → ℕ → Status → Type 0
PlayCause old new Done = Unit {0}
PlayCause old new (NotLegal clause a b) = ⊥
PlayCause old new Usage = ⊥
PlayCause old new (ShelfFault name) = ⊥
PlayCause old new (NoFile name) = ⊥
PlayCause old new (FileTooLarge name) = ⊥
PlayCause old new (BadConfig why) = ⊥
PlayCause old new (BadText line why) = ⊥
PlayCause old new (TooLong line) = ⊥
PlayCause old new (Full events held) = Unit {0}
PlayCause old new (BadRecord at why) = ⊥
PlayCause old new SinkFault = Rose old new
PlayCause old new NoMemory = Unit {0}

-- the cause of a status once the calls of a log are known, over the sink's count of faults before and after
abbrev pub JudgeCause : List CallRec → ℕ → ℕ → Status → Type 0
JudgeCause calls old new Done = IsLegal calls
JudgeCause calls old new (NotLegal clause a b) = IsFirstBroken calls (record { clause = clause; a = a; b = b })
JudgeCause calls old new Usage = ⊥
JudgeCause calls old new (ShelfFault n) = ⊥
JudgeCause calls old new (NoFile n) = ⊥
JudgeCause calls old new (FileTooLarge n) = ⊥
JudgeCause calls old new (BadConfig why) = ⊥
JudgeCause calls old new (BadText line why) = ⊥
JudgeCause calls old new (TooLong line) = ⊥
JudgeCause calls old new (Full events held) = ⊥
JudgeCause calls old new (BadRecord at why) = ⊥
JudgeCause calls old new SinkFault = IsLegal calls × Rose old new
JudgeCause calls old new NoMemory = IsLegal calls

-- the cause of each status of a check: each comes exactly where its cause does, want of memory aside
abbrev pub CheckCause : Files → List ℕ → Counts → Counts → Status → Type 0
CheckCause files log old new Done = IsLegalLog files log
CheckCause files log old new (NotLegal clause a b) = IsBrokenLog files log (record { clause = clause; a = a; b = b })
CheckCause files log old new Usage = ⊥
CheckCause files log old new (ShelfFault n) = LogCause files log old new (ShelfFault n)
CheckCause files log old new (NoFile n) = LogCause files log old new (NoFile n)
CheckCause files log old new (FileTooLarge n) = LogCause files log old new (FileTooLarge n)
CheckCause files log old new (BadConfig why) = ⊥
CheckCause files log old new (BadText line why) = LogCause files log old new (BadText line why)
CheckCause files log old new (TooLong line) = LogCause files log old new (TooLong line)
CheckCause files log old new (Full events held) = ⊥
CheckCause files log old new (BadRecord at why) = ⊥
CheckCause files log old new SinkFault = IsLegalLog files log × Rose old.sink new.sink
CheckCause files log old new NoMemory = Unit {0}

-- the cause of each status of a record that is shown: each comes exactly where its cause does, want of memory aside
abbrev pub ShowCause : Files → Record → List ℕ → Counts → Counts → Status → Type 0
ShowCause files kind file old new Done = IsShownRecord files kind file
ShowCause files kind file old new (NotLegal clause a b) = ⊥
ShowCause files kind file old new Usage = ⊥
ShowCause files kind file old new (ShelfFault n) = RecordCause files kind file old new (ShelfFault n)
ShowCause files kind file old new (NoFile n) = RecordCause files kind file old new (NoFile n)
ShowCause files kind file old new (FileTooLarge n) = RecordCause files kind file old new (FileTooLarge n)
ShowCause files kind file old new (BadConfig why) = ⊥
ShowCause files kind file old new (BadText line why) = ⊥
ShowCause files kind file old new (TooLong line) = ⊥
ShowCause files kind file old new (Full events held) = ⊥
ShowCause files kind file old new (BadRecord at why) = RecordCause files kind file old new (BadRecord at why)
ShowCause files kind file old new SinkFault = IsShownRecord files kind file × Rose old.sink new.sink
ShowCause files kind file old new NoMemory = Unit {0}

-- the cause of a status over the words: they ask for a replay, a check, a record or a code, or are of no form. Words of a form are never
-- refused as usage, so each status comes exactly where its cause does, want of memory aside
abbrev pub RunCause : Option Task → Files → Counts → Counts → Status → Type 0
RunCause None files old new status = (status ≡ Usage) ⊎ (status ≡ NoMemory)
RunCause (Some (replay schedule config)) files old new status = Cause files schedule config old new status
RunCause (Some (check log)) files old new status = CheckCause files log old new status
RunCause (Some (show kind file)) files old new status = ShowCause files kind file old new status
RunCause (Some (code k m digits)) files old new status = WriteCause old.sink new.sink status

-- the status of an output that could not be written
abbrev pub sink_status : SinkError → Status
sink_status SinkFailed = SinkFault
sink_status NoSinkMemory = NoMemory

-- the input was refused: nothing was played
abbrev pub IsRefusal : Status → Type 0
IsRefusal Done = ⊥
IsRefusal (NotLegal clause a b) = Unit {0}
IsRefusal Usage = Unit {0}
IsRefusal (ShelfFault name) = Unit {0}
IsRefusal (NoFile name) = Unit {0}
IsRefusal (FileTooLarge name) = Unit {0}
IsRefusal (BadConfig why) = Unit {0}
IsRefusal (BadText line why) = Unit {0}
IsRefusal (TooLong line) = Unit {0}
IsRefusal (Full events held) = ⊥
IsRefusal (BadRecord at why) = Unit {0}
IsRefusal SinkFault = ⊥
IsRefusal NoMemory = ⊥

-- the schedule was played to its end
abbrev pub HasPlayed : Status → Type 0
HasPlayed Done = Unit {0}
HasPlayed (NotLegal clause a b) = ⊥
HasPlayed Usage = ⊥
HasPlayed (ShelfFault name) = ⊥
HasPlayed (NoFile name) = ⊥
HasPlayed (FileTooLarge name) = ⊥
HasPlayed (BadConfig why) = ⊥
HasPlayed (BadText line why) = ⊥
HasPlayed (TooLong line) = ⊥
HasPlayed (Full events held) = ⊥
HasPlayed (BadRecord at why) = ⊥
HasPlayed SinkFault = Unit {0}
HasPlayed NoMemory = ⊥

-- the words ask for a replay of a file that can be played, under a configuration that can be had, for the check of a log, for a file that can be
-- read to be shown, or for a code
abbrev pub IsFeasible : Option Task → Files → Type 0
IsFeasible None files = ⊥
IsFeasible (Some (replay schedule config)) files = CanConfigure files config × IsPlayable files schedule
IsFeasible (Some (check log)) files = IsReadableLog files log
IsFeasible (Some (show kind file)) files = IsReadableFile files file
IsFeasible (Some (code k m digits)) files = Unit {0}

-- no count of faults rose
pub record AreSteady (old new : Counts) : Type 0 where
  pub shelf : Rose old.faults new.faults → ⊥
  pub sink : Rose old.sink new.sink → ⊥

-- the words ask for the check of a file that is no legal log
abbrev pub ChecksIllegal : Option Task → Files → Type 0
ChecksIllegal None files = ⊥
ChecksIllegal (Some (replay schedule config)) files = ⊥
ChecksIllegal (Some (check log)) files = IsLegalLog files log → ⊥
ChecksIllegal (Some (show kind file)) files = ⊥
ChecksIllegal (Some (code k m digits)) files = ⊥

-- the words ask for a record of a file that is none
abbrev pub ShowsNone : Option Task → Files → Type 0
ShowsNone None files = ⊥
ShowsNone (Some (replay schedule config)) files = ⊥
ShowsNone (Some (check log)) files = ⊥
ShowsNone (Some (show kind file)) files = IsShownRecord files kind file → ⊥
ShowsNone (Some (code k m digits)) files = ⊥

-- a run that can be done ends so: it was done, the log isn't legal, the file is no record, the world was full, or memory ran out
abbrev pub IsPossibleEnd : Option Task → Files → Status → Type 0
IsPossibleEnd task files Done = Unit {0}
IsPossibleEnd task files (NotLegal clause a b) = ChecksIllegal task files
IsPossibleEnd task files Usage = ⊥
IsPossibleEnd task files (ShelfFault name) = ⊥
IsPossibleEnd task files (NoFile name) = ⊥
IsPossibleEnd task files (FileTooLarge name) = ⊥
IsPossibleEnd task files (BadConfig why) = ⊥
IsPossibleEnd task files (BadText line why) = ⊥
IsPossibleEnd task files (TooLong line) = ⊥
IsPossibleEnd task files (Full events held) = Unit {0}
IsPossibleEnd task files (BadRecord at why) = ShowsNone task files
IsPossibleEnd task files SinkFault = ⊥
IsPossibleEnd task files NoMemory = Unit {0}
