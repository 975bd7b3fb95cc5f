-- What the files of a run give: a configuration, the lines of a schedule, the calls of a log, and the lines of a record.
use Rattle.std.specs.Prelude.{ℕ, ◌≡◌, ◌≤◌, ◌⊎◌, List, length, filter_map, Option, Some, None, Result, Ok, Err}
use Rattle.gz_config.specs.declared.Config.{Config}
use Rattle.gz_config.specs.declared.Order.TheVariants.{Parallel}
use Rattle.gz_settings.specs.Settings.{read_of}
use Rattle.gz_settings.specs.declared.refusal.ConfigText.{ConfigText}
use Rattle.gz_lines.specs.Schedule.{readings, line_of, AreFaultless, IsFirstFault}
use Rattle.gz_lines.specs.declared.line.Line.{Line}
use Rattle.gz_show.specs.Shown.{IsRowText, IsFragmentText, shown_row, shown_fragment}
use Rattle.gz_show.specs.declared.errors.RecordWhy.{RecordWhy}
use Rattle.gz_show.specs.declared.errors.ShowError.{ShowError}
use Rattle.gz_show.specs.declared.errors.ShowError.TheVariants.{Bad}
use Rattle.gz_text.specs.declared.faults.Fault.{Fault}
use Rattle.gz_words.specs.declared.command.Record.{Record}
use Rattle.gz_words.specs.declared.command.Record.TheVariants.{Row, Fragment}
use Rattle.gz_history.specs.Broken.{IsFirstBroken}
use Rattle.gz_history.specs.Legal.{IsLegal}
use Rattle.gz_history.specs.declared.legality.Broken.{Broken}
use Rattle.gz_history.specs.declared.record.CallRec.{CallRec}
use Rattle.gz_logs.specs.Parsed.{Log, parsed}

-- the files of a shelf, none where it does not tell them
abbrev pub Files : Type 0
Files = Option (List ℕ → Option (List ℕ))

-- a fact of the file of this name; nothing of a shelf that does not tell
abbrev pub FileIs : Files → List ℕ → (Option (List ℕ) → Type 0) → Type 0
FileIs None name P = Unit {0}
FileIs (Some files) name P = P (files name)

-- the file is there, and has these bytes, at most 67,108,864
pub record HasBytes (files : Files) (name bytes : List ℕ) : Type 0 where
  pub file : FileIs files name (λ file. file ≡ Some bytes)
  pub within : length bytes ≤ 67108864

-- the configuration of a run that names none: three sites, of which one may be lost
abbrev pub default : Config
default = record { n = 3; qc = 2; qf = 3; k = 2; m = 1; f = 0; tries = 8; order = Parallel }

-- the configuration that the words and the files give: that of the file that is named, the default where none is
abbrev pub Configures : Files → Option (List ℕ) → Config → Type 0
Configures files None cfg = cfg ≡ default
Configures files (Some name) cfg = (bytes : List ℕ) × (HasBytes files name bytes × (read_of bytes ≡ Ok cfg))

-- they give one
abbrev pub IsConfigured : Files → Option (List ℕ) → Type 0
IsConfigured files config = (cfg : Config) × Configures files config cfg

-- the file that is named gives none, and this is the first reason
abbrev pub IsMisconfigured : Files → Option (List ℕ) → ConfigText → Type 0
IsMisconfigured files None why = ⊥
IsMisconfigured files (Some name) why = (bytes : List ℕ) × (HasBytes files name bytes × (read_of bytes ≡ Err why))

-- the bytes are those of a schedule with these lines
pub record IsSchedule (bytes : List ℕ) (found : List Line) : Type 0 where
  pub faultless : AreFaultless (readings bytes) (length (readings bytes))
  pub lines : found ≡ filter_map line_of (readings bytes)

-- the file is a schedule with these lines
abbrev pub Loads : Files → List ℕ → List Line → Type 0
Loads files name lines = (bytes : List ℕ) × (HasBytes files name bytes × IsSchedule bytes lines)

-- this line of the file, counted from 1, is the first with a fault, and has this one
abbrev pub IsFaultAt : Files → List ℕ → ℕ → Fault → Type 0
IsFaultAt files name line fault = (bytes : List ℕ) × (HasBytes files name bytes × IsFirstFault (readings bytes) line fault)

-- a configuration is given, and the file is a schedule
abbrev pub IsLoaded : Files → List ℕ → Option (List ℕ) → Type 0
IsLoaded files schedule config = IsConfigured files config × ((lines : List Line) × Loads files schedule lines)

-- the file of this name is wanted: it is that of the configuration, or it is that of the schedule and a configuration is given
abbrev pub IsWanted : Files → List ℕ → Option (List ℕ) → List ℕ → Type 0
IsWanted files schedule config name = (config ≡ Some name) ⊎ ((name ≡ schedule) × IsConfigured files config)

-- the shelf tells that the file has these bytes
abbrev pub TellsBytes : Files → List ℕ → List ℕ → Type 0
TellsBytes None name bytes = ⊥
TellsBytes (Some files) name bytes = files name ≡ Some bytes

-- the shelf tells the file, which is within the limit and of which no line has a fault
pub record IsPlayable (files : Files) (name : List ℕ) : Type 0 where
  pub bytes : List ℕ
  pub file : TellsBytes files name bytes
  pub within : length bytes ≤ 67108864
  pub faultless : AreFaultless (readings bytes) (length (readings bytes))

-- the shelf tells the file, which is within the limit and gives a configuration
pub record IsSetting (files : Files) (name : List ℕ) : Type 0 where
  pub bytes : List ℕ
  pub file : TellsBytes files name bytes
  pub within : length bytes ≤ 67108864
  pub config : Config
  pub read : read_of bytes ≡ Ok config

-- no configuration is named, or such a file
abbrev pub CanConfigure : Files → Option (List ℕ) → Type 0
CanConfigure files None = Unit {0}
CanConfigure files (Some name) = IsSetting files name

-- the bytes spell a log of these calls
abbrev pub SpellsCalls : List ℕ → List CallRec → Type 0
SpellsCalls bytes calls = (events skipped : ℕ) × (parsed bytes ≡ Ok (record { calls = calls; events = events; skipped = skipped }))

-- the file is a log of these calls
abbrev pub LoadsLog : Files → List ℕ → List CallRec → Type 0
LoadsLog files name calls = (bytes : List ℕ) × (HasBytes files name bytes × SpellsCalls bytes calls)

-- this line of the file is the first that keeps it from being a log, and has this fault
abbrev pub IsLogFaultAt : Files → List ℕ → ℕ → Fault → Type 0
IsLogFaultAt files name line fault = (bytes : List ℕ) × (HasBytes files name bytes × (parsed bytes ≡ Err (record { line = line; fault = fault })))

-- the file is a legal log
abbrev pub IsLegalLog : Files → List ℕ → Type 0
IsLegalLog files name = (calls : List CallRec) × (LoadsLog files name calls × IsLegal calls)

-- the file is a log that isn't legal, and this is where it is first broken
abbrev pub IsBrokenLog : Files → List ℕ → Broken → Type 0
IsBrokenLog files name broken = (calls : List CallRec) × (LoadsLog files name calls × IsFirstBroken calls broken)

-- the shelf tells the file, which is within the limit and is a log
pub record IsReadableLog (files : Files) (name : List ℕ) : Type 0 where
  pub bytes : List ℕ
  pub file : TellsBytes files name bytes
  pub within : length bytes ≤ 67108864
  pub log : Log
  pub reads : parsed bytes ≡ Ok log

-- the bytes are a record of this kind, and these are its lines
abbrev pub IsRecordText : Record → List ℕ → List ℕ → Type 0
IsRecordText Row bytes text = IsRowText bytes text
IsRecordText Fragment bytes text = IsFragmentText bytes text

-- the lines of the record of this kind that the bytes are, or their first fault
abbrev pub shown : Record → List ℕ → Result (List ℕ) ShowError
shown Row bytes = shown_row bytes
shown Fragment bytes = shown_fragment bytes

-- the file is a record of this kind, and these are its lines
abbrev pub LoadsRecord : Files → Record → List ℕ → List ℕ → Type 0
LoadsRecord files kind name text = (bytes : List ℕ) × (HasBytes files name bytes × IsRecordText kind bytes text)

-- the file is no record of this kind, and this is its first fault
abbrev pub IsRecordFaultAt : Files → Record → List ℕ → ℕ → RecordWhy → Type 0
IsRecordFaultAt files kind name at why = (bytes : List ℕ) × (HasBytes files name bytes × (shown kind bytes ≡ Err (Bad at why)))

-- the file is a record of this kind
abbrev pub IsShownRecord : Files → Record → List ℕ → Type 0
IsShownRecord files kind name = (text : List ℕ) × LoadsRecord files kind name text

-- the shelf tells the file, which is within the limit
pub record IsReadableFile (files : Files) (name : List ℕ) : Type 0 where
  pub bytes : List ℕ
  pub file : TellsBytes files name bytes
  pub within : length bytes ≤ 67108864
