-- A run that can be done is done, or its world was full, or memory ran out.
use Rattle.std.proofs.Common.{ℕ, ◌≡◌, ◌-◌, ◌≤◌, ◌<◌, List, length, subst, arith, inl, inr, sym}
use Rattle.std.specs.Prelude.{Option, Some, None, Err}
use Rattle.gz_settings.specs.Settings.{read_of}
use Rattle.gz_settings.specs.declared.refusal.ConfigText.{ConfigText}
use Rattle.gz_site.specs.Files.{Exceeds}
use Rattle.gz_text.specs.declared.faults.Fault.{Fault}
use Rattle.gz_text.specs.declared.faults.Fault.TheVariants as faults
use Rattle.gz_lines.specs.Schedule.{readings, AreFaultless, IsFirstFault, fault_at}
use Rattle.gz_words.specs.Words.{replay}
use Rattle.gz_cli.specs.declared.status.Status.{Status}
use Rattle.gz_cli.specs.declared.status.Status.TheVariants.{Done, NotLegal, Usage, ShelfFault, NoFile, FileTooLarge, BadConfig, BadText, TooLong, Full, BadRecord, SinkFault, NoMemory}
use Rattle.gz_cli.specs.Inputs.{Files, FileIs, IsFaultAt, IsMisconfigured, IsWanted, TellsBytes, IsPlayable, IsSetting, CanConfigure}
use Rattle.gz_cli.specs.Causes.{Counts, Cause, AreSteady, IsPossibleEnd}

-- the shelf tells the file, which is within the limit
record IsTold (files : Files) (name : List ℕ) : Type 0 where
  bytes : List ℕ
  file : TellsBytes files name bytes
  within : length bytes ≤ 67108864

setting-told : (files : Files) (config : Option (List ℕ)) (n : List ℕ) → CanConfigure files config → config ≡ Some n → IsTold files n
setting-told files config n can named =
    let s : IsSetting files n = subst (λ (c : Option (List ℕ)). CanConfigure files c) named can in
    record { bytes = s.bytes; file = s.file; within = s.within }

schedule-told : (files : Files) (schedule n : List ℕ) → IsPlayable files schedule → n ≡ schedule → IsTold files n
schedule-told files schedule n good same = record { bytes = good.bytes; file = subst (λ (k : List ℕ). TellsBytes files k good.bytes) (sym same) good.file; within = good.within }

-- the files that are wanted are told
wanted-told : (files : Files) (schedule : List ℕ) (config : Option (List ℕ)) (n : List ℕ) → CanConfigure files config → IsPlayable files schedule → IsWanted files schedule config n → IsTold files n
wanted-told files schedule config n can good (inl named) = setting-told files config n can named
wanted-told files schedule config n can good (inr other) = schedule-told files schedule n good other.0

pub not-absent : (files : Files) (name bytes : List ℕ) → TellsBytes files name bytes → FileIs files name (λ file. file ≡ None) → ⊥
not-absent None name bytes tells absent = tells
not-absent (Some files) name bytes tells absent = cc

pub not-large : (files : Files) (name bytes : List ℕ) → TellsBytes files name bytes → length bytes ≤ 67108864 → FileIs files name (λ file. Exceeds file 67108864) → ⊥
not-large None name bytes tells within large = tells
not-large (Some files) name bytes tells within large =
    let above : 67108864 < length bytes = subst (λ (file : Option (List ℕ)). Exceeds file 67108864) tells large in
    omega arith

pub same-bytes : (files : Files) (name bytes others : List ℕ) → TellsBytes files name bytes → FileIs files name (λ file. file ≡ Some others) → others ≡ bytes
same-bytes None name bytes others tells is = absurd tells
same-bytes (Some files) name bytes others tells is = cc

-- a file that gives a configuration is not refused
not-refused : (files : Files) (config : Option (List ℕ)) (why : ConfigText) → CanConfigure files config → IsMisconfigured files config why → ⊥
not-refused files None why can refused = refused
not-refused files (Some name) why can refused =
    let same = same-bytes files name can.bytes refused.0 can.file refused.1.0.file in
    let ok = can.read in
    let err : read_of can.bytes ≡ Err why = subst (λ (bs : List ℕ). read_of bs ≡ Err why) same refused.1.1 in
    cc

not-faulty : (bytes : List ℕ) (line : ℕ) (fault : Fault) → AreFaultless (readings bytes) (length (readings bytes)) → IsFirstFault (readings bytes) line fault → ⊥
not-faulty bytes line fault faultless first =
    let counted : 1 ≤ line = first.counted in
    let within : line ≤ length (readings bytes) = first.within in
    let none : fault_at (readings bytes) (line - 1) ≡ None = faultless (line - 1) (omega arith) in
    let some : fault_at (readings bytes) (line - 1) ≡ Some fault = first.found in
    cc

not-faulty-in : (files : Files) (name bytes : List ℕ) (line : ℕ) (fault : Fault) → TellsBytes files name bytes → AreFaultless (readings bytes) (length (readings bytes)) → IsFaultAt files name line fault → ⊥
not-faulty-in files name bytes line fault tells faultless faulty =
    let same = same-bytes files name bytes faulty.0 tells faulty.1.0.file in
    not-faulty bytes line fault faultless (subst (λ (bs : List ℕ). IsFirstFault (readings bs) line fault) same faulty.1.1)

-- files that can be played give Done, or the world was full, or memory ran out
pub replay-completes : (files : Files) (schedule : List ℕ) (config : Option (List ℕ)) (old new : Counts) (status : Status) → Cause files schedule config old new status
    → CanConfigure files config → IsPlayable files schedule → AreSteady old new → IsPossibleEnd (Some (replay schedule config)) files status
replay-completes files schedule config old new Done cause can good steady = tt
replay-completes files schedule config old new (NotLegal clause a b) cause can good steady = cause
replay-completes files schedule config old new Usage cause can good steady = cause
replay-completes files schedule config old new (ShelfFault n) cause can good steady = steady.shelf cause.1
replay-completes files schedule config old new (NoFile n) cause can good steady =
    let told = wanted-told files schedule config n can good cause.0 in
    not-absent files n told.bytes told.file cause.1.1
replay-completes files schedule config old new (FileTooLarge n) cause can good steady =
    let told = wanted-told files schedule config n can good cause.0 in
    not-large files n told.bytes told.file told.within cause.1.1
replay-completes files schedule config old new (BadConfig why) cause can good steady = not-refused files config why can cause
replay-completes files schedule config old new (BadText line why) cause can good steady = not-faulty-in files schedule good.bytes line (faults.Bad why) good.file good.faultless cause.1
replay-completes files schedule config old new (TooLong line) cause can good steady = not-faulty-in files schedule good.bytes line faults.TooLong good.file good.faultless cause.1
replay-completes files schedule config old new (Full events held) cause can good steady = tt
replay-completes files schedule config old new (BadRecord at why) cause can good steady = cause
replay-completes files schedule config old new SinkFault cause can good steady = steady.sink cause.1
replay-completes files schedule config old new NoMemory cause can good steady = tt
