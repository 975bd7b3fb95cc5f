-- The answer that fields of a log stand for.
use Rattle.std.specs.Prelude.{ℕ, ◌^◌, ◌==◌, ◌&&◌, nat_le, if◌then◌else◌, List, length, filter_map, Option, Some, None, option_map, option_and_then, Result, Ok, Err, codes}
use Rattle.gz_core.specs.Names.{Name}
use Rattle.gz_core.specs.declared.calls.Answer.{Answer}
use Rattle.gz_core.specs.declared.calls.Answer.TheVariants as answers
use Rattle.gz_core.specs.declared.calls.Phase.{Phase}
use Rattle.gz_core.specs.declared.calls.Phase.TheVariants.{Look, Fast, Prepare, Accept, Trim}
use Rattle.gz_core.specs.declared.calls.UnsureWhy.{UnsureWhy}
use Rattle.gz_core.specs.declared.calls.UnsureWhy.TheVariants as unsures
use Rattle.gz_core.specs.declared.calls.HeldWhy.TheVariants.{NoOlder, NotWhole}
use Rattle.gz_core.specs.declared.fates.Fate.{Fate}
use Rattle.gz_core.specs.declared.fates.Fate.TheVariants.{Whole, Damaged, Missing, GivenUp, Failed}
use Rattle.gz_core.specs.declared.texts.Why.TheVariants as whys
use Rattle.gz_text.specs.declared.faults.Fault.{Fault}
use Rattle.gz_text.specs.declared.faults.Fault.TheVariants.{Bad}
use Rattle.gz_text.specs.Faults.{with, or_bad}
use Rattle.gz_text.specs.Fields.{number_below, number_field, positive_below, is_word}
use Rattle.gz_text.specs.Names.{name_field}
use Rattle.gz_text.specs.Places.{field_at, fields_from}
use Rattle.gz_logs.specs.declared.kinds.Kind.{Kind}
use Rattle.gz_logs.specs.declared.kinds.Told.{Told}
use Rattle.gz_logs.specs.declared.kinds.Told.TheVariants as told
use Rattle.gz_logs.specs.Bytes.{bytes_in}
use Rattle.gz_logs.specs.Kinds.{told_in, may_answer}

-- a version, from 1 on
abbrev pub version_in : List ℕ → Option ℕ
version_in field = positive_below (2 ^ 63) field

-- the one version of an answer, the latest one, which may be none, or its one count
abbrev pub version_alone : List (List ℕ) → Option ℕ
version_alone fields = if length fields == 2 then version_in (field_at 1 fields) else None

abbrev pub latest_alone : List (List ℕ) → Option ℕ
latest_alone fields = if length fields == 2 then number_below (2 ^ 63) (field_at 1 fields) else None

abbrev pub count_alone : List (List ℕ) → Option ℕ
count_alone fields = if length fields == 2 then number_field (field_at 1 fields) else None

-- a version and a count
abbrev pub version_with : List (List ℕ) → ℕ → Option (ℕ × ℕ)
version_with fields version = option_map (λ count. (version, count)) (number_field (field_at 2 fields))

abbrev pub version_and_count : List (List ℕ) → Option (ℕ × ℕ)
version_and_count fields = if length fields == 3 then option_and_then (version_with fields) (version_in (field_at 1 fields)) else None

-- a version and the name of its value
abbrev pub version_of : List (List ℕ) → ℕ → Option (ℕ × Name)
version_of fields version = option_map (λ name. (version, name)) (name_field (field_at 2 fields))

abbrev pub versioned : List (List ℕ) → Option (ℕ × Name)
versioned fields = option_and_then (version_of fields) (version_in (field_at 1 fields))

-- what came of a fragment
abbrev pub fate_in : ℕ → Option Fate
fate_in letter =
    if letter == 87 then Some Whole
    else (if letter == 68 then Some Damaged
    else (if letter == 77 then Some Missing
    else (if letter == 71 then Some GivenUp
    else (if letter == 70 then Some Failed
    else None))))

-- 1 to 16 fates
abbrev pub fates_within : List Fate → Option (List Fate)
fates_within fates = if nat_le 1 (length fates) && nat_le (length fates) 16 then Some fates else None

-- a letter for each fragment
abbrev pub fates_in : List ℕ → Option (List Fate)
fates_in field = if length (filter_map fate_in field) == length field then fates_within (filter_map fate_in field) else None

-- `incomplete V NAME FATES`
abbrev pub incomplete_with : List (List ℕ) → ℕ × Name → Option Answer
incomplete_with fields read = option_map (λ fates. answers.Incomplete read.0 read.1 fates) (fates_in (field_at 3 fields))

abbrev pub incomplete_in : List (List ℕ) → Option Answer
incomplete_in fields = if length fields == 4 then option_and_then (incomplete_with fields) (versioned fields) else None

-- `gone V NAME`
abbrev pub gone_in : List (List ℕ) → Option Answer
gone_in fields = if length fields == 3 then option_map (λ read. answers.Gone read.0 read.1) (versioned fields) else None

-- `bytes V NAME HEX`
abbrev pub found_in : List (List ℕ) → Result Answer Fault
found_in fields =
    if length fields == 4
    then with (or_bad whys.Answer (versioned fields)) (λ read. with (bytes_in whys.Answer (field_at 3 fields)) (λ bytes. Ok (answers.Bytes read.0 read.1 bytes)))
    else Err (Bad whys.Answer)

-- `held noolder`, `held notwhole FATES`
abbrev pub held_in : List (List ℕ) → Option Answer
held_in fields =
    if length fields == 2 && is_word (codes "noolder") (field_at 1 fields) then Some (answers.Held NoOlder)
    else (if length fields == 3 && is_word (codes "notwhole") (field_at 1 fields)
    then option_map (λ fates. answers.Held (NotWhole fates)) (fates_in (field_at 2 fields))
    else None)

-- the phase of a word
abbrev pub phase_in : List ℕ → Option Phase
phase_in word =
    if is_word (codes "look") word then Some Look
    else (if is_word (codes "fast") word then Some Fast
    else (if is_word (codes "prepare") word then Some Prepare
    else (if is_word (codes "accept") word then Some Accept
    else (if is_word (codes "trim") word then Some Trim
    else None))))

-- `noquorum PHASE HEARD`
abbrev pub phase_with : List (List ℕ) → Phase → Option (Phase × ℕ)
phase_with fields phase = option_map (λ heard. (phase, heard)) (number_field (field_at 2 fields))

abbrev pub no_quorum_in : List (List ℕ) → Option (Phase × ℕ)
no_quorum_in fields = if length fields == 3 then option_and_then (phase_with fields) (phase_in (field_at 1 fields)) else None

-- why a put or delete ended without knowing, by the first of these fields
abbrev pub unsure_by : List ℕ → List (List ℕ) → Option UnsureWhy
unsure_by word fields =
    if is_word (codes "noquorum") word then option_map (λ p. unsures.NoQuorum p.0 p.1) (no_quorum_in fields)
    else (if is_word (codes "contended") word then option_map (λ met. unsures.Contended met) (count_alone fields)
    else (if is_word (codes "trimmed") word then option_map (λ floor. unsures.Trimmed floor) (version_alone fields)
    else None))

abbrev pub unsure_in : List (List ℕ) → Option UnsureWhy
unsure_in fields = unsure_by (field_at 1 fields) (fields_from 1 fields)

-- `absent`
abbrev pub absent_in : List (List ℕ) → Option Answer
absent_in fields = if length fields == 1 then Some answers.Absent else None

-- the answers of numbers and words alone
abbrev pub plain_in : Told → List (List ℕ) → Option Answer
plain_in told.Ok fields = option_map (λ version. answers.Ok version) (version_alone fields)
plain_in told.Thin fields = option_map (λ p. answers.Thin p.0 p.1) (version_and_count fields)
plain_in told.Short fields = option_map (λ stored. answers.Short stored) (count_alone fields)
plain_in told.Absent fields = absent_in fields
plain_in told.Unborn fields = option_map (λ latest. answers.Unborn latest) (latest_alone fields)
plain_in told.Collected fields = option_map (λ floor. answers.Collected floor) (version_alone fields)
plain_in told.Swept fields = option_map (λ p. answers.Swept p.0 p.1) (version_and_count fields)
plain_in told.NoQuorum fields = option_map (λ p. answers.NoQuorum p.0 p.1) (no_quorum_in fields)
plain_in told.Contended fields = option_map (λ met. answers.Contended met) (count_alone fields)
plain_in told.Unsure fields = option_map (λ why. answers.Unsure why) (unsure_in fields)
plain_in kind fields = None

-- an answer of this kind
abbrev pub answer_by : Told → List (List ℕ) → Result Answer Fault
answer_by told.Bytes fields = found_in fields
answer_by told.Incomplete fields = or_bad whys.Answer (incomplete_in fields)
answer_by told.Gone fields = or_bad whys.Answer (gone_in fields)
answer_by told.Held fields = or_bad whys.Answer (held_in fields)
answer_by kind fields = or_bad whys.Answer (plain_in kind fields)

-- an answer of a kind of call
abbrev pub answer_for : Kind → Option Told → List (List ℕ) → Result Answer Fault
answer_for kind None fields = Err (Bad whys.Answer)
answer_for kind (Some answer) fields = if may_answer kind answer then answer_by answer fields else Err (Bad whys.Answer)

abbrev pub answer_in : Kind → List (List ℕ) → Result Answer Fault
answer_in kind fields = answer_for kind (told_in (field_at 0 fields)) fields
