-- The text of a log: a line for each call, in the order of beginning, and a last line with the counts.
use Rattle.std.specs.Prelude.{ℕ, List, [], ◌∷◌, ◌++◌, length, flat_map, Option, Some, None, decimal, codes}
use Rattle.hex.specs.Hex.{encode_lower}
use Rattle.gz_core.specs.Names.{Name}
use Rattle.gz_core.specs.declared.calls.Call.{Call}
use Rattle.gz_core.specs.declared.calls.Call.TheVariants.{Put, Delete, Get, GetAt, Collect}
use Rattle.gz_core.specs.declared.calls.Phase.{Phase}
use Rattle.gz_core.specs.declared.calls.Phase.TheVariants.{Look, Fast, Prepare, Accept, Trim}
use Rattle.gz_core.specs.declared.calls.UnsureWhy.{UnsureWhy}
use Rattle.gz_core.specs.declared.calls.UnsureWhy.TheVariants.{NoQuorum as UnsureNoQuorum, Contended as UnsureContended, Trimmed}
use Rattle.gz_core.specs.declared.calls.HeldWhy.{HeldWhy}
use Rattle.gz_core.specs.declared.calls.HeldWhy.TheVariants.{NoOlder, NotWhole}
use Rattle.gz_core.specs.declared.fates.Fate.{Fate}
use Rattle.gz_core.specs.declared.fates.Fate.TheVariants.{Whole, Damaged, Missing, GivenUp, Failed}
use Rattle.gz_core.specs.declared.calls.Answer.{Answer}
use Rattle.gz_core.specs.declared.calls.Answer.TheVariants.{Ok as Placed, Thin, Short, Bytes, Incomplete, Gone, Absent, Unborn, Collected, Swept, Held, NoQuorum, Contended, Unsure}
use Rattle.gz_core.specs.Calls.{key_of}
use Rattle.gz_history.specs.declared.record.CallRec.{CallRec}

-- a name: its session and its number, with a point between
abbrev pub name_text : Name → List ℕ
name_text n = decimal n.session ++ codes "." ++ decimal n.seq

-- bytes in lower-case hexadecimal, a dash where there are none
abbrev pub bytes_text : List ℕ → List ℕ
bytes_text [] = codes "-"
bytes_text (b ∷ bs) = encode_lower (b ∷ bs)

-- the kind of a call
abbrev pub kind_text : Call → List ℕ
kind_text (Put key bytes) = codes "put"
kind_text (Delete key) = codes "delete"
kind_text (Get key) = codes "get"
kind_text (GetAt key version) = codes "getat"
kind_text (Collect key keep) = codes "collect"

-- what a call was given beside its key
abbrev pub argument_text : Call → List ℕ
argument_text (Put key bytes) = bytes_text bytes
argument_text (Delete key) = codes "-"
argument_text (Get key) = codes "-"
argument_text (GetAt key version) = decimal version
argument_text (Collect key keep) = decimal keep

-- a tick, a dash where there is none
abbrev pub tick_text : Option ℕ → List ℕ
tick_text None = codes "-"
tick_text (Some tick) = decimal tick

-- the phase of the last row write that a call sent
abbrev pub phase_text : Phase → List ℕ
phase_text Look = codes "look"
phase_text Fast = codes "fast"
phase_text Prepare = codes "prepare"
phase_text Accept = codes "accept"
phase_text Trim = codes "trim"

-- that too few sites were left, the phase of the last row write, and how many sites were heard
abbrev pub no_quorum_text : Phase → ℕ → List ℕ
no_quorum_text phase heard = codes "noquorum " ++ phase_text phase ++ codes " " ++ decimal heard

-- why a write ended without knowing
abbrev pub unsure_text : UnsureWhy → List ℕ
unsure_text (UnsureNoQuorum phase heard) = no_quorum_text phase heard
unsure_text (UnsureContended met) = codes "contended " ++ decimal met
unsure_text (Trimmed floor) = codes "trimmed " ++ decimal floor

-- what came of a fragment
abbrev pub fate_text : Fate → List ℕ
fate_text Whole = codes "W"
fate_text Damaged = codes "D"
fate_text Missing = codes "M"
fate_text GivenUp = codes "G"
fate_text Failed = codes "F"

-- a letter for each fragment
abbrev pub fates_text : List Fate → List ℕ
fates_text fates = flat_map fate_text fates

-- why nothing was collected
abbrev pub held_text : HeldWhy → List ℕ
held_text NoOlder = codes "noolder"
held_text (NotWhole fates) = codes "notwhole " ++ fates_text fates

-- a word, and the version and the name of the value that was read
abbrev pub versioned_text : List ℕ → ℕ → Name → List ℕ
versioned_text word version name = word ++ decimal version ++ codes " " ++ name_text name

-- an answer
abbrev pub told_text : Answer → List ℕ
told_text (Placed version) = codes "ok " ++ decimal version
told_text (Thin version stored) = codes "thin " ++ decimal version ++ codes " " ++ decimal stored
told_text (Short stored) = codes "short " ++ decimal stored
told_text (Bytes version name bytes) = versioned_text (codes "bytes ") version name ++ codes " " ++ bytes_text bytes
told_text (Incomplete version name fates) = versioned_text (codes "incomplete ") version name ++ codes " " ++ fates_text fates
told_text (Gone version name) = versioned_text (codes "gone ") version name
told_text Absent = codes "absent"
told_text (Unborn latest) = codes "unborn " ++ decimal latest
told_text (Collected floor) = codes "collected " ++ decimal floor
told_text (Swept floor dropped) = codes "swept " ++ decimal floor ++ codes " " ++ decimal dropped
told_text (Held why) = codes "held " ++ held_text why
told_text (NoQuorum phase heard) = no_quorum_text phase heard
told_text (Contended met) = codes "contended " ++ decimal met
told_text (Unsure why) = codes "unsure " ++ unsure_text why

-- an answer, `open` where there is none
abbrev pub answer_text : Option Answer → List ℕ
answer_text None = codes "open"
answer_text (Some answer) = told_text answer

-- what was asked: the name, the kind, the key and the argument of a call
abbrev pub asked_text : Name → Call → List ℕ
asked_text name call = name_text name ++ codes " " ++ kind_text call ++ codes " " ++ key_of call ++ codes " " ++ argument_text call

-- the line of a call: what was asked, its beginning, its end and its answer
abbrev pub line_text : CallRec → List ℕ
line_text c =
    asked_text c.name c.call ++ codes " " ++ decimal c.begin ++ codes " " ++ tick_text c.end ++ codes " " ++ answer_text c.answer ++ codes "\n"

-- the last line: how many calls, events and skipped events there were
abbrev pub end_text : ℕ → ℕ → ℕ → List ℕ
end_text calls events skipped = codes "end " ++ decimal calls ++ codes " " ++ decimal events ++ codes " " ++ decimal skipped ++ codes "\n"

-- the whole log
abbrev pub log_of : List CallRec → ℕ → ℕ → List ℕ
log_of calls events skipped = flat_map line_text calls ++ end_text (length calls) events skipped
