-- What a line of a log says of a call before its answer: what was asked, and when it began and ended.
use Rattle.std.specs.Prelude.{ℕ, if◌then◌else◌, List, Option, Some, None, Result, Ok, Err}
use Rattle.gz_core.specs.declared.calls.Call.{Call}
use Rattle.gz_core.specs.declared.calls.Call.TheVariants as calls
use Rattle.gz_core.specs.declared.texts.Why.TheVariants as whys
use Rattle.gz_text.specs.declared.faults.Fault.{Fault}
use Rattle.gz_text.specs.declared.faults.Fault.TheVariants.{Bad}
use Rattle.gz_text.specs.Faults.{with, or_bad}
use Rattle.gz_text.specs.Fields.{number_field, positive_below, key_field, is_dash}
use Rattle.gz_text.specs.Places.{field_at}
use Rattle.gz_logs.specs.declared.kinds.Kind.{Kind}
use Rattle.gz_logs.specs.declared.kinds.Kind.TheVariants.{Put, Delete, Get, GetAt, Collect}
use Rattle.gz_logs.specs.declared.calls.Timed.{Timed}
use Rattle.gz_logs.specs.Answers.{version_in}
use Rattle.gz_logs.specs.Bytes.{bytes_in}
use Rattle.gz_logs.specs.Kinds.{kind_in}

-- a call without an argument
abbrev pub bare_in : List ℕ → Call → Result Call Fault
bare_in argument call = if is_dash argument then Ok call else Err (Bad whys.Number)

-- a call of a kind, with its argument
abbrev pub call_in : Kind → List ℕ → List ℕ → Result Call Fault
call_in Put key argument = with (bytes_in whys.Bytes argument) (λ bytes. Ok (calls.Put key bytes))
call_in Delete key argument = bare_in argument (calls.Delete key)
call_in Get key argument = bare_in argument (calls.Get key)
call_in GetAt key argument = with (or_bad whys.Number (version_in argument)) (λ version. Ok (calls.GetAt key version))
call_in Collect key argument = with (or_bad whys.Number (positive_below 1001 argument)) (λ keep. Ok (calls.Collect key keep))

-- a kind, a key and an argument
abbrev pub asked_in : List (List ℕ) → Result Call Fault
asked_in fields =
    with (or_bad whys.Word (kind_in (field_at 1 fields))) (λ kind.
    with (or_bad whys.Key (key_field (field_at 2 fields))) (λ key.
    call_in kind key (field_at 3 fields)))

-- a tick, a dash where there is none
abbrev pub end_in : List ℕ → Result (Option ℕ) Fault
end_in field = if is_dash field then Ok None else with (or_bad whys.Number (number_field field)) (λ tick. Ok (Some tick))

-- what was asked, the beginning and the end
abbrev pub timed_in : List (List ℕ) → Result Timed Fault
timed_in fields =
    with (asked_in fields) (λ call.
    with (or_bad whys.Number (number_field (field_at 4 fields))) (λ begin.
    with (end_in (field_at 5 fields)) (λ end.
    Ok (record { call = call; begin = begin; end = end }))))
