-- What a line of a schedule reads as.
use Rattle.std.specs.Prelude.{ℕ, ◌==◌, if◌then◌else◌, List, [], length, Option, Some, None, Result, Ok, Err, codes}
use Rattle.gz_core.specs.declared.calls.Call.TheVariants as calls
use Rattle.gz_core.specs.declared.texts.Why.TheVariants as whys
use Rattle.gz_text.specs.declared.faults.Fault.{Fault}
use Rattle.gz_text.specs.declared.faults.Fault.TheVariants.{Bad}
use Rattle.gz_lines.specs.declared.line.Line.{Line}
use Rattle.gz_lines.specs.declared.line.Line.TheVariants.{OpenSession, Begin, Deliver, Reply, GiveUp, Crash, Take, Settle, Drain}
use Rattle.gz_lines.specs.declared.line.Reading.{Reading}
use Rattle.gz_lines.specs.declared.line.Reading.TheVariants.{Skipped, Faulty, Is}
use Rattle.gz_lines.specs.declared.verbs.Verb.{Verb}
use Rattle.gz_lines.specs.declared.verbs.Verb.TheVariants as verbs
use Rattle.gz_text.specs.Texts.{fields_of}
use Rattle.gz_text.specs.Fields.{number_field, key_field, is_word}
use Rattle.gz_text.specs.Faults.{with, or_bad}
use Rattle.gz_lines.specs.Fields.{session_field, version_field, sites_field}
use Rattle.gz_lines.specs.Bytes.{bytes_in}
use Rattle.gz_lines.specs.Counts.{first_of, one_of, two_of, three_of, counted}
use Rattle.gz_lines.specs.Verbs.{verb_of}

-- a field as what it should be, or its fault
abbrev pub number_in : List ℕ → Result ℕ Fault
number_in field = or_bad whys.Number (number_field field)

abbrev pub session_in : List ℕ → Result ℕ Fault
session_in field = or_bad whys.Number (session_field field)

abbrev pub version_in : List ℕ → Result ℕ Fault
version_in field = or_bad whys.Number (version_field field)

abbrev pub key_in : List ℕ → Result (List ℕ) Fault
key_in field = or_bad whys.Key (key_field field)

abbrev pub list_in : List ℕ → Result (List ℕ) Fault
list_in field = or_bad whys.List (sites_field field)

-- the one number, or session, of a line
abbrev pub number_alone : List (List ℕ) → Result ℕ Fault
number_alone fields = counted (one_of fields) number_in

abbrev pub session_alone : List (List ℕ) → Result ℕ Fault
session_alone fields = counted (one_of fields) session_in

-- `session`
abbrev pub open_line : List (List ℕ) → Result Line Fault
open_line fields = if length fields == 1 then Ok OpenSession else Err (Bad whys.Count)

-- `put S KEY BYTES`
abbrev pub put_line : List (List ℕ) → Result Line Fault
put_line fields = counted (three_of fields) (λ p. with (session_in p.0) (λ session. with (key_in p.1) (λ key. with (bytes_in p.2) (λ bytes. Ok (Begin session (calls.Put key bytes))))))

-- `delete S KEY`
abbrev pub delete_line : List (List ℕ) → Result Line Fault
delete_line fields = counted (two_of fields) (λ p. with (session_in p.0) (λ session. with (key_in p.1) (λ key. Ok (Begin session (calls.Delete key)))))

-- `get S KEY`
abbrev pub get_line : List (List ℕ) → Result Line Fault
get_line fields = counted (two_of fields) (λ p. with (session_in p.0) (λ session. with (key_in p.1) (λ key. Ok (Begin session (calls.Get key)))))

-- `getat S KEY V`
abbrev pub get_at_line : List (List ℕ) → Result Line Fault
get_at_line fields = counted (three_of fields) (λ p. with (session_in p.0) (λ session. with (key_in p.1) (λ key. with (version_in p.2) (λ version. Ok (Begin session (calls.GetAt key version))))))

-- `deliver N`, `giveup N`, `take N`
abbrev pub deliver_line : List (List ℕ) → Result Line Fault
deliver_line fields = with (number_alone fields) (λ n. Ok (Deliver n))

abbrev pub give_up_line : List (List ℕ) → Result Line Fault
give_up_line fields = with (number_alone fields) (λ n. Ok (GiveUp n))

abbrev pub take_line : List (List ℕ) → Result Line Fault
take_line fields = with (number_alone fields) (λ n. Ok (Take n))

-- `reply N WHICH`
abbrev pub reply_line : List (List ℕ) → Result Line Fault
reply_line fields = counted (two_of fields) (λ p. with (number_in p.0) (λ n. with (number_in p.1) (λ which. Ok (Reply n which))))

-- `crash S`, `drain S`
abbrev pub crash_line : List (List ℕ) → Result Line Fault
crash_line fields = with (session_alone fields) (λ session. Ok (Crash session))

abbrev pub drain_line : List (List ℕ) → Result Line Fault
drain_line fields = with (session_alone fields) (λ session. Ok (Drain session))

-- `settle S without LIST`
abbrev pub settle_without : Option (List ℕ × List ℕ × List ℕ) → Result Line Fault
settle_without found = counted found (λ p. with (session_in p.0) (λ session. if is_word (codes "without") p.1 then with (list_in p.2) (λ without. Ok (Settle session without)) else Err (Bad whys.Word)))

-- the same, or `settle S`
abbrev pub settle_by : Option (List ℕ) → List (List ℕ) → Result Line Fault
settle_by (Some field) fields = with (session_in field) (λ session. Ok (Settle session []))
settle_by None fields = settle_without (three_of fields)

abbrev pub settle_line : List (List ℕ) → Result Line Fault
settle_line fields = settle_by (one_of fields) fields

-- the line of these fields, of which the first asks for it
abbrev pub line_from : Verb → List (List ℕ) → Result Line Fault
line_from verbs.Session fields = open_line fields
line_from verbs.Put fields = put_line fields
line_from verbs.Delete fields = delete_line fields
line_from verbs.Get fields = get_line fields
line_from verbs.GetAt fields = get_at_line fields
line_from verbs.Deliver fields = deliver_line fields
line_from verbs.Reply fields = reply_line fields
line_from verbs.GiveUp fields = give_up_line fields
line_from verbs.Take fields = take_line fields
line_from verbs.Crash fields = crash_line fields
line_from verbs.Settle fields = settle_line fields
line_from verbs.Drain fields = drain_line fields
line_from verbs.Unbuilt fields = Err (Bad whys.Unbuilt)

abbrev pub is_or_faulty : Result Line Fault → Reading
is_or_faulty (Ok line) = Is line
is_or_faulty (Err fault) = Faulty fault

-- the reading of a line's fields, by what the first one asks for
abbrev pub reading_for : Option Verb → List (List ℕ) → Reading
reading_for None fields = Faulty (Bad whys.Word)
reading_for (Some verb) fields = is_or_faulty (line_from verb fields)

-- a line without fields is skipped
abbrev pub reading_by : Option (List ℕ) → List (List ℕ) → Reading
reading_by None fields = Skipped
reading_by (Some word) fields = reading_for (verb_of word) fields

abbrev pub reading_of : List (List ℕ) → Reading
reading_of fields = reading_by (first_of fields) fields

-- a comment, which has no fields, is skipped too
abbrev pub read_line : List ℕ → Reading
read_line line = reading_of (fields_of line)
