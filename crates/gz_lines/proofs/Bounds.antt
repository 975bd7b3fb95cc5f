-- The lines of a schedule keep to the bounds of an object and of a version.
use Rattle.std.proofs.Common.{ℕ, ◌≡◌, ◌^◌, ◌≤◌, ◌<◌, zero, suc, List, [], ◌∷◌, length, refl, sym, subst, arith}
use Rattle.std.specs.Prelude.{◌==◌, ◌&&◌, Bool, true, false, nat_le, nat_lt, if◌then◌else◌, Vec, Option, Some, None, option_and_then, Result, Ok, Err, IfOk, IfSome, All, filter_map, map, codes}
use Rattle.std.specs.Result.{result_ok}
use Rattle.std.specs.List.{slice_split}
use Rattle.hex.specs.Hex.{decode_of}
use Rattle.std.proofs.lemmas.Bool.Decides.{nat_tests}
use Rattle.std.proofs.lemmas.List.Elements.{All-cons, All-nil}
use Rattle.gz_core.specs.declared.calls.Call.{Call}
use Rattle.gz_core.specs.declared.calls.Call.TheVariants as calls
use Rattle.std.specs.declared.alloc.Global.{Global}
use Rattle.gz_core.specs.declared.texts.TextError.{TextError}
use Rattle.gz_core.specs.declared.texts.Why.{Why}
use Rattle.gz_core.specs.declared.texts.Why.TheVariants as whys
use Rattle.gz_text.specs.declared.faults.Fault.{Fault}
use Rattle.gz_text.specs.declared.faults.Fault.TheVariants.{Bad, TooLong}
use Rattle.gz_lines.specs.declared.line.Line.{Line}
use Rattle.gz_lines.specs.declared.line.Line.TheVariants.{OpenSession, Begin, Deliver, Reply, GiveUp, Crash, Take, Settle, Drain}
use Rattle.gz_lines.specs.declared.line.Reading.{Reading}
use Rattle.gz_lines.specs.declared.line.Reading.TheVariants.{Skipped, Faulty, Is}
use Rattle.gz_lines.specs.declared.verbs.Verb.{Verb}
use Rattle.gz_lines.specs.declared.verbs.Verb.TheVariants as verbs
use Rattle.gz_text.specs.Texts.{fields_of, lines}
use Rattle.gz_text.specs.Fields.{number_field, is_numeral, value_of, from_one, positive_below, is_word}
use Rattle.gz_text.specs.Faults.{with, or_bad}
use Rattle.gz_text.specs.Objects.{within}
use Rattle.gz_text.specs.Places.{pair_of}
use Rattle.gz_lines.specs.Bytes.{next, generated, spelled, generated_within, generated_by, generated_from, bytes_in}
use Rattle.gz_lines.specs.Counts.{first_of, one_of, two_of, three_of, counted}
use Rattle.gz_lines.specs.Verbs.{verb_of}
use Rattle.gz_lines.specs.Grammar.{number_in, session_in, key_in, list_in, number_alone, session_alone, settle_without, settle_by, line_from, is_or_faulty, reading_for, reading_by, read_line}
use Rattle.gz_lines.specs.Schedule.{IsBoundedCall, IsBoundedLine, line_of, readings, Reads}

-- what follows from a value that was read has a property
with-ok : {A B : Type 0} (r : Result A Fault) (f : A → Result B Fault) (P : B → Type 0) → ((a : A) → IfOk (f a) P) → IfOk (with r f) P
with-ok (Ok a) f P h = h a
with-ok (Err fault) f P h = tt

with-known : {A B : Type 0} (r : Result A Fault) (f : A → Result B Fault) (Q : A → Type 0) (P : B → Type 0) → IfOk r Q → ((a : A) → Q a → IfOk (f a) P) → IfOk (with r f) P
with-known (Ok a) f Q P q h = h a q
with-known (Err fault) f Q P q h = tt

counted-ok : {A B : Type 0} (o : Option A) (f : A → Result B Fault) (P : B → Type 0) → ((a : A) → IfOk (f a) P) → IfOk (counted o f) P
counted-ok None f P h = tt
counted-ok (Some a) f P h = h a

if-ok : {A : Type 0} (t : Bool) (r q : Result A Fault) (P : A → Type 0) → IfOk r P → IfOk q P → IfOk (if t then r else q) P
if-ok true r q P h k = h
if-ok false r q P h k = k

-- no more bytes than an object may have
abbrev IsSmall : List ℕ → Type 0
IsSmall bytes = length bytes ≤ 1048576

small-where : (t : Bool) (bytes : List ℕ) → (t ≡ true → IsSmall bytes) → IfOk (if t then Ok bytes else Err TooLong) IsSmall
small-where true bytes h = h refl
small-where false bytes h = tt

within-small : (bytes : List ℕ) → IfOk (within bytes) IsSmall
within-small bytes = small-where (nat_le (length bytes) 1048576) bytes (λ h. grind (arith, nat_tests))

length-generated : (x n : ℕ) → length (generated x n) ≡ n
length-generated x zero = refl
length-generated x (suc n) = omega (arith, length-generated (next x) n)

generated-small : (seed count : ℕ) → IfOk (generated_within seed count) IsSmall
generated-small seed count =
    let same = length-generated seed count in
    small-where (nat_le count 1048576) (generated seed count) (λ h. grind (arith, nat_tests))

generated_by-small : (found : Option (List ℕ × List ℕ)) → IfOk (generated_by found) IsSmall
generated_by-small None = tt
generated_by-small (Some pair) =
    with-ok (or_bad whys.Bytes (number_field pair.0)) (λ seed. with (or_bad whys.Bytes (number_field pair.1)) (λ count. generated_within seed count)) IsSmall
    (λ seed. with-ok (or_bad whys.Bytes (number_field pair.1)) (λ count. generated_within seed count) IsSmall (λ count. generated-small seed count))

bytes_in-small : (field : List ℕ) → IfOk (bytes_in field) IsSmall
bytes_in-small [] = tt
bytes_in-small (a ∷ []) = tt
bytes_in-small (a ∷ b ∷ rest) =
    if-ok ((a == 120) && (b == 58)) (spelled rest) (if (a == 103) && (b == 58) then generated_from rest else Err (Bad whys.Bytes)) IsSmall
    (with-ok (or_bad whys.Bytes (result_ok (decode_of rest))) within IsSmall within-small)
    (if-ok ((a == 103) && (b == 58)) (generated_from rest) (Err (Bad whys.Bytes)) IsSmall (generated_by-small (pair_of (slice_split (λ b. b == 58) rest))) tt)

put-bounded : (fields : List (List ℕ)) → IfOk (line_from verbs.Put fields) IsBoundedLine
put-bounded fields =
    let after : (List ℕ × List ℕ × List ℕ) → ℕ → List ℕ → Result Line Fault = λ p session key. with (bytes_in p.2) (λ bytes. Ok (Begin session (calls.Put key bytes))) in
    counted-ok (three_of fields) (λ p. with (session_in p.0) (λ session. with (key_in p.1) (λ key. after p session key))) IsBoundedLine
    (λ p. with-ok (session_in p.0) (λ session. with (key_in p.1) (λ key. after p session key)) IsBoundedLine
    (λ session. with-ok (key_in p.1) (λ key. after p session key) IsBoundedLine
    (λ key. with-known (bytes_in p.2) (λ bytes. Ok (Begin session (calls.Put key bytes))) IsSmall IsBoundedLine (bytes_in-small p.2) (λ bytes small. small))))

delete-bounded : (fields : List (List ℕ)) → IfOk (line_from verbs.Delete fields) IsBoundedLine
delete-bounded fields =
    counted-ok (two_of fields) (λ p. with (session_in p.0) (λ session. with (key_in p.1) (λ key. Ok (Begin session (calls.Delete key))))) IsBoundedLine
    (λ p. with-ok (session_in p.0) (λ session. with (key_in p.1) (λ key. Ok (Begin session (calls.Delete key)))) IsBoundedLine
    (λ session. with-ok (key_in p.1) (λ key. Ok (Begin session (calls.Delete key))) IsBoundedLine (λ key. tt)))

get-bounded : (fields : List (List ℕ)) → IfOk (line_from verbs.Get fields) IsBoundedLine
get-bounded fields =
    counted-ok (two_of fields) (λ p. with (session_in p.0) (λ session. with (key_in p.1) (λ key. Ok (Begin session (calls.Get key))))) IsBoundedLine
    (λ p. with-ok (session_in p.0) (λ session. with (key_in p.1) (λ key. Ok (Begin session (calls.Get key)))) IsBoundedLine
    (λ session. with-ok (key_in p.1) (λ key. Ok (Begin session (calls.Get key))) IsBoundedLine (λ key. tt)))

-- a number from 1 on below a bound is at least 1, and below it
from_one-bounded : (t : Bool) (n bound : ℕ) → n < bound → (t ≡ true → 1 ≤ n) → IfSome (if t then Some n else None) (λ x. (1 ≤ x) × (x < bound))
from_one-bounded true n bound below least = (least refl, below)
from_one-bounded false n bound below least = tt

below-bounded : (t : Bool) (n bound : ℕ) → (t ≡ true → n < bound) → IfSome (option_and_then from_one (if t then Some n else None)) (λ x. (1 ≤ x) × (x < bound))
below-bounded true n bound below = from_one-bounded (nat_le 1 n) n bound (below refl) (λ h. grind (arith, nat_tests))
below-bounded false n bound below = tt

positive-bounded : (bound : ℕ) (field : List ℕ) → IfSome (positive_below bound field) (λ x. (1 ≤ x) × (x < bound))
positive-bounded bound field = below-bounded (is_numeral field && nat_lt (value_of field) bound) (value_of field) bound (λ h. grind (arith, nat_tests))

known-or-bad : {A : Type 0} (o : Option A) (why : Why) (P : A → Type 0) → IfSome o P → IfOk (or_bad why o) P
known-or-bad None why P h = tt
known-or-bad (Some a) why P h = h

-- a line of a session, a key and a number from 1 on below a bound
bound-bounded : (fields : List (List ℕ)) (bound : ℕ) (f : List ℕ → ℕ → Call) → ((key : List ℕ) (n : ℕ) → (1 ≤ n) × (n < bound) → IsBoundedCall (f key n))
    → IfOk (counted (three_of fields) (λ p. with (session_in p.0) (λ session. with (key_in p.1) (λ key. with (or_bad whys.Number (positive_below bound p.2)) (λ n. Ok (Begin session (f key n))))))) IsBoundedLine
bound-bounded fields bound f h =
    let after : (List ℕ × List ℕ × List ℕ) → ℕ → List ℕ → Result Line Fault = λ p session key. with (or_bad whys.Number (positive_below bound p.2)) (λ n. Ok (Begin session (f key n))) in
    counted-ok (three_of fields) (λ p. with (session_in p.0) (λ session. with (key_in p.1) (λ key. after p session key))) IsBoundedLine
    (λ p. with-ok (session_in p.0) (λ session. with (key_in p.1) (λ key. after p session key)) IsBoundedLine
    (λ session. with-ok (key_in p.1) (λ key. after p session key) IsBoundedLine
    (λ key. with-known (or_bad whys.Number (positive_below bound p.2)) (λ n. Ok (Begin session (f key n))) (λ n. (1 ≤ n) × (n < bound)) IsBoundedLine
    (known-or-bad (positive_below bound p.2) whys.Number (λ n. (1 ≤ n) × (n < bound)) (positive-bounded bound p.2)) (λ n known. h key n known))))

reply-bounded : (fields : List (List ℕ)) → IfOk (line_from verbs.Reply fields) IsBoundedLine
reply-bounded fields =
    counted-ok (two_of fields) (λ p. with (number_in p.0) (λ n. with (number_in p.1) (λ which. Ok (Reply n which)))) IsBoundedLine
    (λ p. with-ok (number_in p.0) (λ n. with (number_in p.1) (λ which. Ok (Reply n which))) IsBoundedLine
    (λ n. with-ok (number_in p.1) (λ which. Ok (Reply n which)) IsBoundedLine (λ which. tt)))

-- a line about one number
number-bounded : (r : Result ℕ Fault) (f : ℕ → Line) → ((n : ℕ) → IsBoundedLine (f n)) → IfOk (with r (λ n. Ok (f n))) IsBoundedLine
number-bounded r f h = with-ok r (λ n. Ok (f n)) IsBoundedLine h

without-bounded : (found : Option (List ℕ × List ℕ × List ℕ)) → IfOk (settle_without found) IsBoundedLine
without-bounded None = tt
without-bounded (Some p) =
    let listed : ℕ → Result Line Fault = λ session. with (list_in p.2) (λ without. Ok (Settle session without)) in
    with-ok (session_in p.0) (λ session. if is_word (codes "without") p.1 then listed session else Err (Bad whys.Word)) IsBoundedLine
    (λ session. if-ok (is_word (codes "without") p.1) (listed session) (Err (Bad whys.Word)) IsBoundedLine
    (with-ok (list_in p.2) (λ without. Ok (Settle session without)) IsBoundedLine (λ without. tt)) tt)

settle-bounded : (one : Option (List ℕ)) (fields : List (List ℕ)) → IfOk (settle_by one fields) IsBoundedLine
settle-bounded None fields = without-bounded (three_of fields)
settle-bounded (Some field) fields = number-bounded (session_in field) (λ session. Settle session []) (λ session. tt)

line-bounded : (verb : Verb) (fields : List (List ℕ)) → IfOk (line_from verb fields) IsBoundedLine
line-bounded verbs.Session fields = if-ok (length fields == 1) (Ok OpenSession) (Err (Bad whys.Count)) IsBoundedLine tt tt
line-bounded verbs.Put fields = put-bounded fields
line-bounded verbs.Delete fields = delete-bounded fields
line-bounded verbs.Get fields = get-bounded fields
line-bounded verbs.GetAt fields = bound-bounded fields (2 ^ 32) (λ key version. calls.GetAt key version) (λ key version known. known)
line-bounded verbs.Deliver fields = number-bounded (number_alone fields) (λ n. Deliver n) (λ n. tt)
line-bounded verbs.Reply fields = reply-bounded fields
line-bounded verbs.GiveUp fields = number-bounded (number_alone fields) (λ n. GiveUp n) (λ n. tt)
line-bounded verbs.Take fields = number-bounded (number_alone fields) (λ n. Take n) (λ n. tt)
line-bounded verbs.Crash fields = number-bounded (session_alone fields) (λ session. Crash session) (λ session. tt)
line-bounded verbs.Settle fields = settle-bounded (one_of fields) fields
line-bounded verbs.Drain fields = number-bounded (session_alone fields) (λ session. Drain session) (λ session. tt)
line-bounded verbs.Unbuilt fields = tt

-- the reading is no line, or one that keeps to the bounds
abbrev IsBoundedReading : Reading → Type 0
IsBoundedReading Skipped = Unit {0}
IsBoundedReading (Faulty fault) = Unit {0}
IsBoundedReading (Is line) = IsBoundedLine line

result-bounded : (r : Result Line Fault) → IfOk r IsBoundedLine → IsBoundedReading (is_or_faulty r)
result-bounded (Ok line) h = h
result-bounded (Err fault) h = tt

reading_for-bounded : (verb : Option Verb) (fields : List (List ℕ)) → IsBoundedReading (reading_for verb fields)
reading_for-bounded None fields = tt
reading_for-bounded (Some verb) fields = result-bounded (line_from verb fields) (line-bounded verb fields)

reading_by-bounded : (word : Option (List ℕ)) (fields : List (List ℕ)) → IsBoundedReading (reading_by word fields)
reading_by-bounded None fields = tt
reading_by-bounded (Some word) fields = reading_for-bounded (verb_of word) fields

read_line-bounded : (text : List ℕ) → IsBoundedReading (read_line text)
read_line-bounded text = reading_by-bounded (first_of (fields_of text)) (fields_of text)

one-more : (r : Reading) (rest : List Reading) → IsBoundedReading r → All IsBoundedLine (filter_map line_of rest) → All IsBoundedLine (filter_map line_of (r ∷ rest))
one-more Skipped rest h all = all
one-more (Faulty fault) rest h all = all
one-more (Is line) rest h all = All-cons IsBoundedLine line (filter_map line_of rest) h all

lines-bounded : (texts : List (List ℕ)) → All IsBoundedLine (filter_map line_of (map read_line texts))
lines-bounded [] = All-nil IsBoundedLine
lines-bounded (text ∷ texts) = one-more (read_line text) (map read_line texts) (read_line-bounded text) (lines-bounded texts)

bounded-lines : (text : List ℕ) (found : List Line) → found ≡ filter_map line_of (readings text) → All IsBoundedLine found
bounded-lines text found same = subst (λ (ls : List Line). All IsBoundedLine ls) (sym same) (lines-bounded (lines text))

-- the lines that were read keep to the bounds
pub reads_bounded : (text : List ℕ) (result : Result (Vec Line Global) TextError) → Reads (readings text) result → IfOk result (λ found. All IsBoundedLine found.items)
reads_bounded text (Ok found) read = bounded-lines text found.items read.1
reads_bounded text (Err error) read = tt
