-- An answer is words with blanks between, and these words are read as the answer.
use Rattle.std.proofs.Common.{ℕ, ◌≡◌, ◌^◌, List, [], ◌∷◌, ◌++◌, Bool, false, refl, ap, ◌∙◌, arith}
use Rattle.std.specs.Prelude.{Option, Some, None, is_none, Result, Ok, Err, decimal, codes, option_map, option_and_then, if◌then◌else◌}
use Rattle.gz_core.specs.Names.{Name}
use Rattle.gz_core.specs.declared.calls.Answer.{Answer}
use Rattle.gz_core.specs.declared.calls.Answer.TheVariants as answers
use Rattle.gz_core.specs.declared.calls.Phase.{Phase}
use Rattle.gz_core.specs.declared.calls.Phase.TheVariants.{Look, Fast, Prepare, Accept, Trim}
use Rattle.gz_core.specs.declared.calls.UnsureWhy.{UnsureWhy}
use Rattle.gz_core.specs.declared.calls.UnsureWhy.TheVariants as unsures
use Rattle.gz_core.specs.declared.calls.HeldWhy.{HeldWhy}
use Rattle.gz_core.specs.declared.calls.HeldWhy.TheVariants.{NoOlder, NotWhole}
use Rattle.gz_core.specs.declared.fates.Fate.{Fate}
use Rattle.gz_core.specs.declared.texts.Why.TheVariants as whys
use Rattle.gz_text.specs.declared.faults.Fault.{Fault}
use Rattle.gz_text.specs.declared.faults.Fault.TheVariants.{Bad}
use Rattle.gz_text.specs.Faults.{with, or_bad}
use Rattle.gz_text.specs.Places.{field_at}
use Rattle.gz_history.specs.Log.{name_text, bytes_text, fates_text, phase_text, unsure_text, held_text, told_text, answer_text}
use Rattle.gz_logs.specs.declared.kinds.Kind.{Kind}
use Rattle.gz_logs.specs.declared.kinds.Told.{Told}
use Rattle.gz_logs.specs.Answers.{version_with, version_of, fates_in, phase_in, phase_with, no_quorum_in, version_and_count, versioned, unsure_in, held_in, answer_by, answer_for, answer_in}
use Rattle.gz_logs.specs.Bytes.{bytes_in}
use Rattle.gz_logs.specs.Fitting.{IsCount, IsVersion, IsName, IsUnsure, IsHeld, IsAnswer, IsAnswerOf, IsEnded, told_of}
use Rattle.gz_logs.specs.Kinds.{told_in}
use Rattle.gz_logs.specs.Lines.{is_open, answer_or_open}
use Rattle.gz_logs.proofs.AnswerTexts.{spaced, spaced_three}
use Rattle.gz_logs.proofs.Joined.{joined}
use Rattle.gz_logs.proofs.Words.{IsWord, AreWords}
use Rattle.gz_logs.proofs.WrittenFields.{decimal_word, number_read, count_read, version_read, name_of, name_word, bytes_word, bytes_read_back, fates_of, fates_word}

-- the words of an answer
abbrev pub unsure_words : UnsureWhy → List (List ℕ)
unsure_words (unsures.NoQuorum phase heard) = codes "noquorum" ∷ phase_text phase ∷ decimal heard ∷ []
unsure_words (unsures.Contended met) = codes "contended" ∷ decimal met ∷ []
unsure_words (unsures.Trimmed floor) = codes "trimmed" ∷ decimal floor ∷ []

abbrev pub held_words : HeldWhy → List (List ℕ)
held_words NoOlder = codes "noolder" ∷ []
held_words (NotWhole fates) = codes "notwhole" ∷ fates_text fates ∷ []

abbrev pub told_words : Answer → List (List ℕ)
told_words (answers.Ok version) = codes "ok" ∷ decimal version ∷ []
told_words (answers.Thin version stored) = codes "thin" ∷ decimal version ∷ decimal stored ∷ []
told_words (answers.Short stored) = codes "short" ∷ decimal stored ∷ []
told_words (answers.Bytes version name bytes) = codes "bytes" ∷ decimal version ∷ name_text name ∷ bytes_text bytes ∷ []
told_words (answers.Incomplete version name fates) = codes "incomplete" ∷ decimal version ∷ name_text name ∷ fates_text fates ∷ []
told_words (answers.Gone version name) = codes "gone" ∷ decimal version ∷ name_text name ∷ []
told_words answers.Absent = codes "absent" ∷ []
told_words (answers.Unborn latest) = codes "unborn" ∷ decimal latest ∷ []
told_words (answers.Collected floor) = codes "collected" ∷ decimal floor ∷ []
told_words (answers.Swept floor dropped) = codes "swept" ∷ decimal floor ∷ decimal dropped ∷ []
told_words (answers.Held why) = codes "held" ∷ held_words why
told_words (answers.NoQuorum phase heard) = codes "noquorum" ∷ phase_text phase ∷ decimal heard ∷ []
told_words (answers.Contended met) = codes "contended" ∷ decimal met ∷ []
told_words (answers.Unsure why) = codes "unsure" ∷ unsure_words why

abbrev pub answer_words : Option Answer → List (List ℕ)
answer_words None = codes "open" ∷ []
answer_words (Some answer) = told_words answer

-- with blanks between they are the text of the answer
no_quorum_joined : (phase : Phase) (heard : ℕ) → phase_text phase ++ 32 ∷ decimal heard ≡ phase_text phase ++ codes " " ++ decimal heard
no_quorum_joined phase heard = spaced (phase_text phase) (decimal heard)

unsure_joined : (why : UnsureWhy) → joined (codes "unsure" ∷ unsure_words why) ≡ codes "unsure " ++ unsure_text why
unsure_joined (unsures.NoQuorum phase heard) = ap (λ (x : List ℕ). codes "unsure noquorum " ++ x) (no_quorum_joined phase heard)
unsure_joined (unsures.Contended met) = refl
unsure_joined (unsures.Trimmed floor) = refl

held_joined : (why : HeldWhy) → joined (codes "held" ∷ held_words why) ≡ codes "held " ++ held_text why
held_joined NoOlder = refl
held_joined (NotWhole fates) = refl

told_joined : (a : Answer) → joined (told_words a) ≡ told_text a
told_joined (answers.Ok version) = refl
told_joined (answers.Thin version stored) = ap (λ (x : List ℕ). codes "thin " ++ x) (spaced (decimal version) (decimal stored))
told_joined (answers.Short stored) = refl
told_joined (answers.Bytes version name bytes) = ap (λ (x : List ℕ). codes "bytes " ++ x) (spaced_three (decimal version) (name_text name) (bytes_text bytes))
told_joined (answers.Incomplete version name fates) = ap (λ (x : List ℕ). codes "incomplete " ++ x) (spaced_three (decimal version) (name_text name) (fates_text fates))
told_joined (answers.Gone version name) = ap (λ (x : List ℕ). codes "gone " ++ x) (spaced (decimal version) (name_text name))
told_joined answers.Absent = refl
told_joined (answers.Unborn latest) = refl
told_joined (answers.Collected floor) = refl
told_joined (answers.Swept floor dropped) = ap (λ (x : List ℕ). codes "swept " ++ x) (spaced (decimal floor) (decimal dropped))
told_joined (answers.Held why) = held_joined why
told_joined (answers.NoQuorum phase heard) = ap (λ (x : List ℕ). codes "noquorum " ++ x) (no_quorum_joined phase heard)
told_joined (answers.Contended met) = refl
told_joined (answers.Unsure why) = unsure_joined why

pub answer_joined : (answer : Option Answer) → joined (answer_words answer) ≡ answer_text answer
answer_joined None = refl
answer_joined (Some answer) = told_joined answer

-- they are words
phase_word : (phase : Phase) → IsWord (phase_text phase)
phase_word Look = record { some = omega arith; printable = refl }
phase_word Fast = record { some = omega arith; printable = refl }
phase_word Prepare = record { some = omega arith; printable = refl }
phase_word Accept = record { some = omega arith; printable = refl }
phase_word Trim = record { some = omega arith; printable = refl }

count_word : (n : ℕ) → IsCount n → IsWord (decimal n)
count_word n h = decimal_word n (omega (arith, h))

version_word : (v : ℕ) → IsVersion v → IsWord (decimal v)
version_word v h = decimal_word v (omega (arith, h.bounded))

unsure_words_are : (why : UnsureWhy) → IsUnsure why → AreWords (unsure_words why)
unsure_words_are (unsures.NoQuorum phase heard) h = (record { some = omega arith; printable = refl }, (phase_word phase, (count_word heard h, tt)))
unsure_words_are (unsures.Contended met) h = (record { some = omega arith; printable = refl }, (count_word met h, tt))
unsure_words_are (unsures.Trimmed floor) h = (record { some = omega arith; printable = refl }, (version_word floor h, tt))

held_words_are : (why : HeldWhy) → IsHeld why → AreWords (held_words why)
held_words_are NoOlder h = (record { some = omega arith; printable = refl }, tt)
held_words_are (NotWhole fates) h = (record { some = omega arith; printable = refl }, (fates_word fates h, tt))

told_words_are : (a : Answer) → IsAnswer a → AreWords (told_words a)
told_words_are (answers.Ok version) h = (record { some = omega arith; printable = refl }, (version_word version h, tt))
told_words_are (answers.Thin version stored) h = (record { some = omega arith; printable = refl }, (version_word version h.0, (count_word stored h.1, tt)))
told_words_are (answers.Short stored) h = (record { some = omega arith; printable = refl }, (count_word stored h, tt))
told_words_are (answers.Bytes version name bytes) h =
    (record { some = omega arith; printable = refl }, (version_word version h.0, (name_word name h.1, (bytes_word bytes h.2.bytes_are, tt))))
told_words_are (answers.Incomplete version name fates) h =
    (record { some = omega arith; printable = refl }, (version_word version h.0, (name_word name h.1, (fates_word fates h.2, tt))))
told_words_are (answers.Gone version name) h = (record { some = omega arith; printable = refl }, (version_word version h.0, (name_word name h.1, tt)))
told_words_are answers.Absent h = (record { some = omega arith; printable = refl }, tt)
told_words_are (answers.Unborn latest) h = (record { some = omega arith; printable = refl }, (decimal_word latest (omega (arith, h)), tt))
told_words_are (answers.Collected floor) h = (record { some = omega arith; printable = refl }, (version_word floor h, tt))
told_words_are (answers.Swept floor dropped) h = (record { some = omega arith; printable = refl }, (version_word floor h.0, (count_word dropped h.1, tt)))
told_words_are (answers.Held why) h = (record { some = omega arith; printable = refl }, held_words_are why h)
told_words_are (answers.NoQuorum phase heard) h = (record { some = omega arith; printable = refl }, (phase_word phase, (count_word heard h, tt)))
told_words_are (answers.Contended met) h = (record { some = omega arith; printable = refl }, (count_word met h, tt))
told_words_are (answers.Unsure why) h = (record { some = omega arith; printable = refl }, unsure_words_are why h)

pub answer_words_are : (kind : Kind) (end : Option ℕ) (answer : Option Answer) → IsEnded kind end answer → AreWords (answer_words answer)
answer_words_are kind end None h = (record { some = omega arith; printable = refl }, tt)
answer_words_are kind None (Some answer) h = absurd h
answer_words_are kind (Some end) (Some answer) h = told_words_are answer h.1.bounded

-- and are read as the answer
phase_back : (phase : Phase) → phase_in (phase_text phase) ≡ Some phase
phase_back Look = refl
phase_back Fast = refl
phase_back Prepare = refl
phase_back Accept = refl
phase_back Trim = refl

no_quorum_back : (word : List ℕ) (phase : Phase) (heard : ℕ) → IsCount heard → no_quorum_in (word ∷ phase_text phase ∷ decimal heard ∷ []) ≡ Some (phase, heard)
no_quorum_back word phase heard h =
    ap (λ (o : Option Phase). option_and_then (phase_with (word ∷ phase_text phase ∷ decimal heard ∷ [])) o) (phase_back phase)
    ∙ ap (λ (o : Option ℕ). option_map (λ n. (phase, n)) o) (count_read heard h)

version_and_count_back : (word : List ℕ) (v n : ℕ) → IsVersion v → IsCount n → version_and_count (word ∷ decimal v ∷ decimal n ∷ []) ≡ Some (v, n)
version_and_count_back word v n h i =
    ap (λ (o : Option ℕ). option_and_then (version_with (word ∷ decimal v ∷ decimal n ∷ [])) o) (version_read v h)
    ∙ ap (λ (o : Option ℕ). option_map (λ m. (v, m)) o) (count_read n i)

versioned_back : (word : List ℕ) (v : ℕ) (name : Name) (more : List (List ℕ)) → IsVersion v → IsName name → versioned (word ∷ decimal v ∷ name_text name ∷ more) ≡ Some (v, name)
versioned_back word v name more h i =
    ap (λ (o : Option ℕ). option_and_then (version_of (word ∷ decimal v ∷ name_text name ∷ more)) o) (version_read v h)
    ∙ ap (λ (o : Option Name). option_map (λ m. (v, m)) o) (name_of name i)

unsure_back : (why : UnsureWhy) → IsUnsure why → unsure_in (codes "unsure" ∷ unsure_words why) ≡ Some why
unsure_back (unsures.NoQuorum phase heard) h = ap (λ (o : Option (Phase × ℕ)). option_map (λ p. unsures.NoQuorum p.0 p.1) o) (no_quorum_back (codes "noquorum") phase heard h)
unsure_back (unsures.Contended met) h = ap (λ (o : Option ℕ). option_map (λ n. unsures.Contended n) o) (count_read met h)
unsure_back (unsures.Trimmed floor) h = ap (λ (o : Option ℕ). option_map (λ v. unsures.Trimmed v) o) (version_read floor h)

held_back : (why : HeldWhy) → IsHeld why → held_in (codes "held" ∷ held_words why) ≡ Some (answers.Held why)
held_back NoOlder h = refl
held_back (NotWhole fates) h = ap (λ (o : Option (List Fate)). option_map (λ fs. answers.Held (NotWhole fs)) o) (fates_of fates h)

told_back : (a : Answer) → IsAnswer a → answer_by (told_of a) (told_words a) ≡ Ok a
told_back (answers.Ok version) h = ap (λ (o : Option ℕ). or_bad whys.Answer (option_map (λ v. answers.Ok v) o)) (version_read version h)
told_back (answers.Thin version stored) h = ap (λ (o : Option (ℕ × ℕ)). or_bad whys.Answer (option_map (λ p. answers.Thin p.0 p.1) o)) (version_and_count_back (codes "thin") version stored h.0 h.1)
told_back (answers.Short stored) h = ap (λ (o : Option ℕ). or_bad whys.Answer (option_map (λ n. answers.Short n) o)) (count_read stored h)
told_back (answers.Bytes version name bytes) h =
    ap (λ (o : Option (ℕ × Name)). with (or_bad whys.Answer o) (λ read. with (bytes_in whys.Answer (bytes_text bytes)) (λ found. Ok (answers.Bytes read.0 read.1 found))))
    (versioned_back (codes "bytes") version name (bytes_text bytes ∷ []) h.0 h.1)
    ∙ ap (λ (r : Result (List ℕ) Fault). with r (λ found. Ok (answers.Bytes version name found))) (bytes_read_back whys.Answer bytes h.2)
told_back (answers.Incomplete version name fates) h =
    ap (λ (o : Option (ℕ × Name)). or_bad whys.Answer (option_and_then (λ read. option_map (λ fs. answers.Incomplete read.0 read.1 fs) (fates_in (fates_text fates))) o))
    (versioned_back (codes "incomplete") version name (fates_text fates ∷ []) h.0 h.1)
    ∙ ap (λ (o : Option (List Fate)). or_bad whys.Answer (option_map (λ fs. answers.Incomplete version name fs) o)) (fates_of fates h.2)
told_back (answers.Gone version name) h =
    ap (λ (o : Option (ℕ × Name)). or_bad whys.Answer (option_map (λ read. answers.Gone read.0 read.1) o)) (versioned_back (codes "gone") version name [] h.0 h.1)
told_back answers.Absent h = refl
told_back (answers.Unborn latest) h = ap (λ (o : Option ℕ). or_bad whys.Answer (option_map (λ v. answers.Unborn v) o)) (number_read (2 ^ 63) latest h (omega arith))
told_back (answers.Collected floor) h = ap (λ (o : Option ℕ). or_bad whys.Answer (option_map (λ v. answers.Collected v) o)) (version_read floor h)
told_back (answers.Swept floor dropped) h = ap (λ (o : Option (ℕ × ℕ)). or_bad whys.Answer (option_map (λ p. answers.Swept p.0 p.1) o)) (version_and_count_back (codes "swept") floor dropped h.0 h.1)
told_back (answers.Held why) h = ap (λ (o : Option Answer). or_bad whys.Answer o) (held_back why h)
told_back (answers.NoQuorum phase heard) h = ap (λ (o : Option (Phase × ℕ)). or_bad whys.Answer (option_map (λ p. answers.NoQuorum p.0 p.1) o)) (no_quorum_back (codes "noquorum") phase heard h)
told_back (answers.Contended met) h = ap (λ (o : Option ℕ). or_bad whys.Answer (option_map (λ n. answers.Contended n) o)) (count_read met h)
told_back (answers.Unsure why) h = ap (λ (o : Option UnsureWhy). or_bad whys.Answer (option_map (λ w. answers.Unsure w) o)) (unsure_back why h)

told_first : (a : Answer) → told_in (field_at 0 (told_words a)) ≡ Some (told_of a)
told_first (answers.Ok version) = refl
told_first (answers.Thin version stored) = refl
told_first (answers.Short stored) = refl
told_first (answers.Bytes version name bytes) = refl
told_first (answers.Incomplete version name fates) = refl
told_first (answers.Gone version name) = refl
told_first answers.Absent = refl
told_first (answers.Unborn latest) = refl
told_first (answers.Collected floor) = refl
told_first (answers.Swept floor dropped) = refl
told_first (answers.Held why) = refl
told_first (answers.NoQuorum phase heard) = refl
told_first (answers.Contended met) = refl
told_first (answers.Unsure why) = refl

answer_back : (kind : Kind) (a : Answer) → IsAnswerOf kind a → answer_in kind (told_words a) ≡ Ok a
answer_back kind a h =
    ap (λ (o : Option Told). answer_for kind o (told_words a)) (told_first a)
    ∙ ap (λ (t : Bool). if t then answer_by (told_of a) (told_words a) else Err (Bad whys.Answer)) h.kind_is
    ∙ told_back a h.bounded

not_open : (a : Answer) → is_open (told_words a) ≡ false
not_open (answers.Ok version) = refl
not_open (answers.Thin version stored) = refl
not_open (answers.Short stored) = refl
not_open (answers.Bytes version name bytes) = refl
not_open (answers.Incomplete version name fates) = refl
not_open (answers.Gone version name) = refl
not_open answers.Absent = refl
not_open (answers.Unborn latest) = refl
not_open (answers.Collected floor) = refl
not_open (answers.Swept floor dropped) = refl
not_open (answers.Held NoOlder) = refl
not_open (answers.Held (NotWhole fates)) = refl
not_open (answers.NoQuorum phase heard) = refl
not_open (answers.Contended met) = refl
not_open (answers.Unsure (unsures.NoQuorum phase heard)) = refl
not_open (answers.Unsure (unsures.Contended met)) = refl
not_open (answers.Unsure (unsures.Trimmed floor)) = refl

-- a call is read as open exactly where it has no answer
pub open_where : (answer : Option Answer) → is_open (answer_words answer) ≡ is_none answer
open_where None = refl
open_where (Some answer) = not_open answer

pub ended_back : (kind : Kind) (end : Option ℕ) (answer : Option Answer) → IsEnded kind end answer → answer_or_open kind (answer_words answer) ≡ Ok answer
ended_back kind end None h = refl
ended_back kind None (Some answer) h = absurd h
ended_back kind (Some end) (Some answer) h =
    ap (λ (t : Bool). if t then Ok None else with (answer_in kind (told_words answer)) (λ a. Ok (Some a))) (not_open answer)
    ∙ ap (λ (r : Result Answer Fault). with r (λ a. Ok (Some a))) (answer_back kind answer h.1)
