-- Answers are read as they are written.
use Rattle.std.proofs.Common.{ℕ, ◌≡◌, ◌^◌, ◌<◌, List, [], ◌∷◌, ◌++◌, length, inl, inr, refl, sym, ap, ◌∙◌, append_assoc, arith}
use Rattle.std.specs.Prelude.{Option, Some, None, Ok, decimal, codes, ◌==◌, ◌&&◌, option_map, option_and_then}
use Rattle.std.proofs.lemmas.Bool.{and_parts, eqb-true}
use Rattle.std.proofs.lemmas.Option.{same_Some}
use Rattle.gz_core.specs.Names.{Name}
use Rattle.gz_core.specs.declared.calls.Answer.{Answer}
use Rattle.gz_core.specs.declared.calls.Answer.TheVariants as answers
use Rattle.gz_core.specs.declared.calls.Phase.{Phase}
use Rattle.gz_core.specs.declared.calls.Phase.TheVariants.{Look, Fast, Prepare, Accept, Trim}
use Rattle.gz_core.specs.declared.calls.UnsureWhy.{UnsureWhy}
use Rattle.gz_core.specs.declared.calls.UnsureWhy.TheVariants as unsures
use Rattle.gz_core.specs.declared.calls.HeldWhy.TheVariants.{NoOlder, NotWhole}
use Rattle.gz_core.specs.declared.texts.Why.TheVariants as whys
use Rattle.gz_text.specs.declared.faults.Fault.TheVariants.{Bad}
use Rattle.gz_text.specs.Faults.{with, or_bad}
use Rattle.gz_text.specs.Fields.{number_below, number_field, is_word}
use Rattle.gz_text.specs.Names.{name_field}
use Rattle.gz_text.specs.Places.{field_at, fields_from}
use Rattle.gz_history.specs.Log.{name_text, bytes_text, fates_text, phase_text, unsure_text, told_text}
use Rattle.gz_logs.specs.declared.kinds.Kind.{Kind}
use Rattle.gz_logs.specs.declared.kinds.Told.{Told}
use Rattle.gz_logs.specs.declared.kinds.Told.TheVariants as told
use Rattle.gz_logs.specs.Answers.{version_in, version_alone, latest_alone, count_alone, version_with, version_and_count, version_of, versioned, fates_in, incomplete_with, incomplete_in, gone_in, found_in, held_in, phase_in, phase_with, no_quorum_in, unsure_in, plain_in, answer_by, answer_for, answer_in}
use Rattle.gz_logs.specs.Bytes.{bytes_in}
use Rattle.gz_logs.specs.Kinds.{told_in, ended_in, may_answer}
use Rattle.gz_logs.proofs.NumberLemmas.{decimal-number}
use Rattle.gz_logs.proofs.Choices.{with_ok, same_ok, word_read, some_ok, then_ok, then_some, else_some, either_some, mapped, followed, no_some, one_word}
use Rattle.gz_logs.proofs.FieldTexts.{number_text, version_text, name_read, fates_read}
use Rattle.gz_logs.proofs.BytesTexts.{bytes_read}
use Rattle.gz_logs.proofs.Joined.{joined, joined_one, joined_two, joined_three, joined_four, joined_first, second_first, same_two, same_three, same_four}

-- the first word of each kind of answer
abbrev pub told_word : Told → List ℕ
told_word told.Ok = codes "ok"
told_word told.Thin = codes "thin"
told_word told.Short = codes "short"
told_word told.Bytes = codes "bytes"
told_word told.Incomplete = codes "incomplete"
told_word told.Gone = codes "gone"
told_word told.Absent = codes "absent"
told_word told.Unborn = codes "unborn"
told_word told.Collected = codes "collected"
told_word told.Swept = codes "swept"
told_word told.Held = codes "held"
told_word told.NoQuorum = codes "noquorum"
told_word told.Contended = codes "contended"
told_word told.Unsure = codes "unsure"

ended_read : (word : List ℕ) (kind : Told) → ended_in word ≡ Some kind → word ≡ told_word kind
ended_read word kind =
    one_word told_word word told.Absent _ kind
    (one_word told_word word told.Unborn _ kind
    (one_word told_word word told.Collected _ kind
    (one_word told_word word told.Swept _ kind
    (one_word told_word word told.Held _ kind
    (one_word told_word word told.NoQuorum _ kind
    (one_word told_word word told.Contended _ kind
    (one_word told_word word told.Unsure None kind (no_some (word ≡ told_word kind) kind))))))))

pub told_read : (word : List ℕ) (kind : Told) → told_in word ≡ Some kind → word ≡ told_word kind
told_read word kind =
    one_word told_word word told.Ok _ kind
    (one_word told_word word told.Thin _ kind
    (one_word told_word word told.Short _ kind
    (one_word told_word word told.Bytes _ kind
    (one_word told_word word told.Incomplete _ kind
    (one_word told_word word told.Gone (ended_in word) kind (ended_read word kind))))))

phase_read : (word : List ℕ) (phase : Phase) → phase_in word ≡ Some phase → word ≡ phase_text phase
phase_read word phase =
    one_word phase_text word Look _ phase
    (one_word phase_text word Fast _ phase
    (one_word phase_text word Prepare _ phase
    (one_word phase_text word Accept _ phase
    (one_word phase_text word Trim None phase (no_some (word ≡ phase_text phase) phase)))))

-- a first word and one number or two
version_alone_read : (fields : List (List ℕ)) (v : ℕ) → version_alone fields ≡ Some v → joined fields ≡ field_at 0 fields ++ 32 ∷ decimal v
version_alone_read fields v h =
    let read = then_some (length fields == 2) (version_in (field_at 1 fields)) v h in
    joined_two fields read.0 ∙ ap (λ (x : List ℕ). field_at 0 fields ++ 32 ∷ x) (version_text v (field_at 1 fields) read.1)

latest_alone_read : (fields : List (List ℕ)) (v : ℕ) → latest_alone fields ≡ Some v → joined fields ≡ field_at 0 fields ++ 32 ∷ decimal v
latest_alone_read fields v h =
    let read = then_some (length fields == 2) (number_below (2 ^ 63) (field_at 1 fields)) v h in
    joined_two fields read.0 ∙ ap (λ (x : List ℕ). field_at 0 fields ++ 32 ∷ x) (decimal-number (2 ^ 63) v (field_at 1 fields) (omega arith) read.1)

count_alone_read : (fields : List (List ℕ)) (n : ℕ) → count_alone fields ≡ Some n → joined fields ≡ field_at 0 fields ++ 32 ∷ decimal n
count_alone_read fields n h =
    let read = then_some (length fields == 2) (number_field (field_at 1 fields)) n h in
    joined_two fields read.0 ∙ ap (λ (x : List ℕ). field_at 0 fields ++ 32 ∷ x) (number_text n (field_at 1 fields) read.1)

version_and_count_read : (fields : List (List ℕ)) (p : ℕ × ℕ) → version_and_count fields ≡ Some p → joined fields ≡ field_at 0 fields ++ 32 ∷ (decimal p.0 ++ 32 ∷ decimal p.1)
version_and_count_read fields p h =
    let read = then_some (length fields == 3) (option_and_then (version_with fields) (version_in (field_at 1 fields))) p h in
    let version = followed (version_with fields) (version_in (field_at 1 fields)) p read.1 in
    let count = mapped (λ count. (version.0, count)) (number_field (field_at 2 fields)) p version.1.1 in
    joined_three fields read.0
    ∙ ap (λ (x : List ℕ). field_at 0 fields ++ 32 ∷ (x ++ 32 ∷ field_at 2 fields)) (version_text version.0 (field_at 1 fields) version.1.0)
    ∙ ap (λ (y : List ℕ). field_at 0 fields ++ 32 ∷ (decimal version.0 ++ 32 ∷ y)) (number_text count.0 (field_at 2 fields) count.1.0)
    ∙ ap (λ (q : ℕ × ℕ). field_at 0 fields ++ 32 ∷ (decimal q.0 ++ 32 ∷ decimal q.1)) count.1.1

no_quorum_read : (fields : List (List ℕ)) (p : Phase × ℕ) → no_quorum_in fields ≡ Some p → joined fields ≡ field_at 0 fields ++ 32 ∷ (phase_text p.0 ++ 32 ∷ decimal p.1)
no_quorum_read fields p h =
    let read = then_some (length fields == 3) (option_and_then (phase_with fields) (phase_in (field_at 1 fields))) p h in
    let phase = followed (phase_with fields) (phase_in (field_at 1 fields)) p read.1 in
    let heard = mapped (λ heard. (phase.0, heard)) (number_field (field_at 2 fields)) p phase.1.1 in
    joined_three fields read.0
    ∙ ap (λ (x : List ℕ). field_at 0 fields ++ 32 ∷ (x ++ 32 ∷ field_at 2 fields)) (phase_read (field_at 1 fields) phase.0 phase.1.0)
    ∙ ap (λ (y : List ℕ). field_at 0 fields ++ 32 ∷ (phase_text phase.0 ++ 32 ∷ y)) (number_text heard.0 (field_at 2 fields) heard.1.0)
    ∙ ap (λ (q : Phase × ℕ). field_at 0 fields ++ 32 ∷ (phase_text q.0 ++ 32 ∷ decimal q.1)) heard.1.1

-- a version and a name
versioned_read : (fields : List (List ℕ)) (p : ℕ × Name) → versioned fields ≡ Some p → (field_at 1 fields ≡ decimal p.0) × (field_at 2 fields ≡ name_text p.1)
versioned_read fields p h =
    let version = followed (version_of fields) (version_in (field_at 1 fields)) p h in
    let name = mapped (λ name. (version.0, name)) (name_field (field_at 2 fields)) p version.1.1 in (
      version_text version.0 (field_at 1 fields) version.1.0 ∙ ap (λ (q : ℕ × Name). decimal q.0) name.1.1,
      name_read name.0 (field_at 2 fields) name.1.0 ∙ ap (λ (q : ℕ × Name). name_text q.1) name.1.1,
    )

-- a word, and what follows it
after_word : (fields : List (List ℕ)) (word tail : List ℕ) → field_at 0 fields ≡ word → joined fields ≡ field_at 0 fields ++ 32 ∷ tail → joined fields ≡ word ++ 32 ∷ tail
after_word fields word tail same read = read ∙ ap (λ (w : List ℕ). w ++ 32 ∷ tail) same

pub spaced : (a b : List ℕ) → a ++ 32 ∷ b ≡ a ++ codes " " ++ b
spaced a b = sym (append_assoc a (32 ∷ []) b)

pub spaced_three : (a b c : List ℕ) → a ++ 32 ∷ (b ++ 32 ∷ c) ≡ a ++ codes " " ++ b ++ codes " " ++ c
spaced_three a b c = simp append_assoc refl

-- why a write ended without knowing
after_unsure : (fields : List (List ℕ)) (word tail : List ℕ) → 0 < length (fields_from 1 fields) → field_at 1 fields ≡ word
    → joined (fields_from 1 fields) ≡ field_at 0 (fields_from 1 fields) ++ 32 ∷ tail → joined fields ≡ field_at 0 fields ++ 32 ∷ (word ++ 32 ∷ tail)
after_unsure fields word tail some same read =
    joined_first fields some
    ∙ ap (λ (x : List ℕ). field_at 0 fields ++ 32 ∷ x) (after_word (fields_from 1 fields) word tail (second_first fields ∙ same) read)

some_three : (fields : List (List ℕ)) (p : Phase × ℕ) → no_quorum_in fields ≡ Some p → 0 < length fields
some_three fields p h = let n = eqb-true (length fields) 3 (then_some (length fields == 3) (option_and_then (phase_with fields) (phase_in (field_at 1 fields))) p h).0 in omega (arith, n)

some_count : (fields : List (List ℕ)) (n : ℕ) → count_alone fields ≡ Some n → 0 < length fields
some_count fields n h = let m = eqb-true (length fields) 2 (then_some (length fields == 2) (number_field (field_at 1 fields)) n h).0 in omega (arith, m)

some_version : (fields : List (List ℕ)) (v : ℕ) → version_alone fields ≡ Some v → 0 < length fields
some_version fields v h = let m = eqb-true (length fields) 2 (then_some (length fields == 2) (version_in (field_at 1 fields)) v h).0 in omega (arith, m)

unsure_read : (fields : List (List ℕ)) (why : UnsureWhy) → unsure_in fields ≡ Some why → joined fields ≡ field_at 0 fields ++ 32 ∷ unsure_text why
unsure_read fields why h =
    let word = field_at 1 fields in
    let rest = fields_from 1 fields in
    elim (either_some (is_word (codes "noquorum") word) (option_map (λ p. unsures.NoQuorum p.0 p.1) (no_quorum_in rest)) _ why h) [
      | inl this ↦ (let p = mapped (λ p. unsures.NoQuorum p.0 p.1) (no_quorum_in rest) why this.1 in
          after_unsure fields (codes "noquorum") (phase_text p.0.0 ++ 32 ∷ decimal p.0.1) (some_three rest p.0 p.1.0) (word_read (codes "noquorum") word this.0) (no_quorum_read rest p.0 p.1.0)
          ∙ ap (λ (x : List ℕ). field_at 0 fields ++ 32 ∷ (codes "noquorum " ++ x)) (spaced (phase_text p.0.0) (decimal p.0.1))
          ∙ ap (λ (w : UnsureWhy). field_at 0 fields ++ 32 ∷ unsure_text w) p.1.1)
      | inr h ↦ elim (either_some (is_word (codes "contended") word) (option_map (λ met. unsures.Contended met) (count_alone rest)) _ why h) [
        | inl this ↦ (let met = mapped (λ met. unsures.Contended met) (count_alone rest) why this.1 in
            after_unsure fields (codes "contended") (decimal met.0) (some_count rest met.0 met.1.0) (word_read (codes "contended") word this.0) (count_alone_read rest met.0 met.1.0)
            ∙ ap (λ (w : UnsureWhy). field_at 0 fields ++ 32 ∷ unsure_text w) met.1.1)
        | inr h ↦ (let this = then_some (is_word (codes "trimmed") word) (option_map (λ floor. unsures.Trimmed floor) (version_alone rest)) why h in
            let floor = mapped (λ floor. unsures.Trimmed floor) (version_alone rest) why this.1 in
            after_unsure fields (codes "trimmed") (decimal floor.0) (some_version rest floor.0 floor.1.0) (word_read (codes "trimmed") word this.0) (version_alone_read rest floor.0 floor.1.0)
            ∙ ap (λ (w : UnsureWhy). field_at 0 fields ++ 32 ∷ unsure_text w) floor.1.1)
      ]
    ]

-- the answers of numbers and words alone
plain_read : (kind : Told) (fields : List (List ℕ)) (a : Answer) → field_at 0 fields ≡ told_word kind → plain_in kind fields ≡ Some a → joined fields ≡ told_text a
plain_read told.Ok fields a word h =
    let v = mapped (λ version. answers.Ok version) (version_alone fields) a h in
    after_word fields (codes "ok") (decimal v.0) word (version_alone_read fields v.0 v.1.0) ∙ ap told_text v.1.1
plain_read told.Thin fields a word h =
    let p = mapped (λ p. answers.Thin p.0 p.1) (version_and_count fields) a h in
    after_word fields (codes "thin") (decimal p.0.0 ++ 32 ∷ decimal p.0.1) word (version_and_count_read fields p.0 p.1.0)
    ∙ ap (λ (x : List ℕ). codes "thin " ++ x) (spaced (decimal p.0.0) (decimal p.0.1)) ∙ ap told_text p.1.1
plain_read told.Short fields a word h =
    let n = mapped (λ stored. answers.Short stored) (count_alone fields) a h in
    after_word fields (codes "short") (decimal n.0) word (count_alone_read fields n.0 n.1.0) ∙ ap told_text n.1.1
plain_read told.Absent fields a word h =
    let one = then_some (length fields == 1) (Some answers.Absent) a h in
    joined_one fields one.0 ∙ word ∙ ap told_text (same_Some answers.Absent a one.1)
plain_read told.Unborn fields a word h =
    let v = mapped (λ latest. answers.Unborn latest) (latest_alone fields) a h in
    after_word fields (codes "unborn") (decimal v.0) word (latest_alone_read fields v.0 v.1.0) ∙ ap told_text v.1.1
plain_read told.Collected fields a word h =
    let v = mapped (λ floor. answers.Collected floor) (version_alone fields) a h in
    after_word fields (codes "collected") (decimal v.0) word (version_alone_read fields v.0 v.1.0) ∙ ap told_text v.1.1
plain_read told.Swept fields a word h =
    let p = mapped (λ p. answers.Swept p.0 p.1) (version_and_count fields) a h in
    after_word fields (codes "swept") (decimal p.0.0 ++ 32 ∷ decimal p.0.1) word (version_and_count_read fields p.0 p.1.0)
    ∙ ap (λ (x : List ℕ). codes "swept " ++ x) (spaced (decimal p.0.0) (decimal p.0.1)) ∙ ap told_text p.1.1
plain_read told.NoQuorum fields a word h =
    let p = mapped (λ p. answers.NoQuorum p.0 p.1) (no_quorum_in fields) a h in
    after_word fields (codes "noquorum") (phase_text p.0.0 ++ 32 ∷ decimal p.0.1) word (no_quorum_read fields p.0 p.1.0)
    ∙ ap (λ (x : List ℕ). codes "noquorum " ++ x) (spaced (phase_text p.0.0) (decimal p.0.1)) ∙ ap told_text p.1.1
plain_read told.Contended fields a word h =
    let n = mapped (λ met. answers.Contended met) (count_alone fields) a h in
    after_word fields (codes "contended") (decimal n.0) word (count_alone_read fields n.0 n.1.0) ∙ ap told_text n.1.1
plain_read told.Unsure fields a word h =
    let why = mapped (λ why. answers.Unsure why) (unsure_in fields) a h in
    after_word fields (codes "unsure") (unsure_text why.0) word (unsure_read fields why.0 why.1.0) ∙ ap told_text why.1.1
plain_read told.Bytes fields a word h = no_some (joined fields ≡ told_text a) a h
plain_read told.Incomplete fields a word h = no_some (joined fields ≡ told_text a) a h
plain_read told.Gone fields a word h = no_some (joined fields ≡ told_text a) a h
plain_read told.Held fields a word h = no_some (joined fields ≡ told_text a) a h

-- the others
found_read : (fields : List (List ℕ)) (a : Answer) → field_at 0 fields ≡ codes "bytes" → found_in fields ≡ Ok a → joined fields ≡ told_text a
found_read fields a word h =
    let four = then_ok (length fields == 4) (with (or_bad whys.Answer (versioned fields)) (λ read. with (bytes_in whys.Answer (field_at 3 fields)) (λ bytes. Ok (answers.Bytes read.0 read.1 bytes)))) (Bad whys.Answer) a h in
    let read = with_ok (or_bad whys.Answer (versioned fields)) (λ read. with (bytes_in whys.Answer (field_at 3 fields)) (λ bytes. Ok (answers.Bytes read.0 read.1 bytes))) a four.1 in
    let bytes = with_ok (bytes_in whys.Answer (field_at 3 fields)) (λ bytes. Ok (answers.Bytes read.0.0 read.0.1 bytes)) a read.1.1 in
    let parts = versioned_read fields read.0 (some_ok whys.Answer (versioned fields) read.0 read.1.0) in
    let last = bytes_read whys.Answer bytes.0 (field_at 3 fields) bytes.1.0 in
    joined_four fields four.0
    ∙ same_four _ _ _ _ (codes "bytes") (decimal read.0.0) (name_text read.0.1) (bytes_text bytes.0) word parts.0 parts.1 last
    ∙ ap (λ (x : List ℕ). codes "bytes " ++ x) (spaced_three (decimal read.0.0) (name_text read.0.1) (bytes_text bytes.0))
    ∙ ap told_text (same_ok (answers.Bytes read.0.0 read.0.1 bytes.0) a bytes.1.1)

incomplete_read : (fields : List (List ℕ)) (a : Answer) → field_at 0 fields ≡ codes "incomplete" → incomplete_in fields ≡ Some a → joined fields ≡ told_text a
incomplete_read fields a word h =
    let four = then_some (length fields == 4) (option_and_then (incomplete_with fields) (versioned fields)) a h in
    let read = followed (incomplete_with fields) (versioned fields) a four.1 in
    let fates = mapped (λ fates. answers.Incomplete read.0.0 read.0.1 fates) (fates_in (field_at 3 fields)) a read.1.1 in
    let parts = versioned_read fields read.0 read.1.0 in
    let last = fates_read fates.0 (field_at 3 fields) fates.1.0 in
    joined_four fields four.0
    ∙ same_four _ _ _ _ (codes "incomplete") (decimal read.0.0) (name_text read.0.1) (fates_text fates.0) word parts.0 parts.1 last
    ∙ ap (λ (x : List ℕ). codes "incomplete " ++ x) (spaced_three (decimal read.0.0) (name_text read.0.1) (fates_text fates.0))
    ∙ ap told_text fates.1.1

gone_read : (fields : List (List ℕ)) (a : Answer) → field_at 0 fields ≡ codes "gone" → gone_in fields ≡ Some a → joined fields ≡ told_text a
gone_read fields a word h =
    let three = then_some (length fields == 3) (option_map (λ read. answers.Gone read.0 read.1) (versioned fields)) a h in
    let read = mapped (λ read. answers.Gone read.0 read.1) (versioned fields) a three.1 in
    let parts = versioned_read fields read.0 read.1.0 in
    joined_three fields three.0
    ∙ same_three _ _ _ (codes "gone") (decimal read.0.0) (name_text read.0.1) word parts.0 parts.1
    ∙ ap (λ (x : List ℕ). codes "gone " ++ x) (spaced (decimal read.0.0) (name_text read.0.1))
    ∙ ap told_text read.1.1

held_read : (fields : List (List ℕ)) (a : Answer) → field_at 0 fields ≡ codes "held" → held_in fields ≡ Some a → joined fields ≡ told_text a
held_read fields a word h =
    elim (else_some (length fields == 2 && is_word (codes "noolder") (field_at 1 fields)) (answers.Held NoOlder) _ a h) [
      | inl none ↦ (let parts = and_parts (length fields == 2) (is_word (codes "noolder") (field_at 1 fields)) none.0 in
          let second = word_read (codes "noolder") (field_at 1 fields) parts.1 in
          joined_two fields parts.0 ∙ same_two _ _ (codes "held") (codes "noolder") word second ∙ ap told_text none.1)
      | inr h ↦ (let three = then_some (length fields == 3 && is_word (codes "notwhole") (field_at 1 fields)) (option_map (λ fates. answers.Held (NotWhole fates)) (fates_in (field_at 2 fields))) a h in
          let parts = and_parts (length fields == 3) (is_word (codes "notwhole") (field_at 1 fields)) three.0 in
          let second = word_read (codes "notwhole") (field_at 1 fields) parts.1 in
          let fates = mapped (λ fates. answers.Held (NotWhole fates)) (fates_in (field_at 2 fields)) a three.1 in
          let last = fates_read fates.0 (field_at 2 fields) fates.1.0 in
          joined_three fields parts.0 ∙ same_three _ _ _ (codes "held") (codes "notwhole") (fates_text fates.0) word second last ∙ ap told_text fates.1.1)
    ]

told_by : (kind : Told) (fields : List (List ℕ)) (a : Answer) → field_at 0 fields ≡ told_word kind → answer_by kind fields ≡ Ok a → joined fields ≡ told_text a
told_by told.Bytes fields a word h = found_read fields a word h
told_by told.Incomplete fields a word h = incomplete_read fields a word (some_ok whys.Answer (incomplete_in fields) a h)
told_by told.Gone fields a word h = gone_read fields a word (some_ok whys.Answer (gone_in fields) a h)
told_by told.Held fields a word h = held_read fields a word (some_ok whys.Answer (held_in fields) a h)
told_by told.Ok fields a word h = plain_read told.Ok fields a word (some_ok whys.Answer (plain_in told.Ok fields) a h)
told_by told.Thin fields a word h = plain_read told.Thin fields a word (some_ok whys.Answer (plain_in told.Thin fields) a h)
told_by told.Short fields a word h = plain_read told.Short fields a word (some_ok whys.Answer (plain_in told.Short fields) a h)
told_by told.Absent fields a word h = plain_read told.Absent fields a word (some_ok whys.Answer (plain_in told.Absent fields) a h)
told_by told.Unborn fields a word h = plain_read told.Unborn fields a word (some_ok whys.Answer (plain_in told.Unborn fields) a h)
told_by told.Collected fields a word h = plain_read told.Collected fields a word (some_ok whys.Answer (plain_in told.Collected fields) a h)
told_by told.Swept fields a word h = plain_read told.Swept fields a word (some_ok whys.Answer (plain_in told.Swept fields) a h)
told_by told.NoQuorum fields a word h = plain_read told.NoQuorum fields a word (some_ok whys.Answer (plain_in told.NoQuorum fields) a h)
told_by told.Contended fields a word h = plain_read told.Contended fields a word (some_ok whys.Answer (plain_in told.Contended fields) a h)
told_by told.Unsure fields a word h = plain_read told.Unsure fields a word (some_ok whys.Answer (plain_in told.Unsure fields) a h)

told_for : (kind : Kind) (answer : Option Told) (fields : List (List ℕ)) (a : Answer) → told_in (field_at 0 fields) ≡ answer → answer_for kind answer fields ≡ Ok a → joined fields ≡ told_text a
told_for kind None fields a word h = absurd (cc)
told_for kind (Some answer) fields a word h = told_by answer fields a (told_read (field_at 0 fields) answer word) (then_ok (may_answer kind answer) (answer_by answer fields) (Bad whys.Answer) a h).1

-- an answer that is read is written with these fields
pub answer_read : (kind : Kind) (fields : List (List ℕ)) (a : Answer) → answer_in kind fields ≡ Ok a → joined fields ≡ told_text a
answer_read kind fields a h = told_for kind (told_in (field_at 0 fields)) fields a refl h
