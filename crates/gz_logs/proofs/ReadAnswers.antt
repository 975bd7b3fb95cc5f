-- What is read of an answer is within its bounds, and of its kind.
use Rattle.std.proofs.Common.{ℕ, ◌≡◌, ◌^◌, ◌<◌, List, length, inl, inr, refl, ap, subst, ◌∙◌}
use Rattle.std.specs.Prelude.{Option, Some, None, Ok, codes, ◌==◌, ◌&&◌, option_map, option_and_then}
use Rattle.gz_core.specs.Names.{Name}
use Rattle.gz_core.specs.declared.calls.Answer.{Answer}
use Rattle.gz_core.specs.declared.calls.Answer.TheVariants as answers
use Rattle.gz_core.specs.declared.calls.Phase.{Phase}
use Rattle.gz_core.specs.declared.calls.UnsureWhy.{UnsureWhy}
use Rattle.gz_core.specs.declared.calls.UnsureWhy.TheVariants as unsures
use Rattle.gz_core.specs.declared.calls.HeldWhy.TheVariants.{NoOlder, NotWhole}
use Rattle.gz_core.specs.declared.texts.Why.TheVariants as whys
use Rattle.std.proofs.lemmas.Option.{same_Some}
use Rattle.gz_text.specs.declared.faults.Fault.TheVariants.{Bad}
use Rattle.gz_text.specs.Faults.{with, or_bad}
use Rattle.gz_text.specs.Fields.{number_below, number_field, is_word}
use Rattle.gz_text.specs.Names.{name_field}
use Rattle.gz_text.specs.Places.{field_at, fields_from}
use Rattle.gz_logs.specs.declared.kinds.Kind.{Kind}
use Rattle.gz_logs.specs.declared.kinds.Told.{Told}
use Rattle.gz_logs.specs.declared.kinds.Told.TheVariants as told
use Rattle.gz_logs.specs.Answers.{version_in, version_alone, latest_alone, count_alone, version_with, version_and_count, version_of, versioned, fates_in, incomplete_with, incomplete_in, gone_in, found_in, held_in, phase_in, phase_with, no_quorum_in, unsure_in, plain_in, answer_by, answer_for, answer_in}
use Rattle.gz_logs.specs.Bytes.{bytes_in}
use Rattle.gz_logs.specs.Fitting.{IsCount, IsVersion, IsName, IsUnsure, IsAnswer, IsAnswerOf, told_of}
use Rattle.gz_logs.specs.Kinds.{told_in, may_answer}
use Rattle.gz_logs.proofs.Choices.{with_ok, same_ok, some_ok, then_ok, then_some, else_some, either_some, mapped, followed, no_some}
use Rattle.gz_logs.proofs.ReadFields.{number_bound, count_bound, version_bound, name_bound, object_bound, fates_bound}

-- an answer of a kind, within bounds
record IsToldAs (kind : Told) (a : Answer) : Type 0 where
  told_is : told_of a ≡ kind
  bounded : IsAnswer a

version_alone_bound : (fields : List (List ℕ)) (v : ℕ) → version_alone fields ≡ Some v → IsVersion v
version_alone_bound fields v h = version_bound v (field_at 1 fields) (then_some (length fields == 2) (version_in (field_at 1 fields)) v h).1

latest_alone_bound : (fields : List (List ℕ)) (v : ℕ) → latest_alone fields ≡ Some v → v < 2 ^ 63
latest_alone_bound fields v h = number_bound (2 ^ 63) v (field_at 1 fields) (then_some (length fields == 2) (number_below (2 ^ 63) (field_at 1 fields)) v h).1

count_alone_bound : (fields : List (List ℕ)) (n : ℕ) → count_alone fields ≡ Some n → IsCount n
count_alone_bound fields n h = count_bound n (field_at 1 fields) (then_some (length fields == 2) (number_field (field_at 1 fields)) n h).1

version_and_count_bound : (fields : List (List ℕ)) (p : ℕ × ℕ) → version_and_count fields ≡ Some p → IsVersion p.0 × IsCount p.1
version_and_count_bound fields p h =
    let read = then_some (length fields == 3) (option_and_then (version_with fields) (version_in (field_at 1 fields))) p h in
    let version = followed (version_with fields) (version_in (field_at 1 fields)) p read.1 in
    let count = mapped (λ count. (version.0, count)) (number_field (field_at 2 fields)) p version.1.1 in
    subst (λ (q : ℕ × ℕ). IsVersion q.0 × IsCount q.1) count.1.1
    (version_bound version.0 (field_at 1 fields) version.1.0, count_bound count.0 (field_at 2 fields) count.1.0)

no_quorum_bound : (fields : List (List ℕ)) (p : Phase × ℕ) → no_quorum_in fields ≡ Some p → IsCount p.1
no_quorum_bound fields p h =
    let read = then_some (length fields == 3) (option_and_then (phase_with fields) (phase_in (field_at 1 fields))) p h in
    let phase = followed (phase_with fields) (phase_in (field_at 1 fields)) p read.1 in
    let heard = mapped (λ heard. (phase.0, heard)) (number_field (field_at 2 fields)) p phase.1.1 in
    subst (λ (q : Phase × ℕ). IsCount q.1) heard.1.1 (count_bound heard.0 (field_at 2 fields) heard.1.0)

versioned_bound : (fields : List (List ℕ)) (p : ℕ × Name) → versioned fields ≡ Some p → IsVersion p.0 × IsName p.1
versioned_bound fields p h =
    let version = followed (version_of fields) (version_in (field_at 1 fields)) p h in
    let name = mapped (λ name. (version.0, name)) (name_field (field_at 2 fields)) p version.1.1 in
    subst (λ (q : ℕ × Name). IsVersion q.0 × IsName q.1) name.1.1
    (version_bound version.0 (field_at 1 fields) version.1.0, name_bound name.0 (field_at 2 fields) name.1.0)

unsure_bound : (fields : List (List ℕ)) (why : UnsureWhy) → unsure_in fields ≡ Some why → IsUnsure why
unsure_bound fields why h =
    let word = field_at 1 fields in
    let rest = fields_from 1 fields in
    elim (either_some (is_word (codes "noquorum") word) (option_map (λ p. unsures.NoQuorum p.0 p.1) (no_quorum_in rest)) _ why h) [
      | inl this ↦ (let p = mapped (λ p. unsures.NoQuorum p.0 p.1) (no_quorum_in rest) why this.1 in subst IsUnsure p.1.1 (no_quorum_bound rest p.0 p.1.0))
      | inr h ↦ elim (either_some (is_word (codes "contended") word) (option_map (λ met. unsures.Contended met) (count_alone rest)) _ why h) [
        | inl this ↦ (let met = mapped (λ met. unsures.Contended met) (count_alone rest) why this.1 in subst IsUnsure met.1.1 (count_alone_bound rest met.0 met.1.0))
        | inr h ↦ (let this = then_some (is_word (codes "trimmed") word) (option_map (λ floor. unsures.Trimmed floor) (version_alone rest)) why h in
            let floor = mapped (λ floor. unsures.Trimmed floor) (version_alone rest) why this.1 in
            subst IsUnsure floor.1.1 (version_alone_bound rest floor.0 floor.1.0))
      ]
    ]

-- the answers of numbers and words alone
plain_bound : (kind : Told) (fields : List (List ℕ)) (a : Answer) → plain_in kind fields ≡ Some a → IsToldAs kind a
plain_bound told.Ok fields a h =
    let v = mapped (λ version. answers.Ok version) (version_alone fields) a h in
    subst (IsToldAs told.Ok) v.1.1 (record { told_is = refl; bounded = version_alone_bound fields v.0 v.1.0 })
plain_bound told.Thin fields a h =
    let p = mapped (λ p. answers.Thin p.0 p.1) (version_and_count fields) a h in
    subst (IsToldAs told.Thin) p.1.1 (record { told_is = refl; bounded = version_and_count_bound fields p.0 p.1.0 })
plain_bound told.Short fields a h =
    let n = mapped (λ stored. answers.Short stored) (count_alone fields) a h in
    subst (IsToldAs told.Short) n.1.1 (record { told_is = refl; bounded = count_alone_bound fields n.0 n.1.0 })
plain_bound told.Absent fields a h =
    subst (IsToldAs told.Absent) (same_Some answers.Absent a (then_some (length fields == 1) (Some answers.Absent) a h).1) (record { told_is = refl; bounded = tt })
plain_bound told.Unborn fields a h =
    let v = mapped (λ latest. answers.Unborn latest) (latest_alone fields) a h in
    subst (IsToldAs told.Unborn) v.1.1 (record { told_is = refl; bounded = latest_alone_bound fields v.0 v.1.0 })
plain_bound told.Collected fields a h =
    let v = mapped (λ floor. answers.Collected floor) (version_alone fields) a h in
    subst (IsToldAs told.Collected) v.1.1 (record { told_is = refl; bounded = version_alone_bound fields v.0 v.1.0 })
plain_bound told.Swept fields a h =
    let p = mapped (λ p. answers.Swept p.0 p.1) (version_and_count fields) a h in
    subst (IsToldAs told.Swept) p.1.1 (record { told_is = refl; bounded = version_and_count_bound fields p.0 p.1.0 })
plain_bound told.NoQuorum fields a h =
    let p = mapped (λ p. answers.NoQuorum p.0 p.1) (no_quorum_in fields) a h in
    subst (IsToldAs told.NoQuorum) p.1.1 (record { told_is = refl; bounded = no_quorum_bound fields p.0 p.1.0 })
plain_bound told.Contended fields a h =
    let n = mapped (λ met. answers.Contended met) (count_alone fields) a h in
    subst (IsToldAs told.Contended) n.1.1 (record { told_is = refl; bounded = count_alone_bound fields n.0 n.1.0 })
plain_bound told.Unsure fields a h =
    let why = mapped (λ why. answers.Unsure why) (unsure_in fields) a h in
    subst (IsToldAs told.Unsure) why.1.1 (record { told_is = refl; bounded = unsure_bound fields why.0 why.1.0 })
plain_bound told.Bytes fields a h = no_some (IsToldAs told.Bytes a) a h
plain_bound told.Incomplete fields a h = no_some (IsToldAs told.Incomplete a) a h
plain_bound told.Gone fields a h = no_some (IsToldAs told.Gone a) a h
plain_bound told.Held fields a h = no_some (IsToldAs told.Held a) a h

-- the others
found_bound : (fields : List (List ℕ)) (a : Answer) → found_in fields ≡ Ok a → IsToldAs told.Bytes a
found_bound fields a h =
    let four = then_ok (length fields == 4) (with (or_bad whys.Answer (versioned fields)) (λ read. with (bytes_in whys.Answer (field_at 3 fields)) (λ bytes. Ok (answers.Bytes read.0 read.1 bytes)))) (Bad whys.Answer) a h in
    let read = with_ok (or_bad whys.Answer (versioned fields)) (λ read. with (bytes_in whys.Answer (field_at 3 fields)) (λ bytes. Ok (answers.Bytes read.0 read.1 bytes))) a four.1 in
    let bytes = with_ok (bytes_in whys.Answer (field_at 3 fields)) (λ bytes. Ok (answers.Bytes read.0.0 read.0.1 bytes)) a read.1.1 in
    let facts = versioned_bound fields read.0 (some_ok whys.Answer (versioned fields) read.0 read.1.0) in
    subst (IsToldAs told.Bytes) (same_ok (answers.Bytes read.0.0 read.0.1 bytes.0) a bytes.1.1)
    (record { told_is = refl; bounded = (facts.0, facts.1, object_bound whys.Answer bytes.0 (field_at 3 fields) bytes.1.0) })

incomplete_bound : (fields : List (List ℕ)) (a : Answer) → incomplete_in fields ≡ Some a → IsToldAs told.Incomplete a
incomplete_bound fields a h =
    let four = then_some (length fields == 4) (option_and_then (incomplete_with fields) (versioned fields)) a h in
    let read = followed (incomplete_with fields) (versioned fields) a four.1 in
    let fates = mapped (λ fates. answers.Incomplete read.0.0 read.0.1 fates) (fates_in (field_at 3 fields)) a read.1.1 in
    let facts = versioned_bound fields read.0 read.1.0 in
    subst (IsToldAs told.Incomplete) fates.1.1 (record { told_is = refl; bounded = (facts.0, facts.1, fates_bound fates.0 (field_at 3 fields) fates.1.0) })

gone_bound : (fields : List (List ℕ)) (a : Answer) → gone_in fields ≡ Some a → IsToldAs told.Gone a
gone_bound fields a h =
    let three = then_some (length fields == 3) (option_map (λ read. answers.Gone read.0 read.1) (versioned fields)) a h in
    let read = mapped (λ read. answers.Gone read.0 read.1) (versioned fields) a three.1 in
    subst (IsToldAs told.Gone) read.1.1 (record { told_is = refl; bounded = versioned_bound fields read.0 read.1.0 })

held_bound : (fields : List (List ℕ)) (a : Answer) → held_in fields ≡ Some a → IsToldAs told.Held a
held_bound fields a h =
    elim (else_some (length fields == 2 && is_word (codes "noolder") (field_at 1 fields)) (answers.Held NoOlder) _ a h) [
      | inl none ↦ subst (IsToldAs told.Held) none.1 (record { told_is = refl; bounded = tt })
      | inr h ↦ (let three = then_some (length fields == 3 && is_word (codes "notwhole") (field_at 1 fields)) (option_map (λ fates. answers.Held (NotWhole fates)) (fates_in (field_at 2 fields))) a h in
          let fates = mapped (λ fates. answers.Held (NotWhole fates)) (fates_in (field_at 2 fields)) a three.1 in
          subst (IsToldAs told.Held) fates.1.1 (record { told_is = refl; bounded = fates_bound fates.0 (field_at 2 fields) fates.1.0 }))
    ]

told_bound : (kind : Told) (fields : List (List ℕ)) (a : Answer) → answer_by kind fields ≡ Ok a → IsToldAs kind a
told_bound told.Bytes fields a h = found_bound fields a h
told_bound told.Incomplete fields a h = incomplete_bound fields a (some_ok whys.Answer (incomplete_in fields) a h)
told_bound told.Gone fields a h = gone_bound fields a (some_ok whys.Answer (gone_in fields) a h)
told_bound told.Held fields a h = held_bound fields a (some_ok whys.Answer (held_in fields) a h)
told_bound told.Ok fields a h = plain_bound told.Ok fields a (some_ok whys.Answer (plain_in told.Ok fields) a h)
told_bound told.Thin fields a h = plain_bound told.Thin fields a (some_ok whys.Answer (plain_in told.Thin fields) a h)
told_bound told.Short fields a h = plain_bound told.Short fields a (some_ok whys.Answer (plain_in told.Short fields) a h)
told_bound told.Absent fields a h = plain_bound told.Absent fields a (some_ok whys.Answer (plain_in told.Absent fields) a h)
told_bound told.Unborn fields a h = plain_bound told.Unborn fields a (some_ok whys.Answer (plain_in told.Unborn fields) a h)
told_bound told.Collected fields a h = plain_bound told.Collected fields a (some_ok whys.Answer (plain_in told.Collected fields) a h)
told_bound told.Swept fields a h = plain_bound told.Swept fields a (some_ok whys.Answer (plain_in told.Swept fields) a h)
told_bound told.NoQuorum fields a h = plain_bound told.NoQuorum fields a (some_ok whys.Answer (plain_in told.NoQuorum fields) a h)
told_bound told.Contended fields a h = plain_bound told.Contended fields a (some_ok whys.Answer (plain_in told.Contended fields) a h)
told_bound told.Unsure fields a h = plain_bound told.Unsure fields a (some_ok whys.Answer (plain_in told.Unsure fields) a h)

answer_of_kind : (kind : Kind) (answer : Option Told) (fields : List (List ℕ)) (a : Answer) → answer_for kind answer fields ≡ Ok a → IsAnswerOf kind a
answer_of_kind kind None fields a h = absurd (cc)
answer_of_kind kind (Some answer) fields a h =
    let test = then_ok (may_answer kind answer) (answer_by answer fields) (Bad whys.Answer) a h in
    let facts = told_bound answer fields a test.1 in
    record { kind_is = ap (may_answer kind) facts.told_is ∙ test.0; bounded = facts.bounded }

-- an answer that is read is one of the kind of its call, within bounds
pub answer_bound : (kind : Kind) (fields : List (List ℕ)) (a : Answer) → answer_in kind fields ≡ Ok a → IsAnswerOf kind a
answer_bound kind fields a h = answer_of_kind kind (told_in (field_at 0 fields)) fields a h
