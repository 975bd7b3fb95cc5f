-- A record has the header of a fragment exactly where it is read with the fragment's parts.
use Rattle.std.proofs.Common.{◌≡◌, ℕ, ◌+◌, Bool, true, false, cond, eqb, List, [], ◌++◌, length, take, drop, Option, Some, None, Result, Ok, Err, refl, sym, ap, subst, ◌∙◌, arith, rules, length-append, length-drop}
use Rattle.std.specs.Prelude.{◌&&◌, nat_eq}
use Rattle.std.specs.Cmp.Lexicographic.{pointwise, same_text}
use Rattle.std.specs.Int.{div_ceil}
use Rattle.std.proofs.lemmas.Bool.{eqb-true, eq-eqb}
use Rattle.std.proofs.lemmas.List.{take_at, drop_at, take-append-drop}
use Rattle.gz_fragfmt.specs.declared.errors.FragError.{FragError}
use Rattle.gz_fragfmt.specs.declared.fragments.Parts.{Parts}
use Rattle.gz_fragfmt.specs.Fragments.{FragmentAt, IsFragment, parts_at}
use Rattle.gz_fragfmt.specs.Spelling.{header, spelling}
use Rattle.gz_fragfmt.specs.Reading.{Gives}
use Rattle.gz_data.specs.Records.{is_record, same_header, IsFragmentByPiece, record_piece}

pub both : (p q : Bool) → p && q ≡ true → (p ≡ true) × (q ≡ true)
both true q e = (refl, e)
both false q e = absurd cc

pub same_test : (xs ys : List ℕ) → xs ≡ ys → pointwise nat_eq xs ys ≡ true
same_test xs ys e = search (rules, e)

-- ---- headers

same_but_piece : (a b : FragmentAt) → same_header a b ≡ true → a ≡ record b { piece = a.piece }
same_but_piece a b e =
    let lengths = both _ (eqb a.length b.length) e in
    let ms = both _ (eqb a.m b.m) lengths.0 in
    let ks = both _ (eqb a.k b.k) ms.0 in
    let indices = both _ (eqb a.index b.index) ks.0 in
    let seqs = both _ (eqb a.name.seq b.name.seq) indices.0 in
    let sessions = both (pointwise nat_eq a.key b.key) (eqb a.name.session b.name.session) seqs.0 in
    let key : b.key ≡ a.key = sym (same_text a.key b.key (sym sessions.0)) in
    let session : b.name.session ≡ a.name.session = sym (eqb-true _ _ sessions.1) in
    let seq : b.name.seq ≡ a.name.seq = sym (eqb-true _ _ seqs.1) in
    let index : b.index ≡ a.index = sym (eqb-true _ _ indices.1) in
    let k : b.k ≡ a.k = sym (eqb-true _ _ ks.1) in
    let m : b.m ≡ a.m = sym (eqb-true _ _ ms.1) in
    let len : b.length ≡ a.length = sym (eqb-true _ _ lengths.1) in
    rw (key, session, seq, index, k, m, len) refl

header_is_same : (b : FragmentAt) (piece : List ℕ) → same_header (record b { piece = piece }) b ≡ true
header_is_same b piece =
    rw (same_test b.key b.key refl, eq-eqb b.name.session b.name.session refl, eq-eqb b.name.seq b.name.seq refl, eq-eqb b.index b.index refl, eq-eqb b.k b.k refl, eq-eqb b.m b.m refl, eq-eqb b.length b.length refl) refl

-- ---- records

-- the record of a fragment, with this piece
pub record IsRecord (f : FragmentAt) (bytes piece : List ℕ) : Type 0 where
  pub spelled : bytes ≡ header f ++ piece
  pub wide : length piece ≡ div_ceil f.length f.k

pub record_is : (f : FragmentAt) (bytes : List ℕ) → is_record f bytes ≡ true → IsRecord f bytes (drop (length (header f)) bytes)
record_is f bytes e =
    let head = header f in
    let parts = both (pointwise nat_eq (take (length head) bytes) head) (eqb (length bytes) (length head + div_ceil f.length f.k)) e in
    let front : take (length head) bytes ≡ head = same_text (take (length head) bytes) head (sym parts.0) in
    let long : length bytes ≡ length head + div_ceil f.length f.k = eqb-true _ _ parts.1 in
    record {
      spelled = sym (take-append-drop (length head) bytes) ∙ ap (λ (t : List ℕ). t ++ drop (length head) bytes) front;
      wide = omega (arith, length-drop (length head) bytes, long);
    }

passes : (p q : Bool) → p ≡ true → q ≡ true → p && q ≡ true
passes p q a b = rw (a, b) refl

pub is_its_record : (f : FragmentAt) (bytes piece : List ℕ) → IsRecord f bytes piece → (is_record f bytes ≡ true) × (drop (length (header f)) bytes ≡ piece)
is_its_record f bytes piece w =
    let head = header f in
    let front : take (length head) bytes ≡ head = ap (take (length head)) w.spelled ∙ take_at head piece (length head) refl in
    let long : length bytes ≡ length head + div_ceil f.length f.k = ap length w.spelled ∙ length-append head piece ∙ ap (λ (n : ℕ). length head + n) w.wide in (
      passes (pointwise nat_eq (take (length head) bytes) head) (eqb (length bytes) (length head + div_ceil f.length f.k)) (same_test (take (length head) bytes) head front) (eq-eqb _ _ long),
      ap (drop (length head)) w.spelled ∙ drop_at head piece (length head) refl,
    )

-- ---- what is read

-- a record of the fragment is read as it
module _ (f : FragmentAt) (bytes : List ℕ) (rules_hold : IsFragmentByPiece f) (r : Result Parts FragError)
    (only : (g : FragmentAt) → IsFragment g → bytes ≡ spelling g → Gives parts_at r (Ok g)) where
  read_is : is_record f bytes ≡ true → Gives parts_at r (Ok (record f { piece = drop (length (header f)) bytes }))
  read_is e =
      let is = record_is f bytes e in
      only (record f { piece = drop (length (header f)) bytes }) (rules_hold (drop (length (header f)) bytes) is.wide) is.spelled

refused : (f : FragmentAt) (bytes : List ℕ) (b : Bool) → is_record f bytes ≡ b → (b ≡ true → ⊥) → record_piece f bytes ≡ None
unfolding record_piece
refused f bytes true e never = absurd (never refl)
refused f bytes false e never = rw e refl

done : {A : Type 0} → A → Result A FragError
done x = Ok x

not_both : {A : Type 0} (x : A) (e : FragError) → Ok x ≡ Err e → ⊥
not_both x e same = cc

-- bytes that are no record of any fragment
pub none_of_refused : (f : FragmentAt) (bytes : List ℕ) (e : FragError) → IsFragmentByPiece f → ((g : FragmentAt) → IsFragment g → bytes ≡ spelling g → Gives parts_at (Err e) (Ok g)) → record_piece f bytes ≡ None
none_of_refused f bytes e rules_hold only =
    refused f bytes (is_record f bytes) refl (λ yes. not_both _ e (read_is f bytes rules_hold (Err e) only yes))

-- a record of another fragment
pub none_of_other : (f : FragmentAt) (bytes : List ℕ) (p : Parts) → IsFragmentByPiece f → ((g : FragmentAt) → IsFragment g → bytes ≡ spelling g → Gives parts_at (Ok p) (Ok g))
    → same_header (parts_at p) f ≡ false → record_piece f bytes ≡ None
none_of_other f bytes p rules_hold only apart =
    refused f bytes (is_record f bytes) refl (λ yes.
    let read = read_is f bytes rules_hold (Ok p) only yes in
    let parts : record f { piece = drop (length (header f)) bytes } ≡ parts_at p = cc in
    let same : same_header (parts_at p) f ≡ true = subst (λ (g : FragmentAt). same_header g f ≡ true) parts (header_is_same f (drop (length (header f)) bytes)) in
    absurd cc)

-- a record of the fragment
pub piece_of_same : (f : FragmentAt) (bytes : List ℕ) (p : Parts) → IsFragment (parts_at p) → bytes ≡ spelling (parts_at p) → same_header (parts_at p) f ≡ true → record_piece f bytes ≡ Some p.piece.now
unfolding record_piece
piece_of_same f bytes p is spelled same =
    let parts : parts_at p ≡ record f { piece = p.piece.now } = same_but_piece (parts_at p) f same in
    let wide : length p.piece.now ≡ div_ceil f.length f.k = subst (λ (g : FragmentAt). length p.piece.now ≡ div_ceil g.length g.k) parts is.is_piece.width in
    let record_is = is_its_record f bytes p.piece.now (record { spelled = spelled ∙ ap spelling parts; wide = wide }) in
    rw record_is.0 (ap Some record_is.1)
