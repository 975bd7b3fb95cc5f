-- Records that came whole are those that the put made, and their pieces give the object.
use Rattle.std.proofs.Common.{◌≡◌, ℕ, ◌+◌, ◌<◌, ◌≤◌, Bool, true, false, cond, List, [], ◌++◌, length, get_or, drop, Option, Some, None, refl, sym, ap, subst, ◌∙◌, inl, inr}
use Rattle.std.specs.Prelude.{◌&&◌, ◌⊎◌, nat_eq}
use Rattle.std.specs.Cmp.Lexicographic.{pointwise, same_text}
use Rattle.std.specs.Int.{div_ceil}
use Rattle.sha2.specs.Sha256.{sha256}
use Rattle.std.proofs.lemmas.List.{append_cancel_left}
use Rattle.gz_config.specs.declared.Config.{Config}
use Rattle.gz_core.specs.Names.{Name}
use Rattle.gz_core.specs.Puts.{PutData}
use Rattle.gz_code.specs.CodeWord.{IsSplit}
use Rattle.gz_code.proofs.OneSplit.{one_split}
use Rattle.gz_fragfmt.specs.Fragments.{FragmentAt}
use Rattle.gz_fragfmt.specs.Spelling.{header}
use Rattle.gz_data.specs.Own.{record_at, put_of, IsPutOf, IsRecordOfPut, digest_at}
use Rattle.gz_data.specs.Records.{is_record, checked_piece, fragment_at}
use Rattle.gz_data.specs.Whole.{Piece, no_piece, CameWhole, AreOf, IsRebuilt}
use Rattle.gz_data.proofs.Digests.{digest_of_cut}
use Rattle.gz_data.proofs.Records.{both, same_test, IsRecord, record_is, is_its_record}

chosen : {A : Type 0} (b : Bool) (x y : A) → cond b (Some x) None ≡ Some y → (b ≡ true) × (x ≡ y)
chosen true x y e = (refl, cc)
chosen false x y e = absurd cc

passes : {A : Type 0} (p r : Bool) (x y : A) → p ≡ true → r ≡ true → x ≡ y → cond (p && r) (Some x) None ≡ Some y
passes p r x y a c e = rw (a, c) (ap Some e)

-- a whole record has the digest, and is the fragment's record with this piece
pub record IsWhole (f : FragmentAt) (digest bytes piece : List ℕ) : Type 0 where
  pub has_digest : sha256 bytes ≡ digest
  pub spelled : bytes ≡ header f ++ piece
  pub wide : length piece ≡ div_ceil f.length f.k

pub whole_is : (f : FragmentAt) (digest bytes piece : List ℕ) → checked_piece f digest bytes ≡ Some piece → IsWhole f digest bytes piece
unfolding checked_piece
whole_is f digest bytes piece e =
    let rest = drop (length (header f)) bytes in
    let taken = chosen (is_record f bytes && pointwise nat_eq (sha256 bytes) digest) rest piece e in
    let tests = both (is_record f bytes) (pointwise nat_eq (sha256 bytes) digest) taken.0 in
    let is = subst (λ (t : List ℕ). IsRecord f bytes t) taken.1 (record_is f bytes tests.0) in
    record { has_digest = same_text (sha256 bytes) digest (sym tests.1); spelled = is.spelled; wide = is.wide }

pub is_whole : (f : FragmentAt) (digest bytes piece : List ℕ) → IsWhole f digest bytes piece → checked_piece f digest bytes ≡ Some piece
unfolding checked_piece
is_whole f digest bytes piece w =
    let is = is_its_record f bytes piece (record { spelled = w.spelled; wide = w.wide }) in
    passes (is_record f bytes) (pointwise nat_eq (sha256 bytes) digest) (drop (length (header f)) bytes) piece is.0 (same_test (sha256 bytes) digest w.has_digest) is.1

-- ---- the object

module _ (c : Config) (name : Name) (key object : List ℕ) (fits : c.k + c.m ≤ 256) (all : List (List ℕ)) (split : IsSplit c.k c.m object all) where
  -- the piece that came whole is the one that was cut
  came_piece : (piece : Piece) → CameWhole c name key object (put_of c name key object all) piece → piece.1 ≡ get_or all piece.0 []
  came_piece piece came =
      let x = put_of c name key object all in
      let made = came.2 in
      let whole = whole_is (fragment_at key x piece.0) (digest_at x piece.0) came.1 piece.1 came.4 in
      let digest = digest_of_cut c name key object fits all piece.0 came.0 split made in
      let same_bytes : came.1 ≡ came.0 = elim came.3 [ inl same ↦ same | inr apart ↦ absurd (apart (whole.has_digest ∙ digest)) ] in
      let same_split : made.0 ≡ all = one_split c.k c.m object made.0 all fits made.1 split in
      let spelled : header (fragment_at key x piece.0) ++ piece.1 ≡ header (fragment_at key x piece.0) ++ get_or all piece.0 [] =
      sym whole.spelled ∙ same_bytes ∙ made.3 ∙ ap (λ (ps : List (List ℕ)). record_at c name key object ps piece.0) same_split in
      append_cancel_left (header (fragment_at key x piece.0)) piece.1 (get_or all piece.0 []) spelled

  pub object_from_cut : (pieces : List Piece) (bytes : List ℕ)
      → ((j : ℕ) → j < length pieces → CameWhole c name key object (put_of c name key object all) (get_or pieces j no_piece))
      → IsRebuilt c.k c.m (length object) pieces bytes → bytes ≡ object
  object_from_cut pieces bytes came rebuilt = rebuilt.same object all split refl (λ j l. came_piece (get_or pieces j no_piece) (came j l))

pub object_from_whole : (c : Config) (name : Name) (key object : List ℕ) (x : PutData) (pieces : List Piece) (bytes : List ℕ)
    → c.k + c.m ≤ 256 → IsPutOf c name key object x → ((j : ℕ) → j < length pieces → CameWhole c name key object x (get_or pieces j no_piece))
    → IsRebuilt x.k x.m x.length pieces bytes → bytes ≡ object
object_from_whole c name key object x pieces bytes fits own =
    subst (λ (y : PutData). ((j : ℕ) → j < length pieces → CameWhole c name key object y (get_or pieces j no_piece)) → IsRebuilt y.k y.m y.length pieces bytes → bytes ≡ object) (sym own.2)
    (object_from_cut c name key object fits own.0 own.1 pieces bytes)
