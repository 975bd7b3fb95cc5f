-- A record that is read is the fragment's spelling, and a fragment that was spelled is read again.
use Rattle.std.proofs.Common.{◌≡◌, ℕ, ◌+◌, List, ◌∷◌, ◌++◌, Result, Ok, Err, refl, sym, ap, subst, ◌∙◌, append_assoc}
use Rattle.std.proofs.Common.{length as list_length}
use Rattle.std.specs.Prelude.{IfOk}
use Rattle.std.specs.Int.{w32, to_be_bytes, div_ceil}
use Rattle.gz_core.specs.Keys.{IsKey}
use Rattle.gz_bytes.specs.Fields.{byte_at, name_at, data_at, length_at}
use Rattle.gz_bytes.specs.Spelling.{name_bytes, IsName}
use Rattle.gz_bytes.proofs.Steps.{bind_ok, bind_again, told_ok, told_again, ok_is}
use Rattle.gz_bytes.proofs.Bytes.{IsBytes, byte_takes, magic_takes, magic_again}
use Rattle.gz_bytes.proofs.PutFields.{name_takes, name_again, data_takes, data_again, length_takes, length_again}
use Rattle.gz_fragfmt.specs.declared.errors.FragError.{FragError}
use Rattle.gz_fragfmt.specs.declared.errors.FragError.TheVariants.{Magic}
use Rattle.gz_fragfmt.specs.declared.fragments.Parts.{Parts}
use Rattle.gz_fragfmt.specs.Fragments.{FragmentAt, IsFragmentPiece, IsFragment, parts_at}
use Rattle.gz_fragfmt.specs.Spelling.{magic, string, shape_bytes, spelling}
use Rattle.gz_fragfmt.specs.Reading.{Gives, fault_of, magic_at, key_at, m_at, piece_at, rest_at, fragment_in}
use Rattle.gz_fragfmt.proofs.Keys.{key_takes, key_again}
use Rattle.gz_fragfmt.proofs.Fields.{m_takes, m_again, piece_takes, piece_again}

-- what stands after the key
abbrev after_key : FragmentAt → List ℕ
after_key f = name_bytes f.name ++ (shape_bytes f.index f.k f.m f.length ++ f.piece)

-- bytes that stand after a key, and their fragment
record IsRest (key bytes : List ℕ) (f : FragmentAt) : Type 0 where
  key_is : f.key ≡ key
  is_name : IsName f.name
  is_piece : IsFragmentPiece f.index f.k f.m f.length f.piece
  spelled : bytes ≡ after_key f

rest_takes : (key : List ℕ) (at : ℕ) (bytes : List ℕ) (f : FragmentAt) → IsBytes bytes → rest_at key at bytes ≡ Ok f → IsRest key bytes f
unfolding rest_at
rest_takes key at bytes f fits e =
    let name = told_ok fault_of (name_at at bytes) _ f e in
    let index = told_ok fault_of (byte_at (at + 8) name.0.1) _ f name.2 in
    let k = told_ok fault_of (data_at (at + 9) index.0.1) _ f index.2 in
    let m = bind_ok (m_at (at + 10) index.0.0 k.0.0 k.0.1) _ f k.2 in
    let len = told_ok fault_of (length_at (at + 11) m.0.1) _ f m.2 in
    let piece = bind_ok (piece_at (at + 15) (div_ceil len.0.0 k.0.0) len.0.1) _ f len.2 in
    let t0 = name_takes at bytes name.0 fits name.1 in
    let t1 = byte_takes (at + 8) name.0.1 index.0 t0.0.rest_fits index.1 in
    let t2 = data_takes (at + 9) index.0.1 k.0 t1.0.rest_fits k.1 in
    let t3 = m_takes (at + 10) index.0.0 k.0.0 k.0.1 m.0 t2.0.rest_fits m.1 in
    let t4 = length_takes (at + 11) m.0.1 len.0 t3.0.rest_fits len.1 in
    let t5 = piece_takes (at + 15) (div_ceil len.0.0 k.0.0) len.0.1 piece.0 t4.0.rest_fits piece.1 in
    let made : FragmentAt = record { key = key; name = name.0.0; index = index.0.0; k = k.0.0; m = m.0.0; length = len.0.0; piece = piece.0 } in
    let numbers_end : m.0.1 ≡ to_be_bytes w32 len.0.0 ++ piece.0 = t4.0.parts ∙ ap (λ (t : List ℕ). to_be_bytes w32 len.0.0 ++ t) t5.0 in
    let from_m : k.0.1 ≡ m.0.0 ∷ (to_be_bytes w32 len.0.0 ++ piece.0) = t3.0.parts ∙ ap (λ (t : List ℕ). m.0.0 ∷ t) numbers_end in
    let from_k : index.0.1 ≡ k.0.0 ∷ (m.0.0 ∷ (to_be_bytes w32 len.0.0 ++ piece.0)) = t2.0.parts ∙ ap (λ (t : List ℕ). k.0.0 ∷ t) from_m in
    let from_index : name.0.1 ≡ index.0.0 ∷ (k.0.0 ∷ (m.0.0 ∷ (to_be_bytes w32 len.0.0 ++ piece.0))) = t1.0.parts ∙ ap (λ (t : List ℕ). index.0.0 ∷ t) from_k in
    let whole : bytes ≡ after_key made = t0.0.parts ∙ ap (λ (t : List ℕ). name_bytes name.0.0 ++ t) from_index in
    subst (λ (g : FragmentAt). IsRest key bytes g) (ok_is {E = FragError} made f piece.2)
    (record { key_is = refl; is_name = t0.1; is_piece = record { some = t2.1; few = t3.1.0; within = t3.1.1; bounded = t4.1; width = t5.1 }; spelled = whole })

rest_again : (f : FragmentAt) (at : ℕ) → IsName f.name → IsFragmentPiece f.index f.k f.m f.length f.piece → rest_at f.key at (after_key f) ≡ Ok f
unfolding rest_at
rest_again f at is_name is_piece =
    told_again fault_of (name_at at (after_key f)) (f.name, shape_bytes f.index f.k f.m f.length ++ f.piece) _ (Ok f)
    (name_again at f.name (shape_bytes f.index f.k f.m f.length ++ f.piece) is_name)
    (told_again fault_of (data_at (at + 9) (f.k ∷ (f.m ∷ (to_be_bytes w32 f.length ++ f.piece)))) (f.k, f.m ∷ (to_be_bytes w32 f.length ++ f.piece)) _ (Ok f)
    (data_again (at + 9) f.k (f.m ∷ (to_be_bytes w32 f.length ++ f.piece)) is_piece.some)
    (bind_again (m_at (at + 10) f.index f.k (f.m ∷ (to_be_bytes w32 f.length ++ f.piece))) (f.m, to_be_bytes w32 f.length ++ f.piece) _ (Ok f)
    (m_again (at + 10) f.index f.k f.m (to_be_bytes w32 f.length ++ f.piece) (is_piece.few, is_piece.within))
    (told_again fault_of (length_at (at + 11) (to_be_bytes w32 f.length ++ f.piece)) (f.length, f.piece) _ (Ok f)
    (length_again (at + 11) f.length f.piece is_piece.bounded)
    (bind_again (piece_at (at + 15) (div_ceil f.length f.k) f.piece) f.piece _ (Ok f)
    (piece_again (at + 15) (div_ceil f.length f.k) f.piece is_piece.width) refl))))

spelling_parts : (f : FragmentAt) → spelling f ≡ magic ++ (string f.key ++ after_key f)
spelling_parts f = ap (λ (t : List ℕ). magic ++ (list_length f.key ∷ t)) (append_assoc f.key (name_bytes f.name ++ shape_bytes f.index f.k f.m f.length) f.piece)

fragment_takes : (bytes : List ℕ) (f : FragmentAt) → IsBytes bytes → fragment_in bytes ≡ Ok f → IsFragment f × (bytes ≡ spelling f)
unfolding fragment_in magic_at
fragment_takes bytes f fits e =
    let start = bind_ok (magic_at bytes) _ f e in
    let key = bind_ok (key_at start.0) _ f start.2 in
    let t0 = magic_takes fault_of magic (Magic 0) bytes start.0 fits start.1 in
    let t1 = key_takes start.0 key.0 t0.rest_fits key.1 in
    let rest = rest_takes key.0.0 (5 + list_length key.0.0) key.0.1 f t1.0.rest_fits key.2 in
    let parts : start.0 ≡ string f.key ++ after_key f =
    subst (λ (k : List ℕ). start.0 ≡ string k ++ after_key f) (sym rest.key_is) (t1.0.parts ∙ ap (λ (t : List ℕ). string key.0.0 ++ t) rest.spelled) in (
      record { is_key = subst IsKey (sym rest.key_is) t1.1; from_one = rest.is_name.from_one; session_fits = rest.is_name.session_fits; counted = rest.is_name.counted; seq_fits = rest.is_name.seq_fits; is_piece = rest.is_piece },
      t0.parts ∙ ap (λ (t : List ℕ). magic ++ t) parts ∙ sym (spelling_parts f),
    )

pub fragment_again : (f : FragmentAt) → IsFragment f → fragment_in (spelling f) ≡ Ok f
unfolding fragment_in magic_at
fragment_again f is =
    ap fragment_in (spelling_parts f)
    ∙ bind_again (magic_at (magic ++ (string f.key ++ after_key f))) (string f.key ++ after_key f) _ (Ok f) (magic_again fault_of magic (Magic 0) (string f.key ++ after_key f))
    (bind_again (key_at (string f.key ++ after_key f)) (f.key, after_key f) _ (Ok f) (key_again f.key (after_key f) is.is_key)
    (rest_again f (5 + list_length f.key) (record { from_one = is.from_one; session_fits = is.session_fits; counted = is.counted; seq_fits = is.seq_fits }) is.is_piece))

pub is_found : (bytes : List ℕ) (r : Result Parts FragError) → IsBytes bytes → Gives parts_at r (fragment_in bytes) → IfOk r (λ p. IsFragment (parts_at p) × (bytes ≡ spelling (parts_at p)))
is_found bytes (Ok p) fits given = fragment_takes bytes (parts_at p) fits given
is_found bytes (Err e) fits given = tt
