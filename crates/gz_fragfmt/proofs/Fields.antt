-- The number of parity pieces, and the piece: what is read is what was written, and what was written is read again.
use Rattle.std.proofs.Common.{◌≡◌, ℕ, ◌+◌, ◌<◌, ◌≤◌, cond, eqb, leb, List, [], ◌∷◌, ◌++◌, length, Ok, Err, refl, sym, ap, subst, ◌∙◌}
use Rattle.std.proofs.lemmas.Bool.{leb-false, lt-leb, eqb-true}
use Rattle.std.proofs.lemmas.List.{append-nil, nil_from_length}
use Rattle.gz_bytes.specs.Fields.{bytes_at, parity_at}
use Rattle.gz_bytes.proofs.Steps.{told_ok, told_again, ok_is, not_refused, admitted}
use Rattle.gz_bytes.proofs.Bytes.{IsBytes, Takes, bytes_takes, bytes_again}
use Rattle.gz_bytes.proofs.PutFields.{parity_takes, parity_again}
use Rattle.gz_fragfmt.specs.declared.errors.FragError.{FragError}
use Rattle.gz_fragfmt.specs.declared.errors.FragError.TheVariants.{Field, Trailing}
use Rattle.gz_fragfmt.specs.Reading.{fault_of, m_at, piece_at}

-- the rules on m
abbrev pub FitsPieces : ℕ → ℕ → ℕ → Type 0
FitsPieces index k m = (k + m ≤ 16) × (index < k + m)

pub m_takes : (at index k : ℕ) (bytes : List ℕ) (x : ℕ × List ℕ) → IsBytes bytes → m_at at index k bytes ≡ Ok x → Takes bytes (x.0 ∷ []) x.1 × FitsPieces index k x.0
unfolding m_at
m_takes at index k bytes x fits e =
    let m = told_ok fault_of (parity_at at k bytes) _ x e in
    let took = parity_takes at k bytes m.0 fits m.1 in
    let good = not_refused (leb (k + m.0.0) index) (Field at) (Ok m.0) x m.2 in
    subst (λ (y : ℕ × List ℕ). Takes bytes (y.0 ∷ []) y.1 × FitsPieces index k y.0) (ok_is {E = FragError} m.0 x good.1) (took.0, (took.1, leb-false _ _ good.0))

pub m_again : (at index k m : ℕ) (rest : List ℕ) → FitsPieces index k m → m_at at index k (m ∷ rest) ≡ Ok (m, rest)
unfolding m_at
m_again at index k m rest h =
    told_again fault_of (parity_at at k (m ∷ rest)) (m, rest) (λ m. cond (leb (k + m.0) index) (Err (Field at)) (Ok m)) (Ok (m, rest)) (parity_again at k m rest h.0)
    (rw (lt-leb (k + m) index h.1) refl)

pub piece_takes : (at width : ℕ) (bytes piece : List ℕ) → IsBytes bytes → piece_at at width bytes ≡ Ok piece → (bytes ≡ piece) × (length piece ≡ width)
unfolding piece_at
piece_takes at width bytes piece fits e =
    let x = told_ok fault_of (bytes_at width at bytes) _ piece e in
    let took = bytes_takes width at bytes x.0 fits x.1 in
    let ends = admitted (eqb (length x.0.1) 0) (Trailing (at + width)) x.0.0 piece x.2 in
    let nothing : x.0.1 ≡ [] = nil_from_length x.0.1 (eqb-true _ _ ends.0) in
    let whole : bytes ≡ x.0.0 = took.0.parts ∙ ap (λ (t : List ℕ). x.0.0 ++ t) nothing ∙ append-nil x.0.0 in
    subst (λ (y : List ℕ). (bytes ≡ y) × (length y ≡ width)) ends.1 (whole, took.1)

pub piece_again : (at width : ℕ) (piece : List ℕ) → length piece ≡ width → piece_at at width piece ≡ Ok piece
unfolding piece_at
piece_again at width piece long =
    told_again fault_of (bytes_at width at piece) (piece, []) (λ x. cond (eqb (length x.1) 0) (Ok x.0) (Err (Trailing (at + width)))) (Ok piece)
    (ap (bytes_at width at) (sym (append-nil piece)) ∙ bytes_again piece [] width at long) refl
