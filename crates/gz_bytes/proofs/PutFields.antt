-- The fields that records share: what is read is what was written, and what was written is read again.
use Rattle.std.proofs.Common.{◌≡◌, ℕ, ◌+◌, ◌^◌, ◌≤◌, cond, eqb, ltb, List, [], ◌∷◌, ◌++◌, Ok, Err, refl, subst, arith}
use Rattle.std.specs.Prelude.{◌||◌}
use Rattle.std.specs.Int.{w32, to_be_bytes}
use Rattle.std.proofs.lemmas.Bool.{ltb-false, le-ltb, eqb-false}
use Rattle.gz_core.specs.Names.{Name}
use Rattle.gz_bytes.specs.declared.faults.Fault.{Fault}
use Rattle.gz_bytes.specs.declared.faults.Fault.TheVariants.{Wrong}
use Rattle.gz_bytes.specs.Steps.{◌>>=◌}
use Rattle.gz_bytes.specs.Fields.{byte_at, number_at, name_at, length_at, data_at, parity_at}
use Rattle.gz_bytes.specs.Spelling.{name_bytes, IsName}
use Rattle.gz_bytes.proofs.Steps.{ok_is, bind_ok, bind_again, not_refused, neither, not_zero}
use Rattle.gz_bytes.proofs.Bytes.{IsBytes, Takes, Takes-then, byte_takes}
use Rattle.gz_bytes.proofs.Widths.{wide32, number_takes, number_again}

pub name_takes : (at : ℕ) (bytes : List ℕ) (x : Name × List ℕ) → IsBytes bytes → name_at at bytes ≡ Ok x → Takes bytes (name_bytes x.0) x.1 × IsName x.0
unfolding name_at
name_takes at bytes x fits e =
    let session = bind_ok (number_at w32 at bytes) _ x e in
    let seq = bind_ok (number_at w32 at session.0.1) _ x session.2 in
    let made : Name = record { session = session.0.0; seq = seq.0.0 } in
    let good = not_refused ((eqb session.0.0 0) || (eqb seq.0.0 0)) (Wrong at) (Ok (made, seq.0.1)) x seq.2 in
    let first = number_takes w32 (2 ^ 32) wide32 at bytes session.0 fits session.1 in
    let second = number_takes w32 (2 ^ 32) wide32 at session.0.1 seq.0 first.0.rest_fits seq.1 in
    let tests = neither (eqb session.0.0 0) (eqb seq.0.0 0) good.0 in
    let nonzero : session.0.0 ≡ 0 → ⊥ = eqb-false session.0.0 0 tests.0 in
    let nonzero_seq : seq.0.0 ≡ 0 → ⊥ = eqb-false seq.0.0 0 tests.1 in
    subst (λ (y : Name × List ℕ). Takes bytes (name_bytes y.0) y.1 × IsName y.0) (ok_is {E = Fault} (made, seq.0.1) x good.1) (
      Takes-then bytes (to_be_bytes w32 session.0.0) session.0.1 (to_be_bytes w32 seq.0.0) seq.0.1 first.0 second.0,
      record { from_one = omega arith; session_fits = first.1; counted = omega arith; seq_fits = second.1 },
    )

pub name_again : (at : ℕ) (name : Name) (rest : List ℕ) → IsName name → name_at at (name_bytes name ++ rest) ≡ Ok (name, rest)
unfolding name_at
name_again at name rest h =
    bind_again (number_at w32 at (name_bytes name ++ rest)) (name.session, to_be_bytes w32 name.seq ++ rest)
    (λ session. number_at w32 at session.1 >>= λ seq. cond ((eqb session.0 0) || (eqb seq.0 0)) (Err (Wrong at)) (Ok (record { session = session.0; seq = seq.0 }, seq.1))) (Ok (name, rest))
    (number_again w32 (2 ^ 32) wide32 at name.session (to_be_bytes w32 name.seq ++ rest) h.session_fits)
    (bind_again (number_at w32 at (to_be_bytes w32 name.seq ++ rest)) (name.seq, rest)
    (λ seq. cond ((eqb name.session 0) || (eqb seq.0 0)) (Err (Wrong at)) (Ok (record { session = name.session; seq = seq.0 }, seq.1))) (Ok (name, rest))
    (number_again w32 (2 ^ 32) wide32 at name.seq rest h.seq_fits) (rw (not_zero name.session h.from_one, not_zero name.seq h.counted) refl))

pub length_takes : (at : ℕ) (bytes : List ℕ) (x : ℕ × List ℕ) → IsBytes bytes → length_at at bytes ≡ Ok x → Takes bytes (to_be_bytes w32 x.0) x.1 × (x.0 ≤ 1048576)
unfolding length_at
length_takes at bytes x fits e =
    let len = bind_ok (number_at w32 at bytes) _ x e in
    let took = number_takes w32 (2 ^ 32) wide32 at bytes len.0 fits len.1 in
    let good = not_refused (ltb 1048576 len.0.0) (Wrong at) (Ok len.0) x len.2 in
    subst (λ (y : ℕ × List ℕ). Takes bytes (to_be_bytes w32 y.0) y.1 × (y.0 ≤ 1048576)) (ok_is {E = Fault} len.0 x good.1) (took.0, ltb-false _ _ good.0)

pub length_again : (at n : ℕ) (rest : List ℕ) → n ≤ 1048576 → length_at at (to_be_bytes w32 n ++ rest) ≡ Ok (n, rest)
unfolding length_at
length_again at n rest h =
    bind_again (number_at w32 at (to_be_bytes w32 n ++ rest)) (n, rest) (λ len. cond (ltb 1048576 len.0) (Err (Wrong at)) (Ok len)) (Ok (n, rest))
    (number_again w32 (2 ^ 32) wide32 at n rest (omega (arith, h))) (rw (le-ltb 1048576 n h) refl)

pub data_takes : (at : ℕ) (bytes : List ℕ) (x : ℕ × List ℕ) → IsBytes bytes → data_at at bytes ≡ Ok x → Takes bytes (x.0 ∷ []) x.1 × (1 ≤ x.0)
unfolding data_at
data_takes at bytes x fits e =
    let k = bind_ok (byte_at at bytes) _ x e in
    let took = byte_takes at bytes k.0 fits k.1 in
    let good = not_refused (eqb k.0.0 0) (Wrong at) (Ok k.0) x k.2 in
    let nonzero : k.0.0 ≡ 0 → ⊥ = eqb-false k.0.0 0 good.0 in
    subst (λ (y : ℕ × List ℕ). Takes bytes (y.0 ∷ []) y.1 × (1 ≤ y.0)) (ok_is {E = Fault} k.0 x good.1) (took.0, omega arith)

pub data_again : (at k : ℕ) (rest : List ℕ) → 1 ≤ k → data_at at (k ∷ rest) ≡ Ok (k, rest)
unfolding data_at
data_again at k rest h = rw (not_zero k h) refl

pub parity_takes : (at k : ℕ) (bytes : List ℕ) (x : ℕ × List ℕ) → IsBytes bytes → parity_at at k bytes ≡ Ok x → Takes bytes (x.0 ∷ []) x.1 × (k + x.0 ≤ 16)
unfolding parity_at
parity_takes at k bytes x fits e =
    let m = bind_ok (byte_at at bytes) _ x e in
    let took = byte_takes at bytes m.0 fits m.1 in
    let good = not_refused (ltb 16 (k + m.0.0)) (Wrong at) (Ok m.0) x m.2 in
    subst (λ (y : ℕ × List ℕ). Takes bytes (y.0 ∷ []) y.1 × (k + y.0 ≤ 16)) (ok_is {E = Fault} m.0 x good.1) (took.0, ltb-false _ _ good.0)

pub parity_again : (at k m : ℕ) (rest : List ℕ) → k + m ≤ 16 → parity_at at k (m ∷ rest) ≡ Ok (m, rest)
unfolding parity_at
parity_again at k m rest h = rw (le-ltb 16 (k + m) h) refl
