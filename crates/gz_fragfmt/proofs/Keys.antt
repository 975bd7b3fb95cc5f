-- Keys: no byte is bad exactly where each may stand in a key.
use Rattle.std.proofs.Common.{◌≡◌, ℕ, ◌≤◌, Bool, true, false, cond, eqb, ltb, List, [], ◌∷◌, ◌++◌, length, get_or, Option, Some, None, Ok, refl, sym, ap, subst, arith, inl, inr}
use Rattle.std.specs.Prelude.{not}
use Rattle.std.specs.List.{All, position_or_len}
use Rattle.std.proofs.lemmas.Bool.{cases_lt, ltb-false, le-ltb, le-leb, eqb-false}
use Rattle.std.proofs.lemmas.Bool.Decides.{leb_tells}
use Rattle.std.proofs.lemmas.List.Sums.{fails_before_first, passes_at_first}
use Rattle.gz_core.specs.Keys.{IsKeyByte, IsKey}
use Rattle.gz_bytes.specs.Fields.{bytes_at, byte_at}
use Rattle.gz_bytes.proofs.Steps.{told_ok, told_again, ok_is, not_refused, not_zero}
use Rattle.gz_bytes.proofs.Bytes.{IsBytes, Takes, Takes-then, bytes_takes, bytes_again, byte_takes}
use Rattle.gz_fragfmt.specs.declared.errors.FragError.{FragError}
use Rattle.gz_fragfmt.specs.declared.errors.FragError.TheVariants.{Field}
use Rattle.gz_fragfmt.specs.Spelling.{string}
use Rattle.gz_fragfmt.specs.Reading.{fault_of, is_key_byte, bad_place, good_key, key_bytes_at, key_at}

-- ---- the bytes of a key

IsKeyByte-test : (b : ℕ) → not (is_key_byte b) ≡ false → IsKeyByte b
IsKeyByte-test b e =
    elim (leb_tells 0x21 b) [
      | inl low ↦ elim (leb_tells b 0x7e) [ inl high ↦ (low.1, high.1) | inr high ↦ let bad = rw (low.0, high.0) at e in absurd cc ]
      | inr low ↦ let bad = rw low.0 at e in absurd cc
    ]

test-IsKeyByte : (b : ℕ) → IsKeyByte b → not (is_key_byte b) ≡ false
test-IsKeyByte b h = rw (le-leb 0x21 b h.0, le-leb b 0x7e h.1) refl

nowhere : (b : Bool) (i : ℕ) → cond b (Some i) None ≡ None → b ≡ false
nowhere true i e = absurd cc
nowhere false i e = refl

none_bad : (xs : List ℕ) → bad_place xs ≡ None → All IsKeyByte xs
none_bad xs e k d lt =
    let first = position_or_len (λ b. not (is_key_byte b)) xs in
    let past : length xs ≤ first = ltb-false _ _ (nowhere (ltb first (length xs)) first e) in
    IsKeyByte-test (get_or xs k d) (fails_before_first (λ b. not (is_key_byte b)) xs k d (omega arith))

bad_none : (xs : List ℕ) → All IsKeyByte xs → bad_place xs ≡ None
bad_none xs all =
    let first = position_or_len (λ b. not (is_key_byte b)) xs in
    elim (cases_lt first (length xs)) [
      | inl lt ↦
          let is_bad = passes_at_first (λ b. not (is_key_byte b)) xs 0 lt in
          let is_good = test-IsKeyByte (get_or xs first 0) (all first 0 lt) in
          absurd cc
      | inr le ↦ rw (le-ltb first (length xs) le) refl
    ]

good_ok : (at : ℕ) (place : Option ℕ) (key x : List ℕ × List ℕ) → good_key at place key ≡ Ok x → (place ≡ None) × (key ≡ x)
good_ok at None key x e = (refl, ok_is {E = FragError} key x e)
good_ok at (Some i) key x e = absurd cc

key_bytes_takes : (n at : ℕ) (bytes : List ℕ) (x : List ℕ × List ℕ) → IsBytes bytes → key_bytes_at n at bytes ≡ Ok x → Takes bytes x.0 x.1 × (length x.0 ≡ n) × All IsKeyByte x.0
unfolding key_bytes_at
key_bytes_takes n at bytes x fits e =
    let key = told_ok fault_of (bytes_at n at bytes) _ x e in
    let took = bytes_takes n at bytes key.0 fits key.1 in
    let good = good_ok at (bad_place key.0.0) key.0 x key.2 in
    subst (λ (y : List ℕ × List ℕ). Takes bytes y.0 y.1 × (length y.0 ≡ n) × All IsKeyByte y.0) good.1 (took.0, took.1, none_bad key.0.0 good.0)

key_bytes_again : (key rest : List ℕ) (at : ℕ) → All IsKeyByte key → key_bytes_at (length key) at (key ++ rest) ≡ Ok (key, rest)
unfolding key_bytes_at
key_bytes_again key rest at all =
    told_again fault_of (bytes_at (length key) at (key ++ rest)) (key, rest) (λ x. good_key at (bad_place x.0) x) (Ok (key, rest)) (bytes_again key rest (length key) at refl)
    (ap (λ (place : Option ℕ). good_key at place (key, rest)) (bad_none key all))

-- ---- a key

pub key_takes : (bytes : List ℕ) (x : List ℕ × List ℕ) → IsBytes bytes → key_at bytes ≡ Ok x → Takes bytes (string x.0) x.1 × IsKey x.0
unfolding key_at
key_takes bytes x fits e =
    let n = told_ok fault_of (byte_at 4 bytes) _ x e in
    let count = byte_takes 4 bytes n.0 fits n.1 in
    let some = not_refused (eqb n.0.0 0) (Field 4) (key_bytes_at n.0.0 5 n.0.1) x n.2 in
    let key = key_bytes_takes n.0.0 5 n.0.1 x count.0.rest_fits some.1 in
    let nonzero : n.0.0 ≡ 0 → ⊥ = eqb-false n.0.0 0 some.0 in
    let both : Takes bytes (n.0.0 ∷ x.0) x.1 = Takes-then bytes (n.0.0 ∷ []) n.0.1 x.0 x.1 count.0 key.0 in
    (subst (λ (len : ℕ). Takes bytes (len ∷ x.0) x.1) (sym key.1) both, record { some = omega (arith, key.1); bounded = omega (arith, key.1, count.1); printable = key.2 })

pub key_again : (key rest : List ℕ) → IsKey key → key_at (string key ++ rest) ≡ Ok (key, rest)
unfolding key_at
key_again key rest is_key = rw (not_zero (length key) is_key.some) (key_bytes_again key rest 5 is_key.printable)
