-- A number of four or eight bytes that is read is the one that was written, and what was written is read again.
use Rattle.std.proofs.Common.{◌≡◌, ℕ, ◌^◌, ◌<◌, ◌≤◌, ltb, List, ◌++◌, length, take, drop, Ok, refl, sym, ap, subst, ◌∙◌, arith, false}
use Rattle.std.specs.Int.{Width, w32, w64, byte_len, from_be_bytes, to_be_bytes}
use Rattle.std.proofs.lemmas.Bool.{ltb-false, le-ltb}
use Rattle.std.proofs.lemmas.List.{take_at, drop_at, take-append-drop, length-append, length-take}
use Rattle.std.proofs.lemmas.Nat.{be_bytes_4, be_bytes_8, from_be_bytes-to_be_bytes_4, from_be_bytes-to_be_bytes_8}
use Rattle.gz_bytes.specs.declared.faults.Fault.{Fault}
use Rattle.gz_bytes.specs.declared.faults.Fault.TheVariants.{Short}
use Rattle.gz_bytes.specs.Fields.{number_at}
use Rattle.gz_bytes.proofs.Steps.{not_refused, ok_is}
use Rattle.gz_bytes.proofs.Bytes.{IsBytes, IsBytes-drop, IsBytes-take, Takes}

-- a width of numbers below a limit
pub record IsWide (w : Width) (limit : ℕ) : Type 0 where
  pub len : (n : ℕ) → length (to_be_bytes w n) ≡ byte_len w
  pub back : (bytes : List ℕ) → length bytes ≡ byte_len w → IsBytes bytes → to_be_bytes w (from_be_bytes w bytes) ≡ bytes
  pub again : (n : ℕ) → n < limit → from_be_bytes w (to_be_bytes w n) ≡ n
  pub below : (bytes : List ℕ) → IsBytes bytes → from_be_bytes w bytes < limit

pub wide32 : IsWide w32 (2 ^ 32)
wide32 = record {
  len = λ n. refl;
  back = λ bytes len fits. be_bytes_4 bytes _ len fits refl;
  again = λ n lt. from_be_bytes-to_be_bytes_4 n lt;
  below = λ bytes fits. omega (arith, fits 0, fits 1, fits 2, fits 3);
}

pub wide64 : IsWide w64 (2 ^ 64)
wide64 = record {
  len = λ n. refl;
  back = λ bytes len fits. be_bytes_8 bytes _ len fits refl;
  again = λ n lt. from_be_bytes-to_be_bytes_8 n lt;
  below = λ bytes fits. omega (arith, fits 0, fits 1, fits 2, fits 3, fits 4, fits 5, fits 6, fits 7);
}

pub number_takes : (w : Width) (limit : ℕ) → IsWide w limit → (at : ℕ) (bytes : List ℕ) (x : ℕ × List ℕ) → IsBytes bytes → number_at w at bytes ≡ Ok x → Takes bytes (to_be_bytes w x.0) x.1 × (x.0 < limit)
number_takes w limit wide at bytes x fits e =
    let n = byte_len w in
    let g = not_refused (ltb (length bytes) n) (Short at) (Ok (from_be_bytes w (take n bytes), drop n bytes)) x e in
    let long : n ≤ length bytes = ltb-false _ _ g.0 in
    let front_fits = IsBytes-take n bytes fits in
    let front : to_be_bytes w (from_be_bytes w (take n bytes)) ≡ take n bytes = wide.back (take n bytes) (omega (arith, length-take n bytes)) front_fits in
    subst (λ (y : ℕ × List ℕ). Takes bytes (to_be_bytes w y.0) y.1 × (y.0 < limit)) (ok_is {E = Fault} (from_be_bytes w (take n bytes), drop n bytes) x g.1) (
      record { parts = sym (take-append-drop n bytes) ∙ ap (λ (t : List ℕ). t ++ drop n bytes) (sym front); rest_fits = IsBytes-drop n bytes fits },
      wide.below (take n bytes) front_fits,
    )

pub number_again : (w : Width) (limit : ℕ) → IsWide w limit → (at n : ℕ) (rest : List ℕ) → n < limit → number_at w at (to_be_bytes w n ++ rest) ≡ Ok (n, rest)
number_again w limit wide at n rest lt =
    let len = wide.len n in
    let long : ltb (length (to_be_bytes w n ++ rest)) (byte_len w) ≡ false = le-ltb _ _ (omega (arith, length-append (to_be_bytes w n) rest)) in
    rw (long, take_at (to_be_bytes w n) rest (byte_len w) len, drop_at (to_be_bytes w n) rest (byte_len w) len, wide.again n lt) refl
