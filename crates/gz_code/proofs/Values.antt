-- The value of a polynomial is additive and homogeneous in its coefficients.
use Rattle.std.proofs.Common.{◌≡◌, ℕ, zero, suc, ◌<◌, List, [], ◌∷◌, length, slice_index, bit_xor, refl, sym, ◌∙◌, ap, arith}
use Rattle.std.specs.Int.Bits.{xor_zero_l, xor_zero_r}
use Rattle.std.proofs.lemmas.Nat.{xor_lt}
use Rattle.gz_field.specs.Field.{product}
use Rattle.gz_field.proofs.Additive.{xor_swap}
use Rattle.gz_field.proofs.Algebra.{product-sum, product-zero, product-lt, product-comm, product-assoc}
use Rattle.gz_code.specs.Polynomial.{value}

abbrev pub AreElements : List ℕ → Type 0
AreElements cs = (i : ℕ) → slice_index cs i < 256

pub rest_are_elements : (c : ℕ) (cs : List ℕ) → AreElements (c ∷ cs) → AreElements cs
rest_are_elements c cs all i = all (suc i)

pub value-lt : (cs : List ℕ) (x : ℕ) → AreElements cs → value cs x < 256
unfolding value
value-lt [] x all = omega arith
value-lt (c ∷ cs) x all = xor_lt 8 c (product x (value cs x)) (all 0) (product-lt x (value cs x) (value-lt cs x (λ i. all (suc i))))

-- the sum of two polynomials
pub plus : List ℕ → List ℕ → List ℕ
plus [] ds = ds
plus (c ∷ cs) [] = c ∷ cs
plus (c ∷ cs) (d ∷ ds) = bit_xor c d ∷ plus cs ds

pub value-plus : (cs ds : List ℕ) (x : ℕ) → value (plus cs ds) x ≡ bit_xor (value cs x) (value ds x)
unfolding value plus
value-plus [] ds x = sym (xor_zero_l (value ds x))
value-plus (c ∷ cs) [] x = sym (xor_zero_r _)
value-plus (c ∷ cs) (d ∷ ds) x =
    ap (λ v. bit_xor (bit_xor c d) (product x v)) (value-plus cs ds x)
    ∙ ap (bit_xor (bit_xor c d)) (product-sum x (value cs x) (value ds x))
    ∙ xor_swap c d (product x (value cs x)) (product x (value ds x))

pub slice_index-plus : (cs ds : List ℕ) (i : ℕ) → slice_index (plus cs ds) i ≡ bit_xor (slice_index cs i) (slice_index ds i)
unfolding plus
slice_index-plus [] ds i = sym (xor_zero_l _)
slice_index-plus (c ∷ cs) [] i = sym (xor_zero_r _)
slice_index-plus (c ∷ cs) (d ∷ ds) zero = refl
slice_index-plus (c ∷ cs) (d ∷ ds) (suc i) = slice_index-plus cs ds i

pub length-plus : (cs ds : List ℕ) → length cs ≡ length ds → length (plus cs ds) ≡ length cs
unfolding plus
length-plus [] ds e = sym e
length-plus (c ∷ cs) [] e = refl
length-plus (c ∷ cs) (d ∷ ds) e = ap suc (length-plus cs ds (omega arith))

pub plus_elements : (cs ds : List ℕ) → AreElements cs → AreElements ds → AreElements (plus cs ds)
plus_elements cs ds C D i = rw slice_index-plus (xor_lt 8 (slice_index cs i) (slice_index ds i) (C i) (D i))

-- a polynomial times an element
pub scale : ℕ → List ℕ → List ℕ
scale a [] = []
scale a (c ∷ cs) = product a c ∷ scale a cs

pub length-scale : (a : ℕ) (cs : List ℕ) → length (scale a cs) ≡ length cs
unfolding scale
length-scale a [] = refl
length-scale a (c ∷ cs) = ap suc (length-scale a cs)

pub slice_index-scale : (a : ℕ) (cs : List ℕ) (i : ℕ) → slice_index (scale a cs) i ≡ product a (slice_index cs i)
unfolding scale
slice_index-scale a [] i = sym (product-zero a)
slice_index-scale a (c ∷ cs) zero = refl
slice_index-scale a (c ∷ cs) (suc i) = slice_index-scale a cs i

pub scale_elements : (a : ℕ) (cs : List ℕ) → AreElements cs → AreElements (scale a cs)
scale_elements a cs C i = rw slice_index-scale (product-lt a (slice_index cs i) (C i))

-- factors of a product of three, the first two exchanged
pub product_swap : (a b c : ℕ) → a < 256 → b < 256 → c < 256 → product a (product b c) ≡ product b (product a c)
product_swap a b c A B C = sym (product-assoc a b c A B C) ∙ ap (λ x. product x c) (product-comm a b A B) ∙ product-assoc b a c B A C

pub value-scale : (a : ℕ) (cs : List ℕ) (x : ℕ) → a < 256 → x < 256 → AreElements cs → value (scale a cs) x ≡ product a (value cs x)
unfolding value scale
value-scale a [] x A X C = sym (product-zero a)
value-scale a (c ∷ cs) x A X C =
    ap (λ v. bit_xor (product a c) (product x v)) (value-scale a cs x A X (λ i. C (suc i)))
    ∙ ap (bit_xor (product a c)) (product_swap x a (value cs x) X A (value-lt cs x (λ i. C (suc i))))
    ∙ sym (product-sum a c (product x (value cs x)))
