-- Steps that did not fail.
use Rattle.std.proofs.Common.{◌≡◌, ℕ, zero, suc, ◌≤◌, Bool, true, false, cond, eqb, Result, Ok, Err, refl, ap, ◌∙◌, arith, ◌⊎◌, inl, inr}
use Rattle.std.specs.Prelude.{◌||◌}
use Rattle.std.proofs.Math.Dec.{eqb-suc-zero}
use Rattle.gz_bytes.specs.Steps.{◌>>=◌, told}

abbrev pub done : {A E : Type 0} → A → Result A E
done x = Ok x

pub ok_is : {A E : Type 0} (x y : A) → done {E = E} x ≡ done y → x ≡ y
ok_is x y e = cc

-- the value of a step that did not fail
pub bind_ok : {A B E : Type 0} (r : Result A E) (f : A → Result B E) (y : B) → (r >>= f) ≡ Ok y → (x : A) × (r ≡ Ok x) × (f x ≡ Ok y)
bind_ok (Ok x) f y e = (x, refl, e)
bind_ok (Err d) f y e = absurd cc

-- what follows a step that did not fail
pub bind_again : {A B E : Type 0} (r : Result A E) (x : A) (f : A → Result B E) (y : Result B E) → r ≡ Ok x → f x ≡ y → (r >>= f) ≡ y
bind_again {A} {B} {E} r x f y e h = ap (λ (s : Result A E). s >>= f) e ∙ h

-- the same where the step's fault is told in other words
pub told_ok : {A B E F : Type 0} (words : E → F) (r : Result A E) (f : A → Result B F) (y : B) → (told words r >>= f) ≡ Ok y → (x : A) × (r ≡ Ok x) × (f x ≡ Ok y)
told_ok words (Ok x) f y e = (x, refl, e)
told_ok words (Err d) f y e = absurd cc

pub told_again : {A B E F : Type 0} (words : E → F) (r : Result A E) (x : A) (f : A → Result B F) (y : Result B F) → r ≡ Ok x → f x ≡ y → (told words r >>= f) ≡ y
told_again {A} {B} {E} {F} words r x f y e h = ap (λ (s : Result A E). told words s >>= f) e ∙ h

-- a test that refuses, and did not
pub not_refused : {A E : Type 0} (b : Bool) (d : E) (r : Result A E) (y : A) → cond b (Err d) r ≡ Ok y → (b ≡ false) × (r ≡ Ok y)
not_refused true d r y e = absurd cc
not_refused false d r y e = (refl, e)

-- a test that admits, and did
pub admitted : {A E : Type 0} (b : Bool) (d : E) (x y : A) → cond b (done {E = E} x) (Err d) ≡ Ok y → (b ≡ true) × (x ≡ y)
admitted {A} {E} true d x y e = (refl, ok_is {E = E} x y e)
admitted false d x y e = absurd cc

-- a step that a test chose
pub tested : {A E : Type 0} (b : Bool) (r s : Result A E) (y : A) → cond b r s ≡ Ok y → ((b ≡ true) × (r ≡ Ok y)) ⊎ ((b ≡ false) × (s ≡ Ok y))
tested true r s y e = inl (refl, e)
tested false r s y e = inr (refl, e)

-- neither of two tests passed
pub neither : (p q : Bool) → p || q ≡ false → (p ≡ false) × (q ≡ false)
neither true q e = absurd cc
neither false q e = (refl, e)

pub not_zero : (n : ℕ) → 1 ≤ n → eqb n 0 ≡ false
not_zero zero h = absurd (omega arith)
not_zero (suc n) h = eqb-suc-zero n
