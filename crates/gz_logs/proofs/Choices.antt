-- What was chosen, where something was read.
use Rattle.std.proofs.Common.{ℕ, ◌≡◌, List, Bool, true, false, ◌⊎◌, inl, inr, refl, ap, ◌∙◌}
use Rattle.std.specs.Prelude.{Option, Some, None, Result, Ok, Err, if◌then◌else◌, option_map, option_and_then}
use Rattle.std.proofs.lemmas.Option.{same_Some}
use Rattle.std.proofs.lemmas.Slice.Eq.{bytes_eq-Decides}
use Rattle.gz_core.specs.declared.texts.Why.{Why}
use Rattle.gz_text.specs.declared.faults.Fault.{Fault}
use Rattle.gz_text.specs.Faults.{with, or_bad}
use Rattle.gz_text.specs.Fields.{is_word}

-- what was read where what follows from it was
pub with_ok : {A B : Type 0} (r : Result A Fault) (next : A → Result B Fault) (y : B) → with r next ≡ Ok y → (x : A) × ((r ≡ Ok x) × (next x ≡ Ok y))
with_ok (Ok x) next y h = (x, (refl, h))
with_ok (Err fault) next y h = absurd (cc)

-- what was read is one
pub same_ok : {A : Type 0} (x y : A) → ◌≡◌ {A = Result A Fault} (Ok x) (Ok y) → x ≡ y
same_ok x y h = cc

-- a field that is a word
pub word_read : (word field : List ℕ) → is_word word field ≡ true → field ≡ word
word_read word field h = (bytes_eq-Decides field word).0 h

-- what was read or else has a fault
pub some_ok : {A : Type 0} (why : Why) (o : Option A) (x : A) → or_bad why o ≡ Ok x → o ≡ Some x
some_ok why None x h = absurd (cc)
some_ok why (Some y) x h = ap Some (same_ok y x h)

pub then_ok : {A : Type 0} (b : Bool) (r : Result A Fault) (fault : Fault) (x : A) → (if b then r else Err fault) ≡ Ok x → (b ≡ true) × (r ≡ Ok x)
then_ok true r fault x h = (refl, h)
then_ok false r fault x h = absurd (cc)

pub else_ok : {A : Type 0} (b : Bool) (r : Result A Fault) (fault : Fault) (x : A) → (if b then Err fault else r) ≡ Ok x → (b ≡ false) × (r ≡ Ok x)
else_ok true r fault x h = absurd (cc)
else_ok false r fault x h = (refl, h)

pub no_some : {A : Type 0} (P : Type 0) (x : A) → ◌≡◌ {A = Option A} None (Some x) → P
no_some P x h = absurd (cc)

pub then_some : {A : Type 0} (b : Bool) (o : Option A) (x : A) → (if b then o else None) ≡ Some x → (b ≡ true) × (o ≡ Some x)
then_some true o x h = (refl, h)
then_some false o x h = absurd (cc)

pub else_some : {A : Type 0} (b : Bool) (y : A) (o : Option A) (x : A) → (if b then Some y else o) ≡ Some x → ((b ≡ true) × (y ≡ x)) ⊎ (o ≡ Some x)
else_some true y o x h = inl (refl, same_Some y x h)
else_some false y o x h = inr h

-- what was made of what was read
pub mapped : {A B : Type 0} (f : A → B) (o : Option A) (y : B) → option_map f o ≡ Some y → (x : A) × ((o ≡ Some x) × (f x ≡ y))
mapped f None y h = absurd (cc)
mapped f (Some x) y h = (x, (refl, same_Some (f x) y h))

pub followed : {A B : Type 0} (f : A → Option B) (o : Option A) (y : B) → option_and_then f o ≡ Some y → (x : A) × ((o ≡ Some x) × (f x ≡ Some y))
followed f None y h = absurd (cc)
followed f (Some x) y h = (x, (refl, h))

-- one word more of those that stand for something
pub one_word : {K : Type 0} (text : K → List ℕ) (word : List ℕ) (k : K) (o : Option K) (kind : K)
    → ((o ≡ Some kind) → word ≡ text kind) → (if is_word (text k) word then Some k else o) ≡ Some kind → word ≡ text kind
one_word text word k o kind more h =
    elim (else_some (is_word (text k) word) k o kind h) [
      | inl this ↦ word_read (text k) word this.0 ∙ ap text this.1
      | inr other ↦ more other
    ]

pub either_some : {A : Type 0} (b : Bool) (o p : Option A) (x : A) → (if b then o else p) ≡ Some x → ((b ≡ true) × (o ≡ Some x)) ⊎ (p ≡ Some x)
either_some true o p x h = inl (refl, h)
either_some false o p x h = inr h

pub either_ok : {A : Type 0} (b : Bool) (y : A) (r : Result A Fault) (x : A) → (if b then Ok y else r) ≡ Ok x → ((b ≡ true) × (y ≡ x)) ⊎ (r ≡ Ok x)
either_ok true y r x h = inl (refl, same_ok y x h)
either_ok false y r x h = inr h
