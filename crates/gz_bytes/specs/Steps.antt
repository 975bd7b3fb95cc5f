-- Steps that may fail, one after another.
use Rattle.std.specs.Prelude.{◌≡◌, Result, Ok, Err}

-- what follows a step, unless it fails
infixl 10 ◌>>=◌
abbrev pub ◌>>=◌ : {A B E : Type 0} → Result A E → (A → Result B E) → Result B E
(Ok x) >>= f = f x
(Err e) >>= f = Err e

-- a step whose fault is told in other words
abbrev pub told : {A E F : Type 0} → (E → F) → Result A E → Result A F
told words (Ok x) = Ok x
told words (Err e) = Err (words e)

-- what a function returned, seen by view, is what reading gives
abbrev pub Gives : {X Y E : Type 0} → (X → Y) → Result X E → Result Y E → Type 0
Gives view (Ok x) read = read ≡ Ok (view x)
Gives view (Err e) read = read ≡ Err e
