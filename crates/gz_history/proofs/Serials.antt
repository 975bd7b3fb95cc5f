-- The first name of a version, with one more call.
use Rattle.std.proofs.Common.{ℕ, ◌≡◌, ◌+◌, ◌<◌, List, [], ◌∷◌, ◌++◌, length, take, get_or, Option, Some, None, refl, ap, sym, ◌∙◌}
use Rattle.std.specs.Prelude.{option_and_then}
use Rattle.std.proofs.lemmas.List.{take_more}
use Rattle.gz_core.specs.Names.{Name}
use Rattle.gz_history.specs.Serial.{naming_of, name_at, or_else, first_name}
use Rattle.gz_history.specs.declared.record.CallRec.{CallRec}

or_none : (o : Option Name) → or_else o None ≡ o
or_none None = refl
or_none (Some name) = refl

or_or : (a b c : Option Name) → or_else a (or_else b c) ≡ or_else (or_else a b) c
or_or None b c = refl
or_or (Some name) b c = refl

-- the name that a call's answer gives to a version of the object
abbrev given : List ℕ → CallRec → ℕ → Option Name
given key a version = option_and_then (name_at version) (naming_of key a)

first_snoc : (key : List ℕ) (calls : List CallRec) (a : CallRec) (version : ℕ) → first_name key (calls ++ a ∷ []) version ≡ or_else (first_name key calls version) (given key a version)
first_snoc key [] a version = or_none (given key a version)
first_snoc key (c ∷ cs) a version =
    ap (λ (o : Option Name). or_else (given key c version) o) (first_snoc key cs a version)
    ∙ or_or (given key c version) (first_name key cs version) (given key a version)

pub first_more : (key : List ℕ) (calls : List CallRec) (i : ℕ) (a : CallRec) (version : ℕ) → i < length calls → a ≡ get_or calls i a
    → or_else (first_name key (take i calls) version) (option_and_then (name_at version) (naming_of key a)) ≡ first_name key (take (i + 1) calls) version
first_more key calls i a version within is =
    sym (first_snoc key (take i calls) a version)
    ∙ ap (λ (x : CallRec). first_name key (take i calls ++ x ∷ []) version) is
    ∙ ap (λ (xs : List CallRec). first_name key xs version) (sym (take_more calls i a within))
