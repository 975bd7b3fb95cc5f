-- The names that answers give to the versions of an object.
use Rattle.std.specs.Prelude.{ℕ, ◌≡◌, ◌==◌, nat_eq, Bool, if◌then◌else◌, List, [], ◌∷◌, Option, Some, None, option_and_then, option_map}
use Rattle.std.specs.Cmp.Lexicographic.{pointwise}
use Rattle.std.specs.BTreeMap.{is_at}
use Rattle.std.specs.List.Sorted.{IsStrictlySortedBy}
use Rattle.std.specs.Map.{lookup, keys_of, values_of}
use Rattle.std.specs.Ordering.{nat_cmp}
use Rattle.gz_core.specs.Names.{Name}
use Rattle.gz_core.specs.Calls.{key_of}
use Rattle.gz_history.specs.Answers.{shows, names}
use Rattle.gz_history.specs.declared.record.CallRec.{CallRec}

-- the call is about the object
abbrev pub is_about : List ℕ → CallRec → Bool
is_about key a = pointwise nat_eq (key_of a.call) key

-- the version that an answer shows, with the name that it gives to it
abbrev pub naming : CallRec → Option (ℕ × Name)
naming a = option_and_then (λ version. option_map (λ name. (version, name)) (names a.name a.answer)) (shows a.answer)

-- the same, where the call is about the object
abbrev pub naming_of : List ℕ → CallRec → Option (ℕ × Name)
naming_of key a = if is_about key a then naming a else None

-- the name of this version
abbrev pub name_at : ℕ → ℕ × Name → Option Name
name_at version given = if given.0 == version then Some given.1 else None

-- the first name, or else the second
abbrev pub or_else : Option Name → Option Name → Option Name
or_else (Some name) other = Some name
or_else None other = other

-- the name that the first of the answers gives to a version of the object
abbrev pub first_name : List ℕ → List CallRec → ℕ → Option Name
first_name key [] version = None
first_name key (a ∷ more) version = or_else (option_and_then (name_at version) (naming_of key a)) (first_name key more version)

-- the names that answers give to the versions of the object, in the order of the versions
pub record IsSerial (key : List ℕ) (calls : List CallRec) (all : List Name) : Type 0 where
  pub named : List (ℕ × Name)
  pub rises : IsStrictlySortedBy nat_cmp (keys_of named)
  pub first : (version : ℕ) → lookup (is_at (nat_cmp version)) named ≡ first_name key calls version
  pub all_are : all ≡ values_of named
