-- One more name.
use Rattle.std.proofs.Common.{◌≡◌, List, [], ◌∷◌, ◌++◌, Bool, true, false, cond, refl, ◌∙◌}
use Rattle.std.specs.Prelude.{◌||◌}
use Rattle.std.proofs.lemmas.List.Folds.{list_any-append}
use Rattle.gz_core.specs.Names.{Name}
use Rattle.gz_history.specs.declared.record.CallRec.{CallRec}
use Rattle.gz_logs.specs.Named.{same_name, is_named}

one-or : (a b : Bool) → (a || (b || false)) ≡ cond b true a
one-or true true = refl
one-or true false = refl
one-or false true = refl
one-or false false = refl

-- with one more call there is its name, and those that were there
pub named_more : (calls : List CallRec) (call : CallRec) (n : Name) → is_named n (calls ++ call ∷ []) ≡ cond (same_name call.name n) true (is_named n calls)
named_more calls call n = list_any-append (λ c. same_name c.name n) calls (call ∷ []) ∙ one-or (is_named n calls) (same_name call.name n)
