-- One more call that repeats an earlier one, or doesn't.
use Rattle.std.proofs.Common.{ℕ, ◌≡◌, ◌<◌, List, [], ◌∷◌, ◌++◌, length, length-append, inl, inr, sym, ap, subst, ◌∙◌, slice_get, arith}
use Rattle.std.specs.Prelude.{Bool, true, Some}
use Rattle.std.proofs.lemmas.Bool.{cases_lt}
use Rattle.std.proofs.lemmas.Option.{same_Some, slice_get_within}
use Rattle.gz_history.specs.Index.{IsRepeat, AreRepeats}
use Rattle.gz_history.specs.declared.record.CallRec.{CallRec}
use Rattle.gz_history.proofs.Grouping.{get_front, get_next}

pub repeats_more : (calls : List CallRec) (groups : List ℕ) (repeats : List Bool) (is_repeat : Bool) → (is_repeat ≡ true → IsRepeat calls groups (length repeats))
    → AreRepeats calls groups repeats → AreRepeats calls groups (repeats ++ is_repeat ∷ [])
repeats_more calls groups repeats is_repeat here h place p =
    let within = slice_get_within (repeats ++ is_repeat ∷ []) place true p in
    let len = length-append repeats (is_repeat ∷ []) in
    elim (cases_lt place (length repeats)) [
      | inl s ↦ h place (sym (get_front repeats (is_repeat ∷ []) place s) ∙ p)
      | inr e ↦ (let top : place ≡ length repeats = omega arith in
          let is : is_repeat ≡ true = same_Some is_repeat true (sym (get_next repeats [] is_repeat) ∙ ap (slice_get (repeats ++ is_repeat ∷ [])) (sym top) ∙ p) in
          subst (IsRepeat calls groups) (sym top) (here is))
    ]
