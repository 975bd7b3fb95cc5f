-- The site at a place of a list, and the others, after it is replaced.
use Rattle.std.proofs.Common.{◌≡◌, ℕ, ◌<◌, List, Option, Some, Result, inl, inr, ap, ◌∙◌, sym, subst, length, set, slice_get, arith}
use Rattle.std.proofs.lemmas.Bool.{cases_lt}
use Rattle.std.proofs.lemmas.List.{get_or-set_same, get_or-set_other, length-set}
use Rattle.std.proofs.lemmas.Option.{slice_get_read, slice_get-get_or, slice_get_past}
use Rattle.std.specs.Prelude.{option_and_then, option_map, unwrap_or}
use Rattle.gz_core.specs.Causes.{HasCountedFault}
use Rattle.gz_site.specs.Told.{Told, Tells}
use Rattle.gz_site.specs.Many.{TellsAt, CauseAt, OthersStay}

replaced_at : {S : Type 0} (sites : List S) (at : ℕ) (new : S) → at < length sites → slice_get (set sites at new) at ≡ Some new
replaced_at sites at new l = slice_get_read (set sites at new) (length sites) at new (sym (length-set sites at new)) l (sym (get_or-set_same sites at new new l))

pub others_stay : {S : Type 0} (sites : List S) (at : ℕ) (new : S) → at < length sites → OthersStay sites at (set sites at new)
others_stay sites at new l i other =
    let count = length-set sites at new in
    elim (cases_lt i (length sites)) [
      | inl m ↦
          slice_get-get_or (set sites at new) i new (subst (λ (n : ℕ). i < n) (sym count) m)
          ∙ ap Some (get_or-set_other sites at i new new other)
          ∙ sym (slice_get-get_or sites i new m)
      | inr m ↦ slice_get_past (set sites at new) i (omega (arith, m, count)) ∙ sym (slice_get_past sites i m)
    ]

pub tells_at : {S : Type 0} (told : S → Option Told) (sites : List S) (at : ℕ) (old new : S) (R : Told → Told → Type 0) → at < length sites → slice_get sites at ≡ Some old → Tells (told old) (told new) R
    → TellsAt told sites at (set sites at new) R
tells_at told sites at old new R l e h =
    subst (λ (o : Option _). Tells (option_and_then told o) (option_and_then told (slice_get (set sites at new) at)) R) (sym e)
    (subst (λ (o : Option _). Tells (told old) (option_and_then told o) R) (sym (replaced_at sites at new l)) h)

pub cause_at : {S T E : Type 0} (faults : S → ℕ) (failed : E) (sites : List S) (at : ℕ) (old new : S) (result : Result T E) → at < length sites → slice_get sites at ≡ Some old → HasCountedFault failed (faults old) (faults new) result
    → CauseAt faults failed sites at (set sites at new) result
cause_at faults failed sites at old new result l e h =
    subst (λ (o : Option _). HasCountedFault failed (unwrap_or (option_map faults o) 0) (unwrap_or (option_map faults (slice_get (set sites at new) at)) 0) result) (sym e)
    (subst (λ (o : Option _). HasCountedFault failed (faults old) (unwrap_or (option_map faults o) 0) result) (sym (replaced_at sites at new l)) h)
