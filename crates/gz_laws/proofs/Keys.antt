-- Two keys, or two names, are the same one exactly where the comparison says so.
use Rattle.std.proofs.Common.{◌≡◌, ◌≢◌, ℕ, List, true, false, ◌⊎◌, inl, inr, refl, sym, ap, ◌∙◌}
use Rattle.std.proofs.lemmas.Bool.{cases_Bool}
use Rattle.std.proofs.lemmas.Map.Text.{is_eq-slice_cmp}
use Rattle.std.proofs.lemmas.Slice.Eq.{bytes_eq-Decides}
use Rattle.gz_core.specs.Names.{Name, same_name}
use Rattle.gz_core.proofs.Ballots.{name_means}
use Rattle.gz_site.specs.Told.{same_key}

pub same_key-eq : (a b : List ℕ) → same_key a b ≡ true → a ≡ b
same_key-eq a b h = (bytes_eq-Decides a b).0 (sym (is_eq-slice_cmp a b) ∙ h)

pub same_key-refl : (a : List ℕ) → same_key a a ≡ true
same_key-refl a = is_eq-slice_cmp a a ∙ (bytes_eq-Decides a a).1 refl

pub key_cases : (a b : List ℕ) → (a ≡ b) ⊎ ((a ≢ b) × (same_key a b ≡ false))
key_cases a b = elim (same_key a b) as (λ t. same_key a b ≡ t → (a ≡ b) ⊎ ((a ≢ b) × (same_key a b ≡ false))) [
  | true ↦ λ e. inl (same_key-eq a b e)
  | false ↦ λ e. inr (λ same. let bad : true ≡ false = sym (same_key-refl a) ∙ ap (same_key a) same ∙ e in cc, e)
] refl

pub name_apart : (x y : Name) → (x ≡ y → ⊥) → same_name x y ≡ false
name_apart x y apart = elim (cases_Bool (same_name x y)) [ inl e ↦ absurd (apart (name_means x y e)) | inr e ↦ e ]
