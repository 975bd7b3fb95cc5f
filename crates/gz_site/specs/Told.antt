-- What a site tells of its state.
use Rattle.std.specs.Prelude.{ℕ, ◌≡◌, List, Option, Some, None, Bool, option_map}
use Rattle.std.specs.Cmp.Lexicographic.{slice_cmp}
use Rattle.std.specs.Ordering.{nat_cmp, is_eq}
use Rattle.gz_core.specs.Blobs.{BlobAt}
use Rattle.gz_core.specs.Rows.{RowAt}

-- the row of each key with its entity tag, the bytes of each blob, and the greatest tag that the site has used
pub record Told : Type 0 where
  pub rows : List ℕ → Option (ℕ × RowAt)
  pub blobs : BlobAt → Option (List ℕ)
  pub top : ℕ

-- the state of a site that holds nothing
abbrev pub nothing : Told
nothing = record { rows = λ key. None; blobs = λ blob. None; top = 0 }

-- the site holds nothing and has used no tag
pub record IsEmpty (told : Told) : Type 0 where
  pub rows : (key : List ℕ) → told.rows key ≡ None
  pub blobs : (blob : BlobAt) → told.blobs blob ≡ None
  pub top : told.top ≡ 0

-- a relation between what a site told before and tells now; one that does not tell goes on so
abbrev pub Tells : Option Told → Option Told → (Told → Told → Type 0) → Type 0
Tells None None R = Unit {0}
Tells None (Some new) R = ⊥
Tells (Some old) None R = ⊥
Tells (Some old) (Some new) R = R old new

-- whether two keys are the same one
abbrev pub same_key : List ℕ → List ℕ → Bool
same_key a b = is_eq (slice_cmp nat_cmp a b)

-- the tag of a stored row
abbrev pub etag_of : Option (ℕ × RowAt) → Option ℕ
etag_of stored = option_map (λ s. s.0) stored
