-- Two blobs of one value are the same where their indices are.
use Rattle.std.proofs.Common.{◌≡◌, ℕ, ◌<◌, Bool, true, false, cond, eqb, ltb, List, [], ◌∷◌, refl, sym, ap, ◌∙◌, inl, inr, arith}
use Rattle.std.specs.Prelude.{◌⊎◌, ◌==◌}
use Rattle.std.specs.declared.cmp.Ordering.TheVariants.{Less, Equal, Greater}
use Rattle.std.specs.Ordering.{nat_cmp, is_eq, ordering_then}
use Rattle.std.specs.Cmp.Lexicographic.{slice_cmp}
use Rattle.std.proofs.lemmas.Bool.{cases_Bool, eqb-true, eq-eqb}
use Rattle.std.proofs.lemmas.Bool.Decides.{nat_tests}
use Rattle.gz_core.specs.Blobs.{BlobAt, same_blob}
use Rattle.gz_core.specs.Puts.{PutData}
use Rattle.gz_data.specs.Blobs.{blob_at}

nat_cmp-refl : (n : ℕ) → nat_cmp n n ≡ Equal
nat_cmp-refl n = grind (arith, nat_tests)

slice_cmp-refl : (xs : List ℕ) → slice_cmp nat_cmp xs xs ≡ Equal
slice_cmp-refl [] = refl
slice_cmp-refl (x ∷ xs) = rw (nat_cmp-refl x) (slice_cmp-refl xs)

is_eq-nat_cmp : (i j : ℕ) → is_eq (nat_cmp i j) ≡ (i == j)
is_eq-nat_cmp i j = grind (arith, nat_tests)

pub same_blob-blob_at : (key : List ℕ) (x : PutData) (i j : ℕ) → same_blob (blob_at key x i) (blob_at key x j) ≡ (i == j)
same_blob-blob_at key x i j = rw (slice_cmp-refl key, nat_cmp-refl x.name.session, nat_cmp-refl x.name.seq) (is_eq-nat_cmp i j)
