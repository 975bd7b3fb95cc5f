-- The names of blobs.
use Rattle.std.specs.Prelude.{ℕ, List, Bool}
use Rattle.std.specs.Cmp.Lexicographic.{slice_cmp}
use Rattle.std.specs.Ordering.{nat_cmp, is_eq, ordering_then}
use Rattle.gz_core.specs.Names.{Name}

-- a blob's name: the key of the object, the put that stored it, and the index of the fragment
pub record BlobAt : Type 0 where
  pub key : List ℕ
  pub name : Name
  pub index : ℕ

-- whether two names are those of one blob
abbrev pub same_blob : BlobAt → BlobAt → Bool
same_blob a b =
    is_eq (ordering_then (slice_cmp nat_cmp a.key b.key) (ordering_then
    (ordering_then (nat_cmp a.name.session b.name.session) (nat_cmp a.name.seq b.name.seq)) (nat_cmp a.index b.index)))
