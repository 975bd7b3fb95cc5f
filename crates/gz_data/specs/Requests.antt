-- The requests for fragments, and those that are awaited.
use Rattle.std.specs.Prelude.{ℕ, zero, suc, ◌+◌, ◌==◌, Bool, true, false, not, List, [], ◌∷◌, ◌++◌, length, map, ◌≡◌}
use Rattle.std.specs.List.{filter}
use Rattle.gz_core.specs.Awaiting.{awaiting, without_rows}
use Rattle.gz_core.specs.History.{Asked, Action}
use Rattle.gz_core.specs.Names.{Name}
use Rattle.gz_core.specs.declared.fragments.FragRef.{FragRef}
use Rattle.gz_core.specs.declared.requests.Op.{Op}
use Rattle.gz_core.specs.declared.requests.Op.TheVariants.{PutBlob, GetBlob}
use Rattle.gz_core.specs.declared.requests.Out.{Out}
use Rattle.gz_data.specs.declared.requests.AwaitedBlob.{AwaitedBlob}

-- the request that stores a record at the site of its index
abbrev pub put_out : Name → List ℕ → ℕ → List ℕ → Out
put_out name key i bytes = record { site = i; op = PutBlob (record { key = key; name = name; index = i }) bytes; awaited = true }

-- the requests that store these records, the first of which has this index
abbrev pub puts_from : Name → List ℕ → ℕ → List (List ℕ) → List Out
puts_from name key i [] = []
puts_from name key i (bytes ∷ rest) = put_out name key i bytes ∷ puts_from name key (i + 1) rest

-- the request that reads a fragment at the site that its value names
abbrev pub get_out : Name → List ℕ → ℕ → FragRef → Out
get_out name key i fragment = record { site = fragment.site; op = GetBlob (record { key = key; name = name; index = i }); awaited = true }

-- the requests that read these fragments, the first of which has this index
abbrev pub gets_from : Name → List ℕ → ℕ → List FragRef → List Out
gets_from name key i [] = []
gets_from name key i (fragment ∷ rest) = get_out name key i fragment ∷ gets_from name key (i + 1) rest

-- so many requests, under rising numbers and about rising indices
abbrev pub awaited_from : ℕ → ℕ → ℕ → List AwaitedBlob
awaited_from number i zero = []
awaited_from number i (suc n) = record { number = number; index = i } ∷ awaited_from (number + 1) (i + 1) n

-- the index of the fragment that a request is about
abbrev pub index_in : Op → ℕ
index_in (PutBlob b bytes) = b.index
index_in (GetBlob b) = b.index
index_in op = 0

abbrev pub awaited_blob : Asked → AwaitedBlob
awaited_blob a = record { number = a.number; index = index_in a.op }

-- the requests about blobs that a call awaits
abbrev pub blobs_awaited : List Action → List AwaitedBlob
blobs_awaited ms = map awaited_blob (without_rows (awaiting ms))

abbrev pub is_numbered : ℕ → AwaitedBlob → Bool
is_numbered n blob = blob.number == n

-- all but the request of this number
abbrev pub without_number : ℕ → List AwaitedBlob → List AwaitedBlob
without_number n blobs = filter (λ blob. not (blob.number == n)) blobs

-- these requests were added to what an event sends under the numbers from `first` on, and are awaited
pub record AreAdded (first : ℕ) (start send : List Out) (awaited : List AwaitedBlob) (added : List Out) : Type 0 where
  pub sent : send ≡ start ++ added
  pub awaited_is : awaited ≡ awaited_from (first + length start) 0 (length added)
  pub count : length awaited ≡ length added
  pub room : length send ≡ length start + length added
