-- Reading a fragment record from left to right, with the first fault that is met and its place.
use Rattle.std.specs.Prelude.{ℕ, ◌≡◌, ◌+◌, ◌&&◌, ◌==◌, Bool, not, List, length, Option, Some, None, Result, Ok, Err, position, nat_le, if◌then◌else◌}
use Rattle.std.specs.Int.{div_ceil}
use Rattle.gz_bytes.specs.declared.faults.Fault.{Fault}
use Rattle.gz_bytes.specs.declared.faults.Fault.TheVariants as faults
use Rattle.gz_bytes.specs.Steps.{◌>>=◌, told, Gives as GivesIn}
use Rattle.gz_bytes.specs.Fields.{bytes_at, byte_at, after_magic, name_at, length_at, data_at, parity_at}
use Rattle.gz_fragfmt.specs.Fragments.{FragmentAt}
use Rattle.gz_fragfmt.specs.Spelling.{magic}
use Rattle.gz_fragfmt.specs.declared.errors.FragError.{FragError}
use Rattle.gz_fragfmt.specs.declared.errors.FragError.TheVariants.{Magic, Short, Field, Trailing, NoMemory}

-- what a function returned, seen by view, is what reading gives
abbrev pub Gives : {X Y : Type 0} → (X → Y) → Result X FragError → Result Y FragError → Type 0
Gives view returned read = GivesIn view returned read

-- the same, but that memory may run out
abbrev pub MayGive : {Y : Type 0} → Result Y FragError → Result Y FragError → Type 0
MayGive (Ok x) read = read ≡ Ok x
MayGive (Err NoMemory) read = Unit {0}
MayGive (Err e) read = read ≡ Err e

-- what is wrong with a field, as a fault of the record
abbrev pub fault_of : Fault → FragError
fault_of (faults.Short at) = Short at
fault_of (faults.Wrong at) = Field at

-- a field of the record
abbrev pub field : {A : Type 0} → Result A Fault → Result A FragError
field read = told fault_of read

-- the bytes after the magic
unfoldable pub magic_at : List ℕ → Result (List ℕ) FragError
magic_at bytes = after_magic fault_of magic (Magic 0) bytes

-- whether a byte may stand in a key
abbrev pub is_key_byte : ℕ → Bool
is_key_byte b = nat_le 0x21 b && nat_le b 0x7e

-- the first byte that may not
abbrev pub bad_place : List ℕ → Option ℕ
bad_place bytes = position (λ b. not (is_key_byte b)) bytes

abbrev pub good_key : ℕ → Option ℕ → List ℕ × List ℕ → Result (List ℕ × List ℕ) FragError
good_key at None key = Ok key
good_key at (Some i) key = Err (Field (at + i))

-- a key is whole before its bytes are tried
unfoldable pub key_bytes_at : ℕ → ℕ → List ℕ → Result (List ℕ × List ℕ) FragError
key_bytes_at n at bytes = do
  key ← field (bytes_at n at bytes)
  good_key at (bad_place key.0) key

unfoldable pub key_at : List ℕ → Result (List ℕ × List ℕ) FragError
key_at bytes = do
  n ← field (byte_at 4 bytes)
  if n.0 == 0 then Err (Field 4) else key_bytes_at n.0 5 n.1

-- the number of parity pieces, with that of data pieces above the index
unfoldable pub m_at : ℕ → ℕ → ℕ → List ℕ → Result (ℕ × List ℕ) FragError
m_at at index k bytes = do
  m ← field (parity_at at k bytes)
  if nat_le (k + m.0) index then Err (Field at) else Ok m

-- the piece, with which the bytes end
unfoldable pub piece_at : ℕ → ℕ → List ℕ → Result (List ℕ) FragError
piece_at at width bytes = do
  piece ← field (bytes_at width at bytes)
  if length piece.1 == 0 then Ok piece.0 else Err (Trailing (at + width))

-- what stands after the key
unfoldable pub rest_at : List ℕ → ℕ → List ℕ → Result FragmentAt FragError
rest_at key at bytes = do
  name ← field (name_at at bytes)
  index ← field (byte_at (at + 8) name.1)
  k ← field (data_at (at + 9) index.1)
  m ← m_at (at + 10) index.0 k.0 k.1
  len ← field (length_at (at + 11) m.1)
  piece ← piece_at (at + 15) (div_ceil len.0 k.0) len.1
  Ok (record { key = key; name = name.0; index = index.0; k = k.0; m = m.0; length = len.0; piece = piece })

unfoldable pub fragment_in : List ℕ → Result FragmentAt FragError
fragment_in bytes = do
  start ← magic_at bytes
  key ← key_at start
  rest_at key.0 (5 + length key.0) key.1
