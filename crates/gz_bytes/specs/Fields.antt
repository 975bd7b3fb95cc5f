-- Reading a field that begins at a place: its value and the bytes after it, or what is wrong and the place.
use Rattle.std.specs.Prelude.{ℕ, ◌+◌, ◌||◌, ◌==◌, List, [], ◌∷◌, take, drop, length, Result, Ok, Err, nat_eq, nat_lt, if◌then◌else◌}
use Rattle.std.specs.Cmp.Lexicographic.{pointwise}
use Rattle.std.specs.Int.{Width, w32, byte_len, from_be_bytes}
use Rattle.gz_core.specs.Names.{Name}
use Rattle.gz_bytes.specs.declared.faults.Fault.{Fault}
use Rattle.gz_bytes.specs.declared.faults.Fault.TheVariants.{Short, Wrong}
use Rattle.gz_bytes.specs.Steps.{◌>>=◌, told}

-- ---- bytes and numbers

abbrev pub bytes_at : ℕ → ℕ → List ℕ → Result (List ℕ × List ℕ) Fault
bytes_at n at bytes = if nat_lt (length bytes) n then Err (Short at) else Ok (take n bytes, drop n bytes)

abbrev pub byte_at : ℕ → List ℕ → Result (ℕ × List ℕ) Fault
byte_at at [] = Err (Short at)
byte_at at (b ∷ rest) = Ok (b, rest)

abbrev pub number_at : Width → ℕ → List ℕ → Result (ℕ × List ℕ) Fault
number_at w at bytes = if nat_lt (length bytes) (byte_len w) then Err (Short at) else Ok (from_be_bytes w (take (byte_len w) bytes), drop (byte_len w) bytes)

-- the bytes after those that each record of a format begins with: `wrong` where others stand there
abbrev pub after_magic : {E : Type 0} → (Fault → E) → List ℕ → E → List ℕ → Result (List ℕ) E
after_magic words magic wrong bytes = do
  front ← told words (bytes_at (length magic) 0 bytes)
  if pointwise nat_eq front.0 magic then Ok front.1 else Err wrong

-- ---- what is said of a put

-- both numbers of a name are at least 1: one field, which is whole before its numbers are tried
unfoldable pub name_at : ℕ → List ℕ → Result (Name × List ℕ) Fault
name_at at bytes = do
  session ← number_at w32 at bytes
  seq ← number_at w32 at session.1
  if (session.0 == 0) || (seq.0 == 0) then Err (Wrong at) else Ok (record { session = session.0; seq = seq.0 }, seq.1)

-- the length of an object
unfoldable pub length_at : ℕ → List ℕ → Result (ℕ × List ℕ) Fault
length_at at bytes = do
  len ← number_at w32 at bytes
  if nat_lt 1048576 len.0 then Err (Wrong at) else Ok len

-- the number of its data fragments
unfoldable pub data_at : ℕ → List ℕ → Result (ℕ × List ℕ) Fault
data_at at bytes = do
  k ← byte_at at bytes
  if k.0 == 0 then Err (Wrong at) else Ok k

-- the number of its parity fragments, where k are data
unfoldable pub parity_at : ℕ → ℕ → List ℕ → Result (ℕ × List ℕ) Fault
parity_at at k bytes = do
  m ← byte_at at bytes
  if nat_lt 16 (k + m.0) then Err (Wrong at) else Ok m
