-- The facts of an answer: the version that it shows, whether it stands for the latest one, and whom it names.
use Rattle.std.specs.Prelude.{ℕ, ◌≡◌, ◌<◌, ◌≤◌, ◌+◌, List, Option, Some, None}
use Rattle.gz_core.specs.Names.{Name}
use Rattle.gz_core.specs.declared.calls.Call.{Call}
use Rattle.gz_core.specs.declared.calls.Call.TheVariants.{Put, Delete, Get, GetAt, Collect}
use Rattle.gz_core.specs.declared.calls.Answer.{Answer}
use Rattle.gz_core.specs.declared.calls.Answer.TheVariants.{Ok as Placed, Thin, Short, Bytes, Incomplete, Gone, Absent, Unborn, Collected, Swept, Held, NoQuorum, Contended, Unsure}

-- the version that an answer shows to exist; 0 says that there is none. What was collected is all below a version that exists
abbrev pub shows : Option Answer → Option ℕ
shows None = None
shows (Some (Placed version)) = Some version
shows (Some (Thin version stored)) = Some version
shows (Some (Short stored)) = None
shows (Some (Bytes version name bytes)) = Some version
shows (Some (Incomplete version name fates)) = Some version
shows (Some (Gone version name)) = Some version
shows (Some Absent) = Some 0
shows (Some (Unborn latest)) = Some latest
shows (Some (Collected floor)) = Some (floor + 1)
shows (Some (Swept floor dropped)) = Some (floor + 1)
shows (Some (Held why)) = None
shows (Some (NoQuorum phase heard)) = None
shows (Some (Contended met)) = None
shows (Some (Unsure why)) = None

-- the version that an answer calls the latest one, where a version that was asked for has not begun
abbrev pub latest_told : Option Answer → Option ℕ
latest_told None = None
latest_told (Some (Placed version)) = None
latest_told (Some (Thin version stored)) = None
latest_told (Some (Short stored)) = None
latest_told (Some (Bytes version name bytes)) = None
latest_told (Some (Incomplete version name fates)) = None
latest_told (Some (Gone version name)) = None
latest_told (Some Absent) = None
latest_told (Some (Unborn latest)) = Some latest
latest_told (Some (Collected floor)) = None
latest_told (Some (Swept floor dropped)) = None
latest_told (Some (Held why)) = None
latest_told (Some (NoQuorum phase heard)) = None
latest_told (Some (Contended met)) = None
latest_told (Some (Unsure why)) = None

-- the version that an answer shows as the latest one at some moment of its call. A read of a version by its number and a
-- collection show versions that may be old, but for the latest one where the version asked for has not begun
abbrev pub stands : Call → Option Answer → Option ℕ
stands (Put key bytes) answer = shows answer
stands (Delete key) answer = shows answer
stands (Get key) answer = shows answer
stands (GetAt key version) answer = latest_told answer
stands (Collect key keep) answer = latest_told answer

-- the call whose value the answer gives: its own for a write, the one that was read for a read
abbrev pub names : Name → Option Answer → Option Name
names own None = None
names own (Some (Placed version)) = Some own
names own (Some (Thin version stored)) = Some own
names own (Some (Short stored)) = None
names own (Some (Bytes version name bytes)) = Some name
names own (Some (Incomplete version name fates)) = Some name
names own (Some (Gone version name)) = Some name
names own (Some Absent) = None
names own (Some (Unborn latest)) = None
names own (Some (Collected floor)) = None
names own (Some (Swept floor dropped)) = None
names own (Some (Held why)) = None
names own (Some (NoQuorum phase heard)) = None
names own (Some (Contended met)) = None
names own (Some (Unsure why)) = None

-- the put or delete that a read names
abbrev pub read_from : Option Answer → Option Name
read_from None = None
read_from (Some (Placed version)) = None
read_from (Some (Thin version stored)) = None
read_from (Some (Short stored)) = None
read_from (Some (Bytes version name bytes)) = Some name
read_from (Some (Incomplete version name fates)) = Some name
read_from (Some (Gone version name)) = Some name
read_from (Some Absent) = None
read_from (Some (Unborn latest)) = None
read_from (Some (Collected floor)) = None
read_from (Some (Swept floor dropped)) = None
read_from (Some (Held why)) = None
read_from (Some (NoQuorum phase heard)) = None
read_from (Some (Contended met)) = None
read_from (Some (Unsure why)) = None

-- the bytes that a read returns
abbrev pub bytes_read : Option Answer → Option (List ℕ)
bytes_read None = None
bytes_read (Some (Placed version)) = None
bytes_read (Some (Thin version stored)) = None
bytes_read (Some (Short stored)) = None
bytes_read (Some (Bytes version name bytes)) = Some bytes
bytes_read (Some (Incomplete version name fates)) = None
bytes_read (Some (Gone version name)) = None
bytes_read (Some Absent) = None
bytes_read (Some (Unborn latest)) = None
bytes_read (Some (Collected floor)) = None
bytes_read (Some (Swept floor dropped)) = None
bytes_read (Some (Held why)) = None
bytes_read (Some (NoQuorum phase heard)) = None
bytes_read (Some (Contended met)) = None
bytes_read (Some (Unsure why)) = None

-- the bytes that a call writes
abbrev pub bytes_written : Call → Option (List ℕ)
bytes_written (Put key bytes) = Some bytes
bytes_written (Delete key) = None
bytes_written (Get key) = None
bytes_written (GetAt key version) = None
bytes_written (Collect key keep) = None

-- the call writes a version of its own
abbrev pub IsWrite : Call → Type 0
IsWrite (Put key bytes) = Unit {0}
IsWrite (Delete key) = Unit {0}
IsWrite (Get key) = ⊥
IsWrite (GetAt key version) = ⊥
IsWrite (Collect key keep) = ⊥

-- the call writes bytes
abbrev pub IsPut : Call → Type 0
IsPut (Put key bytes) = Unit {0}
IsPut (Delete key) = ⊥
IsPut (Get key) = ⊥
IsPut (GetAt key version) = ⊥
IsPut (Collect key keep) = ⊥

-- the call writes a tombstone
abbrev pub IsDelete : Call → Type 0
IsDelete (Put key bytes) = ⊥
IsDelete (Delete key) = Unit {0}
IsDelete (Get key) = ⊥
IsDelete (GetAt key version) = ⊥
IsDelete (Collect key keep) = ⊥

-- the call writes what the answer reads: bytes, also where too few of their fragments are whole, or the tombstone by which
-- an object is gone
abbrev pub Writes : Option Answer → Call → Type 0
Writes None call = ⊥
Writes (Some (Placed version)) call = ⊥
Writes (Some (Thin version stored)) call = ⊥
Writes (Some (Short stored)) call = ⊥
Writes (Some (Bytes version name bytes)) call = IsPut call
Writes (Some (Incomplete version name fates)) call = IsPut call
Writes (Some (Gone version name)) call = IsDelete call
Writes (Some Absent) call = ⊥
Writes (Some (Unborn latest)) call = ⊥
Writes (Some (Collected floor)) call = ⊥
Writes (Some (Swept floor dropped)) call = ⊥
Writes (Some (Held why)) call = ⊥
Writes (Some (NoQuorum phase heard)) call = ⊥
Writes (Some (Contended met)) call = ⊥
Writes (Some (Unsure why)) call = ⊥

-- the answer does not rule out that the write took effect
abbrev pub MayTakeEffect : Option Answer → Type 0
MayTakeEffect None = Unit {0}
MayTakeEffect (Some (Placed version)) = Unit {0}
MayTakeEffect (Some (Thin version stored)) = Unit {0}
MayTakeEffect (Some (Short stored)) = ⊥
MayTakeEffect (Some (Bytes version name bytes)) = Unit {0}
MayTakeEffect (Some (Incomplete version name fates)) = Unit {0}
MayTakeEffect (Some (Gone version name)) = Unit {0}
MayTakeEffect (Some Absent) = Unit {0}
MayTakeEffect (Some (Unborn latest)) = Unit {0}
MayTakeEffect (Some (Collected floor)) = Unit {0}
MayTakeEffect (Some (Swept floor dropped)) = Unit {0}
MayTakeEffect (Some (Held why)) = Unit {0}
MayTakeEffect (Some (NoQuorum phase heard)) = ⊥
MayTakeEffect (Some (Contended met)) = ⊥
MayTakeEffect (Some (Unsure why)) = Unit {0}

-- the answer is about the version that was asked for: what it reads has that version, one that has not begun is above the
-- latest one, and one that was collected is at the floor or below it
abbrev pub IsOfVersion : ℕ → Option Answer → Type 0
IsOfVersion asked None = Unit {0}
IsOfVersion asked (Some (Placed version)) = Unit {0}
IsOfVersion asked (Some (Thin version stored)) = Unit {0}
IsOfVersion asked (Some (Short stored)) = Unit {0}
IsOfVersion asked (Some (Bytes version name bytes)) = version ≡ asked
IsOfVersion asked (Some (Incomplete version name fates)) = version ≡ asked
IsOfVersion asked (Some (Gone version name)) = version ≡ asked
IsOfVersion asked (Some Absent) = Unit {0}
IsOfVersion asked (Some (Unborn latest)) = latest < asked
IsOfVersion asked (Some (Collected floor)) = asked ≤ floor
IsOfVersion asked (Some (Swept floor dropped)) = Unit {0}
IsOfVersion asked (Some (Held why)) = Unit {0}
IsOfVersion asked (Some (NoQuorum phase heard)) = Unit {0}
IsOfVersion asked (Some (Contended met)) = Unit {0}
IsOfVersion asked (Some (Unsure why)) = Unit {0}

-- a call that asks for a version is answered about it
abbrev pub AnswersAsked : Call → Option Answer → Type 0
AnswersAsked (Put key bytes) answer = Unit {0}
AnswersAsked (Delete key) answer = Unit {0}
AnswersAsked (Get key) answer = Unit {0}
AnswersAsked (GetAt key version) answer = IsOfVersion version answer
AnswersAsked (Collect key keep) answer = Unit {0}
