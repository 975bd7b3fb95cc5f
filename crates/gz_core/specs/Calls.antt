-- What a call is about.
use Rattle.std.specs.Prelude.{ℕ, List}
use Rattle.gz_core.specs.declared.calls.Call.{Call}
use Rattle.gz_core.specs.declared.calls.Call.TheVariants.{Put, Delete, Get, GetAt, Collect}

-- the key of the call's object
abbrev pub key_of : Call → List ℕ
key_of (Put key bytes) = key
key_of (Delete key) = key
key_of (Get key) = key
key_of (GetAt key version) = key
key_of (Collect key keep) = key
