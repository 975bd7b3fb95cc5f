-- The calls of a world as a log tells them.
use Rattle.std.specs.Prelude.{ℕ, ◌≡◌, ◌<◌, ◌^◌, List, Some, slice_get}
use Rattle.hex.specs.Hex.{IsBytes}
use Rattle.gz_core.specs.Calls.{key_of}
use Rattle.gz_core.specs.Keys.{IsKey}
use Rattle.gz_core.specs.declared.calls.Call.{Call}
use Rattle.gz_core.specs.declared.calls.Call.TheVariants.{Put, Delete, Get, GetAt, Collect}
use Rattle.gz_history.specs.declared.record.CallRec.{CallRec}

-- what a put was given are bytes
abbrev pub HasBytes : Call → Type 0
HasBytes (Put key bytes) = IsBytes bytes
HasBytes (Delete key) = Unit {0}
HasBytes (Get key) = Unit {0}
HasBytes (GetAt key version) = Unit {0}
HasBytes (Collect key keep) = Unit {0}

-- a version that is asked for is a number of 63 bits
abbrev pub HasVersion : Call → Type 0
HasVersion (Put key bytes) = Unit {0}
HasVersion (Delete key) = Unit {0}
HasVersion (Get key) = Unit {0}
HasVersion (GetAt key version) = version < 2 ^ 63
HasVersion (Collect key keep) = Unit {0}

-- a call is of the program's types: by its key, by the bytes that a put was given, and by the version that is asked for
pub record IsTyped (call : Call) : Type 0 where
  pub key : IsKey (key_of call)
  pub bytes : HasBytes call
  pub version : HasVersion call

abbrev pub AreTyped : List CallRec → Type 0
AreTyped calls = (i : ℕ) (c : CallRec) → slice_get calls i ≡ Some c → IsTyped c.call
