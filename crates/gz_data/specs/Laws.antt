-- From digests to bytes, and what the folds over a call owe to each other.
use Rattle.std.specs.Prelude.{ℕ, ◌≡◌, ◌↔◌, ◌+◌, ◌<◌, ◌≤◌, true, List, ◌++◌, length, Some, None, slice_index_or}
use Rattle.std.specs.Int.{div_ceil}
use Rattle.sha2.specs.Sha256.{sha256}
use Rattle.gz_config.specs.declared.Config.{Config}
use Rattle.gz_core.specs.Awaiting.{IsAwaited, AreInTurn}
use Rattle.gz_core.specs.Blobs.{BlobAt}
use Rattle.gz_core.specs.History.{Asked, Action}
use Rattle.gz_core.specs.Names.{Name}
use Rattle.gz_core.specs.Puts.{PutData}
use Rattle.gz_core.specs.declared.values.Value.TheVariants.{Put as PutOf}
use Rattle.gz_core.specs.declared.calls.Call.{Call}
use Rattle.gz_core.specs.declared.calls.Call.TheVariants.{Put}
use Rattle.gz_fragfmt.specs.Spelling.{header}
use Rattle.gz_data.specs.Blobs.{is_op_about, blob_now, AreAskedOnce, puts_sent, puts_awaited, stored, lost}
use Rattle.gz_data.specs.Own.{IsOwn, IsRecordOf, digest_at}
use Rattle.gz_data.specs.Records.{fragment_at, whole_piece}
use Rattle.gz_data.specs.Whole.{Piece, no_piece, CameWhole, IsRebuilt}

-- the digest that a put's value names for a fragment is that of the record that the put stores
abbrev pub RecordHasDigest : Type 0
RecordHasDigest =
    (c : Config) (name : Name) (call : Call) (x : PutData) (i : ℕ) (bytes : List ℕ)
    → c.k + c.m ≤ 256 → IsOwn c name call (Some (PutOf x)) → IsRecordOf c name call i bytes → digest_at x i ≡ sha256 bytes

-- bytes are whole exactly where they have the digest, begin with the fragment's header, and go on with a piece of its width
abbrev pub WholePieceIs : Type 0
WholePieceIs =
    (key : List ℕ) (x : PutData) (i : ℕ) (bytes piece : List ℕ)
    → (whole_piece key x i bytes ≡ Some piece)
    ↔ ((sha256 bytes ≡ digest_at x i) × (bytes ≡ header (fragment_at key x i) ++ piece) × (length piece ≡ div_ceil x.length x.k))

-- what is rebuilt from whole pieces is the object that the put stored, whatever collisions the digest has
abbrev pub WholePiecesGiveObject : Type 0
WholePiecesGiveObject =
    (c : Config) (name : Name) (key object : List ℕ) (x : PutData) (pieces : List Piece) (bytes : List ℕ)
    → c.k + c.m ≤ 256 → IsOwn c name (Put key object) (Some (PutOf x))
    → ((j : ℕ) → j < length pieces → CameWhole c name key object x (slice_index_or pieces j no_piece))
    → IsRebuilt x.k x.m x.length pieces bytes → bytes ≡ object

-- of a call whose actions are in turn, the fragments that are awaited, stored and lost are all that it asked to be stored
abbrev pub PutsCounted : Type 0
PutsCounted = (ms : List Action) → AreInTurn ms → puts_awaited ms + stored ms + lost ms ≡ puts_sent ms

-- of such a call, a blob that it asked for and of which nothing came is awaited
abbrev pub AskedComes : Type 0
AskedComes =
    (ms : List Action) (b : BlobAt) → AreInTurn ms → (blob_now ms b).asked ≡ true → (blob_now ms b).outcome ≡ None
    → (a : Asked) × IsAwaited ms a × (is_op_about b a.op ≡ true)

-- of such a call that asks for each blob once, a blob of which a request is awaited was asked for, and nothing came of it
abbrev pub AwaitedIsNew : Type 0
AwaitedIsNew =
    (ms : List Action) (a : Asked) (b : BlobAt) → AreInTurn ms → AreAskedOnce ms → IsAwaited ms a → is_op_about b a.op ≡ true
    → blob_now ms b ≡ record { asked = true; outcome = None }
