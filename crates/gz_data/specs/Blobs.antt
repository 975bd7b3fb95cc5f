-- What a call did and learnt about the records of fragments: folds over what happened to it, newest first.
use Rattle.std.specs.Prelude.{ℕ, ◌≡◌, ◌+◌, ◌&&◌, Bool, true, false, not, if◌then◌else◌, List, [], ◌∷◌, ◌++◌, Option, Some, None, option_map}
use Rattle.std.specs.List.{count_by}
use Rattle.gz_core.specs.Blobs.{BlobAt, same_blob}
use Rattle.gz_core.specs.Puts.{PutData}
use Rattle.gz_core.specs.declared.fates.Fate.{Fate}
use Rattle.gz_core.specs.declared.fates.Fate.TheVariants.{Whole, Damaged, Missing, GivenUp, Failed as FailedToCome}
use Rattle.gz_core.specs.declared.requests.Op.{Op}
use Rattle.gz_core.specs.declared.requests.Op.TheVariants.{PutBlob, GetBlob}
use Rattle.gz_core.specs.declared.requests.Reply.{Reply}
use Rattle.gz_core.specs.declared.requests.Reply.TheVariants.{Stored, Blob, NoBlob}
use Rattle.gz_core.specs.History.{Asked, Action, Sent, Handed, GaveUp, Rested, GaveIn}
use Rattle.gz_core.specs.Awaiting.{awaiting}
use Rattle.gz_data.specs.Records.{whole_piece}
use Rattle.gz_data.specs.Whole.{Piece}

-- ---- a blob as the call knows it

-- what came of a request: a reply, or it was given up
pub data Outcome : Type 0 where
  Answered : Reply → Outcome
  Abandoned : Outcome

-- whether the blob was asked for, to be stored or to be read, and what came of it
pub record BlobNow : Type 0 where
  pub asked : Bool
  pub outcome : Option Outcome

-- whether an operation stores or reads this blob
abbrev pub is_op_about : BlobAt → Op → Bool
is_op_about b (PutBlob name bytes) = same_blob name b
is_op_about b (GetBlob name) = same_blob name b
is_op_about b op = false

abbrev pub is_about : BlobAt → Action → Bool
is_about b (Sent a) = is_op_about b a.op
is_about b (Handed a reply) = is_op_about b a.op
is_about b (GaveUp a) = is_op_about b a.op
is_about b Rested = false
is_about b GaveIn = false

-- what an action about the blob makes of it
abbrev pub blob_after : Action → BlobNow → BlobNow
blob_after (Sent a) now = record { asked = true; outcome = None }
blob_after (Handed a reply) now = record { asked = now.asked; outcome = Some (Answered reply) }
blob_after (GaveUp a) now = record { asked = now.asked; outcome = Some Abandoned }
blob_after Rested now = now
blob_after GaveIn now = now

-- the blob as of now
abbrev pub blob_now : List Action → BlobAt → BlobNow
blob_now [] b = record { asked = false; outcome = None }
blob_now (m ∷ ms) b = if is_about b m then blob_after m (blob_now ms b) else blob_now ms b

-- ---- the fragments that a put stores

abbrev pub is_put_blob : Op → Bool
is_put_blob (PutBlob name bytes) = true
is_put_blob op = false

abbrev pub is_stored : Reply → Bool
is_stored Stored = true
is_stored reply = false

-- whether a request to store a fragment is sent, is answered that it is stored, or is lost: answered otherwise, or given up
abbrev pub sends_put : Action → Bool
sends_put (Sent a) = is_put_blob a.op
sends_put m = false

abbrev pub stores : Action → Bool
stores (Handed a reply) = is_put_blob a.op && is_stored reply
stores m = false

abbrev pub loses : Action → Bool
loses (Handed a reply) = is_put_blob a.op && not (is_stored reply)
loses (GaveUp a) = is_put_blob a.op
loses m = false

abbrev pub count_actions : (Action → Bool) → List Action → ℕ
count_actions p [] = 0
count_actions p (m ∷ ms) = if p m then count_actions p ms + 1 else count_actions p ms

-- how many fragments the call asked to be stored, how many of them were stored, were lost, and are awaited
abbrev pub puts_sent : List Action → ℕ
puts_sent ms = count_actions sends_put ms

abbrev pub stored : List Action → ℕ
stored ms = count_actions stores ms

abbrev pub lost : List Action → ℕ
lost ms = count_actions loses ms

abbrev pub puts_awaited : List Action → ℕ
puts_awaited ms = count_by (λ (a : Asked). is_put_blob a.op) (awaiting ms)

-- ---- the fragments of a value that are read

-- the blob of a value's i-th fragment
abbrev pub blob_at : List ℕ → PutData → ℕ → BlobAt
blob_at key x i = record { key = key; name = x.name; index = i }

abbrev pub fate_of_piece : Option (List ℕ) → Fate
fate_of_piece (Some piece) = Whole
fate_of_piece None = Damaged

-- what a reply says of the i-th fragment
abbrev pub fate_in : List ℕ → PutData → ℕ → Reply → Fate
fate_in key x i (Blob bytes) = fate_of_piece (whole_piece key x i bytes)
fate_in key x i NoBlob = Missing
fate_in key x i reply = FailedToCome

abbrev pub fate_by : List ℕ → PutData → ℕ → Outcome → Fate
fate_by key x i (Answered reply) = fate_in key x i reply
fate_by key x i Abandoned = GivenUp

-- what came of the i-th fragment, if anything did
abbrev pub fate_now : List ℕ → PutData → List Action → ℕ → Option Fate
fate_now key x ms i = option_map (fate_by key x i) (blob_now ms (blob_at key x i)).outcome

-- the piece that a reply brings, if it is whole
abbrev pub piece_in : List ℕ → PutData → ℕ → Reply → Option (List ℕ)
piece_in key x i (Blob bytes) = whole_piece key x i bytes
piece_in key x i reply = None

abbrev pub pieces_by : ℕ → Option (List ℕ) → List Piece
pieces_by i None = []
pieces_by i (Some piece) = (i, piece) ∷ []

-- the piece that came at an action
abbrev pub whole_by : List ℕ → PutData → Op → Reply → List Piece
whole_by key x (GetBlob b) reply = if same_blob b (blob_at key x b.index) then pieces_by b.index (piece_in key x b.index reply) else []
whole_by key x op reply = []

abbrev pub whole_in : List ℕ → PutData → Action → List Piece
whole_in key x (Handed a reply) = whole_by key x a.op reply
whole_in key x m = []

-- the pieces that came whole, each with its index, in the order in which they came
abbrev pub wholes : List ℕ → PutData → List Action → List Piece
wholes key x [] = []
wholes key x (m ∷ ms) = wholes key x ms ++ whole_in key x m

-- ---- each blob is asked for once

abbrev pub IsFirstAsked : List Action → Action → Type 0
IsFirstAsked ms (Sent a) = (b : BlobAt) → is_op_about b a.op ≡ true → (blob_now ms b).asked ≡ false
IsFirstAsked ms m = Unit {0}

abbrev pub AreAskedOnce : List Action → Type 0
AreAskedOnce [] = Unit {0}
AreAskedOnce (m ∷ ms) = IsFirstAsked ms m × AreAskedOnce ms
