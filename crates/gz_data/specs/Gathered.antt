-- The fragments of a value as they come.
use Rattle.std.specs.Prelude.{ℕ, ◌≡◌, ◌+◌, ◌<◌, ◌≤◌, ◌≢◌, ◌⊎◌, true, List, [], ◌++◌, length, Option, Some, None, slice_get, slice_set, slice_index_or, is_some}
use Rattle.std.specs.List.{All}
use Rattle.gz_core.specs.Names.{Name}
use Rattle.gz_core.specs.Puts.{PutData}
use Rattle.gz_core.specs.declared.fates.Fate.{Fate}
use Rattle.gz_core.specs.declared.fates.Fate.TheVariants.{GivenUp}
use Rattle.gz_core.specs.declared.calls.Answer.{Answer}
use Rattle.gz_core.specs.declared.calls.Answer.TheVariants.{Bytes, Incomplete}
use Rattle.gz_core.specs.declared.requests.Reply.{Reply}
use Rattle.gz_core.specs.History.{Action}
use Rattle.gz_data.specs.Whole.{Piece, no_piece, ArePieces, IsRebuilt}
use Rattle.gz_data.specs.Blobs.{Outcome, Answered, Abandoned, fate_in, fate_now, piece_in, pieces_by, blob_at, blob_now, wholes}

-- a value that is gathered, what came of each of its fragments, and the pieces that came whole, in the order in which they came
pub record GatheredAt : Type 0 where
  pub version : ℕ
  pub value : PutData
  pub fates : List (Option Fate)
  pub pieces : List Piece

-- one fate for each fragment; each piece is of a fragment that something came of
pub record IsGathered (g : GatheredAt) : Type 0 where
  pub count : length g.fates ≡ g.value.k + g.value.m
  pub pieces : ArePieces g.value g.pieces
  pub came : (j : ℕ) → j < length g.pieces → slice_get g.fates (slice_index_or g.pieces j no_piece).0 ≢ Some None
  pub few : length g.pieces ≤ g.value.k

-- the value has an i-th fragment, and nothing came of it yet
pub record IsWaitedFor (g : GatheredAt) (i : ℕ) : Type 0 where
  pub within : i < g.value.k + g.value.m
  pub none : slice_get g.fates i ≡ Some None

-- the same once a reply of the i-th fragment came
abbrev pub noted : GatheredAt → List ℕ → ℕ → Reply → GatheredAt
noted g key i reply = record {
  version = g.version;
  value = g.value;
  fates = slice_set g.fates i (Some (fate_in key g.value i reply));
  pieces = g.pieces ++ pieces_by i (piece_in key g.value i reply);
}

-- the same once the request of the i-th fragment was given up
abbrev pub with_given_up : GatheredAt → ℕ → GatheredAt
with_given_up g i = record { version = g.version; value = g.value; fates = slice_set g.fates i (Some GivenUp); pieces = g.pieces }

-- what came of the i-th fragment, as the call keeps it: its fate, and its piece where that is whole
pub record CameAt : Type 0 where
  pub index : ℕ
  pub fate : Fate
  pub pieces : List Piece

-- the same once this is kept
abbrev pub with_came : GatheredAt → CameAt → GatheredAt
with_came g came = record { version = g.version; value = g.value; fates = slice_set g.fates came.index (Some came.fate); pieces = g.pieces ++ came.pieces }

-- this may be kept
pub record CanKeep (g : GatheredAt) (came : CameAt) : Type 0 where
  pub waited : IsWaitedFor g came.index
  pub rules : IsGathered (with_came g came)

-- what an action makes of a gathering
abbrev pub gathered_after : GatheredAt → List ℕ → ℕ → Outcome → GatheredAt
gathered_after g key i (Answered reply) = noted g key i reply
gathered_after g key i Abandoned = with_given_up g i

-- the gathering took last what came of the i-th fragment, for which it waited
pub record IsTaken (g : GatheredAt) (key : List ℕ) (i : ℕ) (outcome : Outcome) (now : GatheredAt) : Type 0 where
  pub rules : IsGathered g
  pub waited : IsWaitedFor g i
  pub is : now ≡ gathered_after g key i outcome

-- each fragment of the value was asked for, and none came yet
pub record AreAsked (key : List ℕ) (x : PutData) (ms : List Action) : Type 0 where
  pub fresh : (i : ℕ) → i < x.k + x.m → blob_now ms (blob_at key x i) ≡ record { asked = true; outcome = None }
  pub none : wholes key x ms ≡ []

-- this is what the call knows of the value's fragments
pub record Gathers (key : List ℕ) (ms : List Action) (g : GatheredAt) : Type 0 where
  pub asked : (i : ℕ) → i < g.value.k + g.value.m → (blob_now ms (blob_at key g.value i)).asked ≡ true
  pub fates : (i : ℕ) → i < g.value.k + g.value.m → slice_get g.fates i ≡ Some (fate_now key g.value ms i)
  pub pieces : g.pieces ≡ wholes key g.value ms

-- k fragments came whole, or something came of each
abbrev pub IsOver : GatheredAt → Type 0
IsOver g = (length g.pieces ≡ g.value.k) ⊎ All (λ (fate : Option Fate). is_some fate ≡ true) g.fates

-- each fragment of the value was asked for, fewer than k came whole, and these are their fates
pub record IsLacking (key : List ℕ) (x : PutData) (ms : List Action) (told : List Fate) : Type 0 where
  pub asked : (i : ℕ) → i < x.k + x.m → (blob_now ms (blob_at key x i)).asked ≡ true
  pub few : length (wholes key x ms) < x.k
  pub count : length told ≡ x.k + x.m
  pub fates : (i : ℕ) → i < x.k + x.m → slice_get told i ≡ fate_now key x ms i

-- what a call that gathered this answers: the object that is rebuilt from the pieces that came whole, or else the fates
abbrev pub IsAnswerOf : List ℕ → List Action → GatheredAt → Answer → Type 0
IsAnswerOf key ms g (Bytes v n bytes) =
    (v ≡ g.version) × (n ≡ g.value.name) × IsRebuilt g.value.k g.value.m g.value.length (wholes key g.value ms) bytes
IsAnswerOf key ms g (Incomplete v n fates) = (v ≡ g.version) × (n ≡ g.value.name) × IsLacking key g.value ms fates
IsAnswerOf key ms g answer = ⊥
