-- A call that asked for a fragment answers by the fragments of the one value that it learnt.
use Rattle.std.specs.Prelude.{ℕ, true, ◌≡◌, ◌≢◌, ◌<◌, List, [], ◌∷◌, length, Option, Some, None, slice_get}
use Rattle.gz_config.specs.declared.Config.{Config}
use Rattle.gz_core.specs.Awaiting.{awaiting, without_rows}
use Rattle.gz_core.specs.Blobs.{BlobAt}
use Rattle.gz_core.specs.Calls.{key_of}
use Rattle.gz_core.specs.Puts.{PutData}
use Rattle.gz_core.specs.declared.calls.Answer.{Answer}
use Rattle.gz_core.specs.declared.calls.Answer.TheVariants.{Bytes, Incomplete}
use Rattle.gz_core.specs.declared.fragments.FragRef.{FragRef}
use Rattle.gz_core.specs.declared.requests.Op.{Op}
use Rattle.gz_core.specs.declared.requests.Op.TheVariants.{GetBlob}
use Rattle.gz_core.specs.declared.values.Value.TheVariants.{Put as PutOf}
use Rattle.gz_core.specs.History.{Action, Sent, Trace}
use Rattle.gz_data.specs.Blobs.{blob_at, wholes}
use Rattle.gz_data.specs.Gathered.{IsLacking}
use Rattle.gz_data.specs.Whole.{ArePieces, IsRebuilt}
use Rattle.gz_round.specs.Causes.{IsLearnt}
use Rattle.gz_client.specs.Blobs.{has_fetched}
use Rattle.gz_laws.specs.Each.{EachTrace}
use Rattle.gz_world.specs.States.{State}

-- a fragment of this value of the object, at the site that the value names for it
pub record IsFragmentOf (key : List ℕ) (x : PutData) (site : ℕ) (b : BlobAt) : Type 0 where
  pub is : b ≡ blob_at key x b.index
  pub fragment : FragRef
  pub there : slice_get x.fragments b.index ≡ Some fragment
  pub site_is : site ≡ fragment.site

abbrev pub FetchesOf : List ℕ → PutData → ℕ → Op → Type 0
FetchesOf key x site (GetBlob b) = IsFragmentOf key x site b
FetchesOf key x site op = Unit {0}

-- each fragment that a call asked for is one of this value
abbrev pub AllFetchOf : List ℕ → PutData → List Action → Type 0
AllFetchOf key x [] = Unit {0}
AllFetchOf key x (Sent a ∷ ms) = FetchesOf key x a.site a.op × AllFetchOf key x ms
AllFetchOf key x (m ∷ ms) = AllFetchOf key x ms

-- the call runs while fewer fragments came whole than make the object and one is awaited; it answers with the bytes where so many came
-- whole, and as incomplete, with the fate of each fragment, where fewer did and none is awaited
abbrev pub AnswersBy : List ℕ → ℕ → PutData → List Action → Option Answer → Type 0
AnswersBy key v x ms None = (length (wholes key x ms) < x.k) × (without_rows (awaiting ms) ≢ [])
AnswersBy key v x ms (Some (Bytes u name bytes)) = (u ≡ v) × (name ≡ x.name) × IsRebuilt x.k x.m x.length (wholes key x ms) bytes
AnswersBy key v x ms (Some (Incomplete u name fates)) = (u ≡ v) × (name ≡ x.name) × IsLacking key x ms fates × (without_rows (awaiting ms) ≡ [])
AnswersBy key v x ms (Some answer) = ⊥

-- the call learnt one value, at one version: it asked for fragments of this value alone, those that came whole are of as many fragments of
-- it, and the call answers by them
pub record GathersOne (c : Config) (t : Trace) : Type 0 where
  pub version : ℕ
  pub value : PutData
  pub learnt : IsLearnt c t.caller t.actions version (PutOf value)
  pub fetched : AllFetchOf (key_of t.caller.call) value t.actions
  pub pieces : ArePieces value (wholes (key_of t.caller.call) value t.actions)
  pub answered : AnswersBy (key_of t.caller.call) version value t.actions t.answer

-- an answer that speaks of fragments
abbrev pub IsOfPieces : Option Answer → Type 0
IsOfPieces (Some (Bytes v name bytes)) = Unit {0}
IsOfPieces (Some (Incomplete v name fates)) = Unit {0}
IsOfPieces answer = ⊥

-- a call that asked for a fragment gathers one value, and each call asked for one whose answer speaks of fragments
pub record IsByPieces (c : Config) (t : Trace) : Type 0 where
  pub gathers : has_fetched t.actions ≡ true → GathersOne c t
  pub fetched : IsOfPieces t.answer → has_fetched t.actions ≡ true

abbrev pub AreByPieces : State → Type 0
AreByPieces s = (session : ℕ) → EachTrace (IsByPieces s.cfg) (s.traces session)
