-- Why a write is refused: since the reply was made that showed its call the tag that it expects, another write of the row
-- on that tag was performed at the site.
use Rattle.std.specs.Prelude.{ℕ, ◌≡◌, ◌≤◌, ◌<◌, ◌+◌, ◌⊎◌, Bool, true, false, List, length, Option, Some, None, IsSome, slice_get}
use Rattle.gz_core.specs.Rows.{RowAt}
use Rattle.gz_core.specs.declared.requests.Op.{Op}
use Rattle.gz_core.specs.declared.requests.Op.TheVariants.{WriteRow}
use Rattle.gz_core.specs.declared.requests.Reply.{Reply}
use Rattle.gz_core.specs.declared.requests.Reply.TheVariants.{Row, NoRow, Written, Changed, Failed}
use Rattle.gz_core.specs.declared.requests.RowStep.{RowStep}
use Rattle.gz_site.specs.Told.{Told, etag_of}
use Rattle.gz_laws.specs.Runs.{key_asked}
use Rattle.gz_world.specs.States.{RequestAt, State, numbered}

-- the tag of the row that a reply shows, which is none for a row that isn't there; nothing where it shows no row
abbrev pub tag_shown : Reply → Option (Option ℕ)
tag_shown (Row etag row) = Some (Some etag)
tag_shown NoRow = Some None
tag_shown (Written etag) = Some (Some etag)
tag_shown reply = None

-- whether an operation is a write of this object's row on this tag
abbrev pub IsWriteOf : Op → List ℕ → Option ℕ → Type 0
IsWriteOf (WriteRow key expect step row) k tag = (key ≡ k) × (expect ≡ tag)
IsWriteOf op k tag = ⊥

-- whether a write with this reply was performed: one that failed may have been
abbrev pub may_be_performed : Reply → Bool
may_be_performed (Written etag) = true
may_be_performed Failed = true
may_be_performed reply = false

-- a reply that was made to a request, and its tick
pub record IsReplyAt (net : List RequestAt) (number : ℕ) (r : RequestAt) (place tick : ℕ) (reply : Reply) : Type 0 where
  pub request : numbered net number ≡ Some r
  pub made : slice_get r.replies place ≡ Some (tick, reply)

-- the object's row at the site, which stood under this tag, was written between two ticks
pub record IsWrittenBetween (net : List RequestAt) (key : List ℕ) (tag : Option ℕ) (site from until : ℕ) : Type 0 where
  pub number : ℕ
  pub request : RequestAt
  pub place : ℕ
  pub tick : ℕ
  pub reply : Reply
  pub made : IsReplyAt net number request place tick reply
  pub at : request.site ≡ site
  pub writes : IsWriteOf request.op key tag
  pub performed : may_be_performed reply ≡ true
  pub after : from < tick
  pub before : tick < until

-- a reply that showed the request's call this tag of its object's row at the site, and that was made at the tick
pub record IsShownTag (net : List RequestAt) (r : RequestAt) (key : List ℕ) (expect : Option ℕ) (from : ℕ) : Type 0 where
  pub number : ℕ
  pub request : RequestAt
  pub place : ℕ
  pub reply : Reply
  pub made : IsReplyAt net number request place from reply
  pub own : request.name ≡ r.name
  pub at : request.site ≡ r.site
  pub about : key_asked request.op ≡ key
  pub tag : tag_shown reply ≡ Some expect

-- whatever reply showed the tag that a write expects, of whichever call's request, the row was written on that tag after
-- the reply was made, and before this tick
abbrev pub IsOvertakenAt : List RequestAt → RequestAt → List ℕ → Option ℕ → ℕ → Type 0
IsOvertakenAt net r key expect tick =
    (m place from : ℕ) (q : RequestAt) (reply : Reply) → IsReplyAt net m q place from reply → q.site ≡ r.site → key_asked q.op ≡ key → tag_shown reply ≡ Some expect → from < tick → IsWrittenBetween net key expect r.site from tick

-- a write goes out on a tag that a reply showed to its call before
abbrev pub IsOnShownTag : List RequestAt → RequestAt → Type 0
IsOnShownTag net r = (key : List ℕ) (expect : Option ℕ) (step : RowStep) (row : RowAt) → r.op ≡ WriteRow key expect step row → (from : ℕ) × (IsShownTag net r key expect from × (from < r.tick))

-- the tag that a reply showed is that of the row that stands, or the row was written since, on that tag
abbrev pub StandsOrWritten : State → ℕ → RequestAt → ℕ → Option ℕ → Type 0
StandsOrWritten s ticks r tick tag = (told : Told) → s.sites r.site ≡ Some told → (etag_of (told.rows (key_asked r.op)) ≡ tag) ⊎ IsWrittenBetween s.net (key_asked r.op) tag r.site tick (ticks + 1)

-- requests were sent, and replies made, at ticks that have passed, each reply after its request; where its site tells what it holds, the tag that it showed stands or the
-- row was written since, and a write is refused as overtaken only where it was
pub record AreOvertakenBy (ticks : ℕ) (s : State) : Type 0 where
  pub sent : (n : ℕ) (r : RequestAt) → numbered s.net n ≡ Some r → IsOnShownTag s.net r
  pub asked : (n : ℕ) (r : RequestAt) → numbered s.net n ≡ Some r → r.tick ≤ ticks
  pub made : (n place tick : ℕ) (r : RequestAt) (reply : Reply) → IsReplyAt s.net n r place tick reply → (r.tick < tick) × (tick ≤ ticks)
  pub stands : (n place tick : ℕ) (r : RequestAt) (reply : Reply) (tag : Option ℕ) → IsReplyAt s.net n r place tick reply → tag_shown reply ≡ Some tag → StandsOrWritten s ticks r tick tag
  pub changed : (n place tick : ℕ) (r : RequestAt) (key : List ℕ) (expect : Option ℕ) (step : RowStep) (row : RowAt) → IsReplyAt s.net n r place tick Changed → r.op ≡ WriteRow key expect step row → IsSome (s.sites r.site) → IsOvertakenAt s.net r key expect tick

abbrev pub AreOvertaken : State → Type 0
AreOvertaken s = AreOvertakenBy (length s.journal) s
