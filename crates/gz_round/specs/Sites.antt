-- What a call knows of each site, as of now: the last row that it heard there, whether that row was overtaken
-- since, whether the site is out for the call, and the request that is awaited from it.
use Rattle.std.specs.Prelude.{ℕ, ◌≡◌, ◌⊎◌, Bool, true, false, ◌&&◌, ◌||◌, ◌==◌, ◌^◌, nat_lt, if◌then◌else◌, List, [], ◌∷◌, length, Option, Some, None}
use Rattle.std.specs.List.{list_all}
use Rattle.gz_core.specs.Rows.{RowAt, empty_row}
use Rattle.gz_core.specs.declared.fragments.FragRef.{FragRef}
use Rattle.gz_core.specs.declared.values.Value.{Value}
use Rattle.gz_core.specs.declared.values.Value.TheVariants.{Tomb, Put}
use Rattle.gz_core.specs.declared.rows.Vote.{Vote}
use Rattle.gz_core.specs.declared.rows.Column.{Column}
use Rattle.gz_core.specs.declared.rows.Column.TheVariants.{Open, Decided}
use Rattle.gz_core.specs.declared.requests.Op.{Op}
use Rattle.gz_core.specs.declared.requests.Op.TheVariants.{WriteRow}
use Rattle.gz_core.specs.declared.requests.Reply.{Reply}
use Rattle.gz_core.specs.declared.requests.Reply.TheVariants.{Row, NoRow, Written, Changed, Failed}
use Rattle.gz_round.specs.declared.hearing.Seen.{Seen}
use Rattle.gz_core.specs.History.{Asked, Action, Sent, Handed, GaveUp, Rested, GaveIn, is_row_request}

-- a fragment at one of n sites
abbrev pub fragment_stands : ℕ → FragRef → Bool
fragment_stands n fragment = nat_lt fragment.site n

-- a value with no fragment elsewhere
abbrev pub value_stands : ℕ → Value → Bool
value_stands n (Tomb name) = true
value_stands n (Put put) = list_all (fragment_stands n) put.fragments

abbrev pub vote_stands : ℕ → Option Vote → Bool
vote_stands n None = true
vote_stands n (Some vote) = value_stands n vote.value

-- such a value, and a promise below the rounds that no run reaches
abbrev pub column_stands : ℕ → Column → Bool
column_stands n (Open promise vote) = nat_lt promise.round (2 ^ 31) && vote_stands n vote
column_stands n (Decided value) = value_stands n value

-- the same at a version that a run can reach
abbrev pub entry_stands : ℕ → ℕ × Column → Bool
entry_stands n c = nat_lt c.0 (2 ^ 62) && column_stands n c.1

-- a row that a run over n sites can hold: no version or floor of 2^62 or more, no round of 2^31 or more, fewer than 2^22
-- columns, and no value with a fragment at a site that isn't below n
abbrev pub can_stand : ℕ → RowAt → Bool
can_stand n row = nat_lt row.floor (2 ^ 62) && (nat_lt (length row.columns) (2 ^ 22) && list_all (entry_stands n) row.columns)

-- the row that a request writes
abbrev pub written_by : Op → Option RowAt
written_by (WriteRow key expect step row) = Some row
written_by op = None

-- a row that no run over n sites can hold isn't heard: the reply that shows it is heard as a failure
abbrev pub if_it_stands : ℕ → RowAt → Reply → Reply
if_it_stands n row reply = if can_stand n row then reply else Failed

-- a reply as a call over n sites hears it, where this is the row that its request writes
abbrev pub as_heard : ℕ → Option RowAt → Reply → Reply
as_heard n written (Row etag row) = if_it_stands n row (Row etag row)
as_heard n (Some row) (Written etag) = if_it_stands n row (Written etag)
as_heard n written reply = reply

abbrev pub seen_written : ℕ → Option RowAt → Option Seen
seen_written etag None = None
seen_written etag (Some row) = Some (record { etag = Some etag; row = row })

-- the row that a reply shows: that of a read, the empty one where there is none, and the one that was sent once it is written
abbrev pub seen_in : Option RowAt → Reply → Option Seen
seen_in written (Row etag row) = Some (record { etag = Some etag; row = row })
seen_in written NoRow = Some (record { etag = None; row = empty_row })
seen_in written (Written etag) = seen_written etag written
seen_in written reply = None

-- the reply of a write that was overtaken
abbrev pub is_changed : Reply → Bool
is_changed Changed = true
is_changed reply = false

-- a site as the call knows it
pub record SiteNow : Type 0 where
  pub row : Option Seen
  pub changed : Bool
  pub out : Bool
  pub awaits : Option Asked
  pub unanswered : Bool

abbrev pub unheard : SiteNow
unheard = record { row = None; changed = false; out = false; awaits = None; unanswered = false }

-- a reply with a row is the site's last row from now on; Changed overtakes it; any other reply puts the site out
abbrev pub after_reply : Option Seen → Bool → SiteNow → SiteNow
after_reply (Some seen) changed now = record { row = Some seen; changed = false; out = now.out; awaits = None; unanswered = false }
after_reply None true now = record { row = now.row; changed = true; out = now.out; awaits = None; unanswered = false }
after_reply None false now = record { row = now.row; changed = now.changed; out = true; awaits = None; unanswered = false }

abbrev pub after_sent : Asked → SiteNow → SiteNow
after_sent a now = if a.awaited then record { row = now.row; changed = now.changed; out = now.out; awaits = Some a; unanswered = true } else now

-- what an action that concerns a site makes of it
abbrev pub after : Action → SiteNow → SiteNow
after (Sent a) now = after_sent a now
after (Handed a reply) now = after_reply (seen_in (written_by a.op) reply) (is_changed reply) now
after (GaveUp a) now = record { row = now.row; changed = now.changed; out = true; awaits = None; unanswered = false }
after Rested now = record { row = now.row; changed = now.changed; out = now.out; awaits = None; unanswered = now.unanswered }
after GaveIn now = record { row = now.row; changed = now.changed; out = true; awaits = None; unanswered = now.unanswered }

-- whether a request is a row request to this site
abbrev pub is_to : Asked → ℕ → Bool
is_to a s = is_row_request a.op && (a.site == s)

-- whether an action is about rows, and not of a request for a blob
abbrev pub is_about_rows : Action → Bool
is_about_rows (Sent a) = is_row_request a.op
is_about_rows (Handed a reply) = is_row_request a.op
is_about_rows (GaveUp a) = is_row_request a.op
is_about_rows Rested = true
is_about_rows GaveIn = true

-- whether an action says what came of a row request: its reply, or that none is waited for any more
abbrev pub tells_of_row : Action → Bool
tells_of_row (Sent a) = false
tells_of_row (Handed a reply) = is_row_request a.op
tells_of_row (GaveUp a) = is_row_request a.op
tells_of_row Rested = false
tells_of_row GaveIn = false

-- what happened up to the last such action
abbrev pub up_to_rows : List Action → List Action
up_to_rows [] = []
up_to_rows (m ∷ ms) = if tells_of_row m then m ∷ ms else up_to_rows ms

-- each action is of a request for a blob
abbrev pub AreBlobs : List Action → Type 0
AreBlobs [] = Unit {0}
AreBlobs (m ∷ ms) = (is_about_rows m ≡ false) × AreBlobs ms

-- whether an action concerns what is known of a site: resting and giving in concern all
abbrev pub concerns : Action → ℕ → Bool
concerns (Sent a) s = is_to a s
concerns (Handed a reply) s = is_to a s
concerns (GaveUp a) s = is_to a s
concerns Rested s = true
concerns GaveIn s = true

-- the site as of now
abbrev pub site_now : List Action → ℕ → SiteNow
site_now [] s = unheard
site_now (m ∷ ms) s = if concerns m s then after m (site_now ms s) else site_now ms s

abbrev pub row_seen : Option Seen → Option RowAt
row_seen None = None
row_seen (Some seen) = Some seen.row

-- the row that the call goes by: the last one heard, none where the site is out
abbrev pub known : SiteNow → Option RowAt
known now = if now.out then None else row_seen now.row

-- the row that the call goes by of each site
abbrev pub rows_known : List Action → ℕ → Option RowAt
rows_known ms s = known (site_now ms s)

-- the row that is heard at an action: only a reply of a row request shows one
abbrev pub heard_in : Action → Option Seen
heard_in (Sent a) = None
heard_in (Handed a reply) = if is_row_request a.op then seen_in (written_by a.op) reply else None
heard_in (GaveUp a) = None
heard_in Rested = None
heard_in GaveIn = None

abbrev pub passes : (RowAt → Bool) → Option Seen → Bool
passes p None = false
passes p (Some seen) = p seen.row

-- whether some row that was heard from a site passes a test
abbrev pub some_heard : (RowAt → Bool) → List Action → ℕ → Bool
some_heard p [] s = false
some_heard p (m ∷ ms) s = (passes p (heard_in m) && concerns m s) || some_heard p ms s

-- a row was heard from a site
abbrev pub WasHeard : List Action → ℕ → RowAt → Type 0
WasHeard [] s row = ⊥
WasHeard (m ∷ ms) s row = ((seen : Seen) × (concerns m s ≡ true) × (heard_in m ≡ Some seen) × (seen.row ≡ row)) ⊎ WasHeard ms s row
