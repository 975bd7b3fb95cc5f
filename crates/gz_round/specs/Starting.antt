-- How a call begins.
use Rattle.std.specs.Prelude.{ℕ, ◌≡◌, ◌≤◌, ◌<◌, ◌+◌, zero, suc, Bool, true, false, List, [], ◌∷◌, length, slice_get, Option, Some, None}
use Rattle.std.specs.List.{All}
use Rattle.gz_core.specs.Names.{Name}
use Rattle.gz_core.specs.Rows.{RowAt}
use Rattle.gz_core.specs.declared.values.Value.{Value}
use Rattle.gz_core.specs.declared.calls.Call.{Call}
use Rattle.gz_core.specs.declared.calls.Call.TheVariants.{Put, Delete, Get, GetAt, Collect}
use Rattle.gz_core.specs.History.{is_row_request}
use Rattle.gz_core.specs.declared.requests.Op.{Op}
use Rattle.gz_core.specs.declared.requests.Op.TheVariants.{ReadRow, WriteRow}
use Rattle.gz_core.specs.declared.requests.Out.{Out}
use Rattle.gz_core.specs.declared.calls.Phase.TheVariants.{Look as NotBegun}
use Rattle.gz_round.specs.declared.run.Mark.{Mark}
use Rattle.gz_round.specs.declared.run.Run.{Run}
use Rattle.gz_round.specs.Sent.{is_notice}
use Rattle.gz_round.specs.declared.outcome.Outcome.{Outcome}
use Rattle.gz_round.specs.declared.outcome.Outcome.TheVariants.{Goes, Placed, Learnt, Ends}
use Rattle.gz_round.specs.declared.run.Stage.TheVariants.{Look}
use Rattle.gz_round.specs.declared.run.Target.{Target}

-- an object's bytes are within the bound, and a version that is asked for is one; no call of this store collects versions yet
abbrev pub IsWithin : Call → Type 0
IsWithin (Put key bytes) = length bytes ≤ 1048576
IsWithin (Delete key) = Unit {0}
IsWithin (Get key) = Unit {0}
IsWithin (GetAt key version) = 1 ≤ version
IsWithin (Collect key keep) = ⊥

-- a site of which nothing is known
abbrev pub fresh_mark : Mark
fresh_mark = record { etag = None; changed = false; out = false; left = None; awaited = None }

-- a call that has done nothing, over these sites
abbrev pub idle_run : Name → List ℕ → Target → Option Value → ℕ → List (Option RowAt) → List Mark → Run
idle_run name key target own round rows marks = record {
  name = name;
  key = key;
  target = target;
  own = own;
  rows = rows;
  marks = marks;
  met = 0;
  last_vote = None;
  wrote = NotBegun;
  round = round;
  stage = Look;
}

-- nothing is known of a site, and nothing was asked of it
abbrev pub IsUnread : Run → ℕ → Type 0
IsUnread run s = (slice_get run.rows s ≡ Some None) × (slice_get run.marks s ≡ Some fresh_mark)

-- nothing is of n sites
abbrev pub AreUnread : ℕ → Run → Type 0
AreUnread n run = (s : ℕ) → s < n → IsUnread run s

-- the requests that read the rows of n sites, the first of which has this number
abbrev pub reads_from : List ℕ → ℕ → ℕ → List Out
reads_from key s zero = []
reads_from key s (suc n) = record { site = s; op = ReadRow key; awaited = true } ∷ reads_from key (s + 1) n

-- requests for rows alone
abbrev pub AreForRows : List Out → Type 0
AreForRows outs = All (λ (out : Out). is_row_request out.op ≡ true) outs

-- the sites of requests rise from one to the next, and none lies below this one
abbrev pub SitesRise : ℕ → List Out → Type 0
SitesRise s [] = Unit {0}
SitesRise s (out ∷ outs) = (s ≤ out.site) × SitesRise (out.site + 1) outs

-- what a call sends about rows at one event: requests for rows alone, at most one to each of sixteen sites, in the order of the sites
pub record AreRowRequests (outs : List Out) : Type 0 where
  pub rows : AreForRows outs
  pub rising : SitesRise 0 outs
  pub few : length outs ≤ 16

-- whether a request reads a row, or tells a decision
abbrev pub is_read_or_notice : Op → Bool
is_read_or_notice (ReadRow key) = true
is_read_or_notice (WriteRow key expect step row) = is_notice step
is_read_or_notice op = false

-- requests that make no further step: they read, or tell what is chosen
abbrev pub MakeNoStep : List Out → Type 0
MakeNoStep outs = All (λ (out : Out). is_read_or_notice out.op ≡ true) outs

-- whether a request reads a row
abbrev pub is_read : Op → Bool
is_read (ReadRow key) = true
is_read op = false

-- requests that read alone
abbrev pub ReadAlone : List Out → Type 0
ReadAlone outs = All (λ (out : Out). is_read out.op ≡ true) outs

-- what a call sends as its rows come to something: it reads, and where its own value is placed it also tells that
abbrev pub SendsLast : Outcome → List Out → Type 0
SendsLast Goes outs = Unit {0}
SendsLast (Placed v) outs = MakeNoStep outs
SendsLast (Learnt v x) outs = ReadAlone outs
SendsLast (Ends answer) outs = ReadAlone outs
