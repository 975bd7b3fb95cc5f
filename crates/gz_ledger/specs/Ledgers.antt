-- The machine of agreement on one object: acceptors at sites, rows that were shown, writes that were sent. A write
-- that is lost is never taken, a late or repeated one is taken where the row still is the one it was made on.
use Rattle.std.specs.Prelude.{ℕ, ◌≡◌, Bool, ◌&&◌, ◌||◌, not, List, [], ◌∷◌, ◌++◌}
use Rattle.gz_core.specs.Names.{Name, BallotAt}
use Rattle.gz_core.specs.Slots.{Makes}
use Rattle.gz_config.specs.declared.Config.{Config}
use Rattle.gz_model.specs.Choosing.{Votes}
use Rattle.gz_ledger.specs.Acceptors.{Acceptor, new_acceptor, with_acceptor, slot_votes, slot_voted, slot_lets, slot_backs}
use Rattle.gz_ledger.specs.Histories.{IsIn, RowSeen, Write, cast, cast_in}
use Rattle.gz_ledger.specs.Guards.{May}

-- the row of each site, the rows that were shown, and the writes that were sent, the newest first
pub record Ledger : Type 0 where
  pub told : ℕ → Acceptor
  pub seen : List RowSeen
  pub sent : List Write

-- nothing has happened
abbrev pub new_ledger : Ledger
new_ledger = record { told = λ s. new_acceptor; seen = []; sent = [] }

-- a site's row is shown, a write is sent, a write takes effect
pub data Move : Type 0 where
  Shows : ℕ → Move
  Sends : Write → Move
  Takes : Write → Move

-- a site's row
abbrev pub row_of : Ledger → ℕ → RowSeen
row_of l s = record { site = s; row = l.told s }

-- what a move makes of the ledger
abbrev pub moved : Ledger → Move → Ledger
moved l (Shows s) = record { told = l.told; seen = row_of l s ∷ l.seen; sent = l.sent }
moved l (Sends w) = record { told = l.told; seen = l.seen; sent = w ∷ l.sent }
moved l (Takes w) = record { told = with_acceptor l.told w.site w.after; seen = l.seen; sent = l.sent }

-- a write may be sent that makes its step on a row that was shown, within the guards
pub record CanSend (cfg : Config) (l : Ledger) (w : Write) : Type 0 where
  pub shown : let e : RowSeen = record { site = w.site; row = w.before } in IsIn e l.seen
  pub makes : Makes w.act w.before w.after
  pub may : May cfg l.seen l.sent w.call w.act

-- a move may happen: a write takes effect only where the row is the one it was made on
abbrev pub Can : Config → Ledger → Move → Type 0
Can cfg l (Shows s) = Unit {0}
Can cfg l (Sends w) = CanSend cfg l w
Can cfg l (Takes w) = IsIn w l.sent × (l.told w.site ≡ w.before)

-- the ledger after these moves, the newest first
abbrev pub after_moves : List Move → Ledger
after_moves [] = new_ledger
after_moves (m ∷ ms) = moved (after_moves ms) m

-- each of the moves could happen when it did
abbrev pub AreMoves : Config → List Move → Type 0
AreMoves cfg [] = Unit {0}
AreMoves cfg (m ∷ ms) = AreMoves cfg ms × Can cfg (after_moves ms) m

-- whether a site voted so at a version: its row says so, or one of its rows that was shown
abbrev pub votes : Ledger → ℕ → Votes
votes l v b x s = slot_votes (l.told s v) b x || cast l.seen v b x s

-- whether a site voted in a ballot at a version
abbrev pub site_voted : Ledger → ℕ → BallotAt → ℕ → Bool
site_voted l v b s = slot_voted (l.told s v) b || cast_in l.seen v b s

-- whether a site stands for a value in a ballot at a version: it voted so, or did not vote and may yet
abbrev pub standing_votes : Ledger → ℕ → Votes
standing_votes l v b x s = votes l v b x s || (not (site_voted l v b s) && slot_lets (l.told s v) b)

-- whether a site's row backs a value at a version
abbrev pub backs : Ledger → ℕ → Name → ℕ → Bool
backs l v x s = slot_backs (l.told s v) x

-- the rows that the late ones of these moves showed
abbrev pub late_seen : List Move → List Move → List RowSeen
late_seen [] early = []
late_seen (Shows s ∷ late) early = row_of (after_moves (late ++ early)) s ∷ late_seen late early
late_seen (Sends w ∷ late) early = late_seen late early
late_seen (Takes w ∷ late) early = late_seen late early
