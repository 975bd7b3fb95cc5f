-- How far the rows of a world go: no version is above the number of events, and no round above the number of requests, nor
-- above the number of sites for each event. No value has a fragment elsewhere than at a site. So no row is beyond the
-- bounds on rows that no run can hold.
use Rattle.std.specs.Prelude.{ℕ, ◌≡◌, ◌≤◌, true, List, [], ◌∷◌, Some, slice_get}
use Rattle.gz_core.specs.Names.{BallotAt}
use Rattle.gz_core.specs.Rows.{RowAt, IsRow}
use Rattle.gz_core.specs.declared.rows.Column.{Column}
use Rattle.gz_core.specs.declared.rows.Column.TheVariants.{Open, Decided}
use Rattle.gz_core.specs.declared.requests.Op.{Op}
use Rattle.gz_core.specs.declared.requests.Reply.{Reply}
use Rattle.gz_core.specs.History.{Trace}
use Rattle.gz_round.specs.Sent.{has_promised_at, top_round}
use Rattle.gz_round.specs.Sites.{can_stand, as_heard, written_by}
use Rattle.gz_laws.specs.Each.{EachTrace}
use Rattle.gz_laws.specs.Rows.{EachRow}
use Rattle.gz_world.specs.States.{RequestAt, State, numbered}

-- no promise of a round above this one
abbrev pub IsColumnWithin : ℕ → Column → Type 0
IsColumnWithin rounds (Open promise vote) = promise.round ≤ rounds
IsColumnWithin rounds (Decided value) = Unit {0}

-- and no version above another number
abbrev pub AreColumnsWithin : ℕ → ℕ → List (ℕ × Column) → Type 0
AreColumnsWithin versions rounds [] = Unit {0}
AreColumnsWithin versions rounds (c ∷ cs) = (c.0 ≤ versions) × (IsColumnWithin rounds c.1 × AreColumnsWithin versions rounds cs)

pub record IsRowWithin (versions rounds : ℕ) (row : RowAt) : Type 0 where
  pub rule : IsRow row
  pub columns : AreColumnsWithin versions rounds row.columns

-- a call promised no ballot of a round above this one, and none at a version above the other number
pub record ArePromisesWithin (versions rounds : ℕ) (t : Trace) : Type 0 where
  pub rounds_low : top_round t.actions ≤ rounds
  pub versions_low : (v : ℕ) (b : BallotAt) → has_promised_at t.actions v b ≡ true → v ≤ versions

pub record AreWithin (versions rounds : ℕ) (s : State) : Type 0 where
  pub rows : EachRow (IsRowWithin versions rounds) s
  pub traces : (session : ℕ) → EachTrace (ArePromisesWithin versions rounds) (s.traces session)

-- a call over n sites hears a reply of its request as it was made
abbrev pub IsHeard : ℕ → Op → Reply → Type 0
IsHeard n op reply = as_heard n (written_by op) reply ≡ reply

-- each row is one that a run can hold, and each reply is heard as it was made
pub record CanStand (s : State) : Type 0 where
  pub rows : EachRow (λ row. can_stand s.cfg.n row ≡ true) s
  pub heard : (n place tick : ℕ) (r : RequestAt) (reply : Reply) → numbered s.net n ≡ Some r → slice_get r.replies place ≡ Some (tick, reply) → IsHeard s.cfg.n r.op reply
