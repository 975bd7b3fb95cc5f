-- Names of calls, and ballots with their order. (Lamport 2006, "Fast Paxos".)
use Rattle.std.specs.Prelude.{ℕ, ◌≤◌, Bool, ◌&&◌, ◌||◌, ◌==◌, nat_lt}

-- the name of a call: its session, and its number within the session
pub record Name : Type 0 where
  pub session : ℕ
  pub seq : ℕ

-- a ballot: its round, and the session that draws it
pub record BallotAt : Type 0 where
  pub round : ℕ
  pub session : ℕ

-- the one fast ballot
abbrev pub fast : BallotAt
fast = record { round = 0; session = 0 }

-- a ballot that a session draws
abbrev pub IsClassic : BallotAt → Type 0
IsClassic b = (1 ≤ b.round) × (1 ≤ b.session)

-- whether a ballot stands before another
abbrev pub is_below : BallotAt → BallotAt → Bool
is_below a b = nat_lt a.round b.round || ((a.round == b.round) && nat_lt a.session b.session)

-- whether two ballots are the same one
abbrev pub same_ballot : BallotAt → BallotAt → Bool
same_ballot a b = (a.round == b.round) && (a.session == b.session)

-- whether two names are the same one
abbrev pub same_name : Name → Name → Bool
same_name x y = (x.session == y.session) && (x.seq == y.seq)
