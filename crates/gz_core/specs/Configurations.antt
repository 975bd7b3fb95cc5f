-- What the sizes of quorums ask of a ballot's votes. (Lamport 2006, "Fast Paxos", section 2.3.)
use Rattle.std.specs.Prelude.{ℕ, if◌then◌else◌}
use Rattle.gz_core.specs.Names.{BallotAt, fast, same_ballot}
pub use Rattle.gz_config.specs.Configurations.{check_of, AreQuorums, IsConfig}

-- how many votes choose a value in a ballot: a fast quorum's in the fast one, a classic quorum's in another
abbrev pub need : ℕ → ℕ → BallotAt → ℕ
need qc qf b = if same_ballot b fast then qf else qc
