-- The rules of a configuration. (Lamport 2006, "Fast Paxos", section 2.3.)
use Rattle.std.specs.Prelude.{ℕ, ◌<◌, ◌≤◌, ◌+◌, ◌*◌, ◌||◌, ◌==◌, nat_lt, nat_le, if◌then◌else◌, Result, Ok, Err}
use Rattle.gz_config.specs.declared.Config.{Config}
use Rattle.gz_config.specs.declared.ConfigError.{ConfigError}
use Rattle.gz_config.specs.declared.ConfigError.TheVariants.{SiteCount, ClassicQuorum, FastQuorum, Pieces, Spare, Tries}

-- the first broken rule, in this order
abbrev pub check_of : Config → Result (Unit {0}) ConfigError
check_of c =
    if (c.n == 0) || nat_lt 16 c.n then Err SiteCount
    else (if nat_le (2 * c.qc) c.n || nat_lt c.n c.qc then Err ClassicQuorum
    else (if nat_lt c.qf c.qc || nat_lt c.n c.qf || nat_le (2 * c.qf + c.qc) (2 * c.n) then Err FastQuorum
    else (if (c.k == 0) || nat_lt c.n (c.k + c.m) then Err Pieces
    else (if nat_lt c.m c.f then Err Spare
    else (if (c.tries == 0) || nat_lt 1000 c.tries then Err Tries
    else Ok tt)))))

-- two classic quorums meet, and a classic quorum meets two fast ones at one site
pub record AreQuorums (n qc qf : ℕ) : Type 0 where
  pub majority : n < 2 * qc
  pub classic : qc ≤ qf
  pub fast : qf ≤ n
  pub triple : 2 * n < 2 * qf + qc

-- every rule of a configuration
pub record IsConfig (c : Config) : Type 0 where
  pub some : 1 ≤ c.n
  pub sites : c.n ≤ 16
  pub quorums : AreQuorums c.n c.qc c.qf
  pub split : 1 ≤ c.k
  pub pieces : c.k + c.m ≤ c.n
  pub spare : c.f ≤ c.m
  pub again : 1 ≤ c.tries
  pub tries : c.tries ≤ 1000
