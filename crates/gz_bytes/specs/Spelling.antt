-- How fields that records share are written. Numbers are big-endian.
use Rattle.std.specs.Prelude.{ℕ, ◌^◌, ◌<◌, ◌≤◌, List, ◌++◌}
use Rattle.std.specs.Int.{w32, to_be_bytes}
use Rattle.gz_core.specs.Names.{Name}

-- the two numbers of a put's name
abbrev pub name_bytes : Name → List ℕ
name_bytes name = to_be_bytes w32 name.session ++ to_be_bytes w32 name.seq

-- the rules of a put's name
pub record IsName (name : Name) : Type 0 where
  pub from_one : 1 ≤ name.session
  pub session_fits : name.session < 2 ^ 32
  pub counted : 1 ≤ name.seq
  pub seq_fits : name.seq < 2 ^ 32
