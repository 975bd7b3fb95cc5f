-- What a put writes.
use Rattle.std.specs.Prelude.{ℕ, ◌≡◌, ◌≤◌, ◌+◌, List}
use Rattle.std.specs.Prelude.{length as list_length}
use Rattle.gz_core.specs.Names.{Name}
use Rattle.gz_core.specs.declared.fragments.FragRef.{FragRef}

-- the put's name, the object's length, how many of its fragments are data and how many parity, and each fragment by its index
pub record PutData : Type 0 where
  pub name : Name
  pub length : ℕ
  pub k : ℕ
  pub m : ℕ
  pub fragments : List FragRef

-- the rules of what a put writes
pub record IsPutData (put : PutData) : Type 0 where
  pub bounded : put.length ≤ 1048576
  pub some : 1 ≤ put.k
  pub few : put.k + put.m ≤ 16
  pub count : list_length put.fragments ≡ put.k + put.m
