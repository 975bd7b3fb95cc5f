-- What holds of each row of a world.
use Rattle.std.specs.Prelude.{ℕ, ◌≡◌, List, Option, Some, None, slice_get}
use Rattle.gz_core.specs.Rows.{RowAt}
use Rattle.gz_core.specs.declared.requests.Op.{Op}
use Rattle.gz_core.specs.declared.requests.Op.TheVariants.{WriteRow}
use Rattle.gz_core.specs.declared.requests.Reply.{Reply}
use Rattle.gz_core.specs.declared.requests.Reply.TheVariants.{Row}
use Rattle.gz_site.specs.Told.{Told}
use Rattle.gz_world.specs.States.{RequestAt, State, numbered}

-- what holds of a row that a site keeps, of one that a request writes, and of one that a reply shows
abbrev pub IfKept : (RowAt → Type 0) → Option (ℕ × RowAt) → Type 0
IfKept P None = Unit {0}
IfKept P (Some kept) = P kept.1

abbrev pub IfWritten : (RowAt → Type 0) → Op → Type 0
IfWritten P (WriteRow key expect step row) = P row
IfWritten P op = Unit {0}

abbrev pub IfShown : (RowAt → Type 0) → Reply → Type 0
IfShown P (Row etag row) = P row
IfShown P reply = Unit {0}

-- of all rows of a world
pub record EachRow (P : RowAt → Type 0) (s : State) : Type 0 where
  pub sites : (i : ℕ) (told : Told) (key : List ℕ) → s.sites i ≡ Some told → IfKept P (told.rows key)
  pub requests : (n : ℕ) (r : RequestAt) → numbered s.net n ≡ Some r → IfWritten P r.op
  pub replies : (n place tick : ℕ) (r : RequestAt) (reply : Reply) → numbered s.net n ≡ Some r → slice_get r.replies place ≡ Some (tick, reply) → IfShown P reply
