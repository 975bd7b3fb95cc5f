-- The bytes of an object's key.
use Rattle.std.specs.Prelude.{ℕ, ◌≤◌, List, length}
use Rattle.std.specs.List.{All}

-- a printable character of ASCII that is no blank
abbrev pub IsKeyByte : ℕ → Type 0
IsKeyByte b = (0x21 ≤ b) × (b ≤ 0x7e)

-- 1 to 255 such bytes
pub record IsKey (bytes : List ℕ) : Type 0 where
  pub some : 1 ≤ length bytes
  pub bounded : length bytes ≤ 255
  pub printable : All IsKeyByte bytes
