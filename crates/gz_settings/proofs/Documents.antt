-- The table of a text, by what its reader tells.
use Rattle.std.proofs.Common.{ℕ, ◌≡◌, List, refl}
use Rattle.std.specs.Prelude.{Bool, true, false, if◌then◌else◌, Option, Some, None}
use Rattle.std.specs.Str.{IsUtf8, is_utf8}
use Rattle.std.proofs.lemmas.Str.{IsUtf8-from_is_utf8, is_utf8-from_IsUtf8}
use Rattle.toml.specs.Data.{Members}
use Rattle.toml.specs.Parse.{parse_document}
use Rattle.gz_settings.specs.Settings.{table_of}

-- a document that was read is the text's table
pub table_of-read : (bytes : List ℕ) (table : Members) → IsUtf8 bytes → parse_document bytes ≡ Some table → table_of bytes ≡ Some table
table_of-read bytes table utf8 read = rw (is_utf8-from_IsUtf8 bytes utf8) read

none-where : (b : Bool) (o : Option Members) → (b ≡ true → o ≡ None) → (if b then o else None) ≡ None
none-where true o h = h refl
none-where false o h = refl

-- a text that is no document, or no UTF-8, has no table
pub table_of-refused : (bytes : List ℕ) → (IsUtf8 bytes → parse_document bytes ≡ None) → table_of bytes ≡ None
table_of-refused bytes refused = none-where (is_utf8 bytes) (parse_document bytes) (λ h. refused (IsUtf8-from_is_utf8 bytes h))
