-- The keys of a table, one after another.
use Rattle.std.proofs.Common.{ℕ, ◌≡◌, List, [], ◌∷◌, refl}
use Rattle.std.specs.Prelude.{if◌then◌else◌, Option, Some, None, String, string_bytes}
use Rattle.std.specs.declared.alloc.Global.{Global}
use Rattle.std.specs.Map.{keys_of}
use Rattle.toml.specs.View.{members_view}
use Rattle.toml.specs.declared.value.Value.{Value}
use Rattle.gz_settings.specs.Keys.{is_setting, first_unknown}

-- the first of these keys that is that of no setting
abbrev pub unknown_among : List (String Global) → Option (List ℕ)
unknown_among [] = None
unknown_among (key ∷ keys) = if is_setting (string_bytes key) then unknown_among keys else Some (string_bytes key)

-- the keys of entries are those of the members that they stand for
pub unknown_among_keys : (entries : List (String Global × Value)) → unknown_among (keys_of entries) ≡ first_unknown (members_view entries)
unknown_among_keys [] = refl
unknown_among_keys (entry ∷ entries) = rw (unknown_among_keys entries)
