-- The keys of a configuration's text.
use Rattle.std.specs.Prelude.{ℕ, ◌||◌, Bool, nat_eq, if◌then◌else◌, List, Option, Some, None, codes}
use Rattle.std.specs.Cmp.Lexicographic.{pointwise}
use Rattle.toml.specs.Data.{Members, no_members, member}
use Rattle.gz_settings.specs.declared.setting.Setting.{Setting}
use Rattle.gz_settings.specs.declared.setting.Setting.TheVariants.{N, Qc, Qf, K, M, F, Tries, Order}

-- the key of a setting
abbrev pub key_text : Setting → List ℕ
key_text N = codes "n"
key_text Qc = codes "qc"
key_text Qf = codes "qf"
key_text K = codes "k"
key_text M = codes "m"
key_text F = codes "f"
key_text Tries = codes "tries"
key_text Order = codes "order"

-- the key is that of a setting
abbrev pub is_key : List ℕ → Setting → Bool
is_key key setting = pointwise nat_eq key (key_text setting)

abbrev pub is_setting : List ℕ → Bool
is_setting key = is_key key N || is_key key Qc || is_key key Qf || is_key key K || is_key key M || is_key key F || is_key key Tries || is_key key Order

-- the first key that is that of no setting; the keys of a table ascend by their bytes
abbrev pub first_unknown : Members → Option (List ℕ)
first_unknown no_members = None
first_unknown (member key value rest) = if is_setting key then first_unknown rest else Some key
