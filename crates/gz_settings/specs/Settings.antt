-- Which configuration a text gives, and why it gives none.
use Rattle.std.specs.Prelude.{ℕ, ℤ, pos, negsuc, nat_eq, nat_le, if◌then◌else◌, List, Option, Some, None, option_and_then, Result, Ok, Err, codes}
use Rattle.std.specs.Cmp.Lexicographic.{pointwise}
use Rattle.std.specs.Str.{is_utf8}
use Rattle.gz_config.specs.Configurations.{check_of}
use Rattle.gz_config.specs.declared.Config.{Config}
use Rattle.gz_config.specs.declared.ConfigError.{ConfigError}
use Rattle.gz_config.specs.declared.Order.{Order}
use Rattle.gz_config.specs.declared.Order.TheVariants.{Parallel, BlobsFirst}
use Rattle.toml.specs.Data.{Data, Members, get_member, as_integer, as_str}
use Rattle.toml.specs.Parse.{parse_document}
use Rattle.gz_settings.specs.declared.refusal.ConfigText.{ConfigText}
use Rattle.gz_settings.specs.declared.refusal.ConfigText.TheVariants.{NotToml, UnknownKey, Kind, Rule}
use Rattle.gz_settings.specs.declared.setting.Setting.{Setting}
use Rattle.gz_settings.specs.declared.setting.Setting.TheVariants as settings
use Rattle.gz_settings.specs.Keys.{key_text, first_unknown}

-- what follows from a value, unless it was refused
abbrev pub with_setting : {A B : Type 0} → Result A ConfigText → (A → Result B ConfigText) → Result B ConfigText
with_setting (Ok value) next = next value
with_setting (Err why) next = Err why

-- the value of a setting, or the refusal of one of another kind
abbrev pub or_kind : {A : Type 0} → Setting → Option A → Result A ConfigText
or_kind setting None = Err (Kind setting)
or_kind setting (Some value) = Ok value

-- a size is an integer from 0 to 65535
abbrev pub size_within : ℤ → Option ℕ
size_within (pos n) = if nat_le n 65535 then Some n else None
size_within (negsuc n) = None

abbrev pub size_of : Data → Option ℕ
size_of value = option_and_then size_within (as_integer value)

abbrev pub size_at : Setting → ℕ → Option Data → Result ℕ ConfigText
size_at setting default None = Ok default
size_at setting default (Some value) = or_kind setting (size_of value)

-- the size of a setting, which has a default
abbrev pub size_in : Setting → ℕ → Members → Result ℕ ConfigText
size_in setting default table = size_at setting default (get_member (key_text setting) table)

-- the names of the orders
abbrev pub order_named : List ℕ → Option Order
order_named name =
    if pointwise nat_eq name (codes "parallel") then Some Parallel
    else (if pointwise nat_eq name (codes "blobs-first") then Some BlobsFirst else None)

abbrev pub order_of : Data → Option Order
order_of value = option_and_then order_named (as_str value)

abbrev pub order_at : Option Data → Result Order ConfigText
order_at None = Ok Parallel
order_at (Some value) = or_kind settings.Order (order_of value)

abbrev pub order_in : Members → Result Order ConfigText
order_in table = order_at (get_member (key_text settings.Order) table)

-- the configuration that the settings make: they are tried in this order, and these are their defaults
abbrev pub config_in : Members → Result Config ConfigText
config_in table =
    with_setting (size_in settings.N 3 table) (λ n.
    with_setting (size_in settings.Qc 2 table) (λ qc.
    with_setting (size_in settings.Qf 3 table) (λ qf.
    with_setting (size_in settings.K 2 table) (λ k.
    with_setting (size_in settings.M 1 table) (λ m.
    with_setting (size_in settings.F 0 table) (λ f.
    with_setting (size_in settings.Tries 8 table) (λ tries.
    with_setting (order_in table) (λ order.
    Ok (record { n = n; qc = qc; qf = qf; k = k; m = m; f = f; tries = tries; order = order })))))))))

-- a configuration that keeps the rules
abbrev pub or_rule : Config → Result (Unit {0}) ConfigError → Result Config ConfigText
or_rule config (Ok done) = Ok config
or_rule config (Err why) = Err (Rule why)

abbrev pub checked : Result Config ConfigText → Result Config ConfigText
checked found = with_setting found (λ config. or_rule config (check_of config))

-- the configuration of a table, of which each key must be known
abbrev pub of_known : Members → Option (List ℕ) → Result Config ConfigText
of_known table None = checked (config_in table)
of_known table (Some key) = Err (UnknownKey key)

abbrev pub config_of : Members → Result Config ConfigText
config_of table = of_known table (first_unknown table)

-- the table of a text, which is UTF-8 and a document of TOML
abbrev pub table_of : List ℕ → Option Members
table_of bytes = if is_utf8 bytes then parse_document bytes else None

abbrev pub of_table : Option Members → Result Config ConfigText
of_table None = Err NotToml
of_table (Some table) = config_of table

-- the configuration of a text, or the first reason why it gives none
abbrev pub read_of : List ℕ → Result Config ConfigText
read_of bytes = of_table (table_of bytes)
