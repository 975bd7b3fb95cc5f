-- The values of versions.
use Rattle.gz_core.specs.Names.{Name}
use Rattle.gz_core.specs.declared.values.Value.{Value}
use Rattle.gz_core.specs.declared.values.Value.TheVariants.{Tomb, Put}

-- the name of the put or delete that writes the value
abbrev pub name_of : Value → Name
name_of (Tomb name) = name
name_of (Put put) = put.name
