use Rattle.std.proofs.Common.{ap, sym, inr}
use Rattle.toml.specs.Errors.{IsMemory}
use Rattle.toml.specs.View.{table_view}
use Rattle.gz_settings.specs.Settings.{of_table}
use Rattle.gz_settings.proofs.Documents.{table_of-read, table_of-refused}
use Rattle.gz_settings.proofs.read.read_config.Goals as goal

pub returns-in-Ok-clause-exact : goal.returns-in-Ok-clause-exact
returns-in-Ok-clause-exact c =
    let read = table_of-read c.args.bytes.now (table_view c.in-Ok.table) c.in-Ok.ensures.ok.0 c.in-Ok.ensures.ok.1 in
    rw read c.config_of.ensures.exact

pub returns-in-Err-2-clause-exact : goal.returns-in-Err-2-clause-exact
returns-in-Err-2-clause-exact c =
    let other : ¬ IsMemory c.in-Err.error = λ m. cc (c.is_memory.ensures.1 m) in
    let refused = table_of-refused c.args.bytes.now (c.in-Err.ensures.refused other) in
    inr (sym (ap of_table refused))
