use Rattle.std.proofs.Common.{Option, List, ap}
use Rattle.gz_core.specs.declared.fates.Fate.{Fate}
use Rattle.gz_data.specs.Whole.{pieces_of}
use Rattle.gz_data.specs.Gathered.{GatheredAt}
use Rattle.gz_data.proofs.Gathers.{gathers_less}
use Rattle.gz_data.proofs.gathering.Gathering.give_up.Goals as goal

pub returns-clause-gathers : goal.returns-clause-gathers
returns-clause-gathers c key ms a op gathers =
    let held = c.self.inside in
    let at : List (Option Fate) → GatheredAt = λ fates. record { version = held.version; value = held.value; fates = fates; pieces = pieces_of held.pieces.items } in
    gathers_less key ms (at held.fates) c.args.self.now (at c.set.new.self) c.args.index a c.self.view_is c.self.invariant.0 c.requires (ap at c.set.ensures) op gathers
