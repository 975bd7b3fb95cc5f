use Rattle.std.proofs.Common.{rules, ◌∷◌, Some, sym, ap, ◌∙◌}
use Rattle.atomic_table.specs.Table.{rest}
use Rattle.gz_lock.proofs.steps.take_out.Goals as goal

pub exchange-requires : goal.exchange-requires
exchange-requires g c = let holds = c.requires.holds in (search rules, (Some holds.held, holds.cell ∙ ap (λ l. (0, Some holds.held) ∷ l) (sym (ap rest holds.cell))))
