use Rattle.std.proofs.Common.{◌≡◌, Some, IsSome, IfSome, refl, sym, ◌∙◌, subst}
use mathlib.Core.Option.{some-injective}
use Rattle.gz_lock.specs.Histories.{StandsFor}
use Rattle.gz_lock.proofs.Ends.{closes}
use Rattle.gz_lock.proofs.lock.Lock.close.Goals as goal

pub value_of-requires : goal.value_of-requires
value_of-requires g c = let last = c.close_with-closed.ensures.values.2 in let known = closes g.V.Turned.past g.V.Turned.stands g.V.Turned.kept c.args.self.table.shared.key c.args.seat.id c.args.seat.me.0 last.0 last.1.0 last.1.1
    c.requires.rests.is_live c.requires.rests.is_idle c.requires.parts in
    let is : Some known.0 ≡ c.take-cell.result = some-injective _ _ (sym (last.4 0 (Some known.0) known.1) ∙ c.take-cell.ensures.value) in subst IsSome is refl

pub returns-clause-value : goal.returns-clause-value
returns-clause-value g c = let last = c.close_with-closed.ensures.values.2 in let known = closes g.V.Turned.past g.V.Turned.stands g.V.Turned.kept c.args.self.table.shared.key c.args.seat.id c.args.seat.me.0 last.0 last.1.0 last.1.1
    c.requires.rests.is_live c.requires.rests.is_idle c.requires.parts in
    let is : Some known.0 ≡ c.take-cell.result = some-injective _ _ (sym (last.4 0 (Some known.0) known.1) ∙ c.take-cell.ensures.value) in
    let same : known.0.value ≡ c.value_of.result = subst (λ cell. IfSome cell (λ held. held.value ≡ c.value_of.result)) (sym is) c.value_of.ensures in
    subst (λ value. StandsFor g.V.Turned.past g.V.Turned.stands g.V.Turned.kept value c.args.seat.me.0.seen) same known.2

pub returns-clause-first : goal.returns-clause-first
returns-clause-first g c = let last = c.close_with-closed.ensures.values.2 in let known = closes g.V.Turned.past g.V.Turned.stands g.V.Turned.kept c.args.self.table.shared.key c.args.seat.id c.args.seat.me.0 last.0 last.1.0 last.1.1
    c.requires.rests.is_live c.requires.rests.is_idle c.requires.parts in (known.3, known.4)
