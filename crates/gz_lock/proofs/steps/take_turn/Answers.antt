use Rattle.std.proofs.Common.{rules, ◌≡◌, ℕ, [], ◌∷◌, ◌++◌, None, Some, refl, sym, ap, ◌∙◌, subst}
use Rattle.gz_lock.specs.Histories.{StandsFor, taken_turn}
use Rattle.gz_lock.specs.Rule.{IsAtTurn}
use Rattle.gz_lock.specs.Seats.{with_state}
use Rattle.gz_lock.specs.Steps.{held_of, IsCounted}
use Rattle.gz_lock.specs.declared.views.SeatView.{SeatView}
use Rattle.gz_lock.specs.declared.views.Held.{Held}
use Rattle.gz_lock.specs.declared.views.Last.{Last}
use Rattle.gz_lock.proofs.TurnSteps.{counts}
use Rattle.gz_lock.proofs.TurnFacts.{stands_after_turn, stands_after_none}
use Rattle.gz_lock.proofs.steps.take_turn.Goals as goal

pub fetch_add-requires : goal.fetch_add-requires
fetch_add-requires g c = let past = g.V.Turned.past in let stands = g.V.Turned.stands in let kept = g.V.Turned.kept in let table = c.args.table.now in let k = c.args.seat.now.me.0 in let back = c.put_back.new.seat in
    let last : Last g.row.V-Entry.Denot g.row.V-Reply.Denot = record { entry = c.of-asked.result; reply = c.of.result } in let held : Held g.row.V.Denot g.row.V-Entry.Denot g.row.V-Reply.Denot = held_of c.turn.new.self (Some last) in
    let view : back.me.0 ≡ k = ap (λ m. m.0) c.put_back.ensures.cell ∙ ap (λ m. m.0) c.take_out-value.ensures.cell in let took = c.in-Ok.ensures.ok in
    let fits = stands_after_turn past stands kept c.take_out-value.result.value c.turn.new.self k.seen k.number c.args.entry c.in-Ok.reply c.take_out-value.ensures.value took c.in-Ok.ensures.kept in
    let asked : c.of-asked.result.value ≡ c.args.entry = c.of-asked.ensures in let replied : c.of.result.value ≡ c.in-Ok.reply = c.of.ensures in (
      search rules,
      search rules,
      counts past stands kept table.key table.table_id.slots back.id c.requires.served.2.0 back.me held last took.grew (ap (λ k. k.live) view ∙ c.requires.served.0) (ap (λ k. k.state) view ∙ c.requires.served.2.1)
          (ap (λ m. m.1) c.put_back.ensures.cell) refl
          (subst (λ (z : SeatView g.row.V-Entry.Denot g.row.V-Reply.Denot × g.row.V-Entry.Denot × g.row.V-Reply.Denot). StandsFor past stands kept c.turn.new.self (z.0.seen ++ taken_turn z.0.number z.1 z.2 took.grew ∷ []))
          (λ i. (sym view i, sym asked i, sym replied i)) fits),
    )

pub returns-in-Ok-clause-ok : goal.returns-in-Ok-clause-ok
returns-in-Ok-clause-ok g c = let k = c.args.seat.now.me.0 in let back = c.put_back.new.seat in let ticket : ℕ = c.requires.served.2.0 in
    let last : Last g.row.V-Entry.Denot g.row.V-Reply.Denot = record { entry = c.of-asked.result; reply = c.of.result } in let held : Held g.row.V.Denot g.row.V-Entry.Denot g.row.V-Reply.Denot = held_of c.turn.new.self (Some last) in
    let view : back.me.0 ≡ k = ap (λ m. m.0) c.put_back.ensures.cell ∙ ap (λ m. m.0) c.take_out-value.ensures.cell in
    let asked : c.of-asked.result.value ≡ c.args.entry = c.of-asked.ensures in let replied : c.of.result.value ≡ c.in-Ok.reply = c.of.ensures in
    let told = c.fetch_add.ensures.2 ticket held last (ap (λ k. k.state) view ∙ c.requires.served.2.1) (ap (λ m. m.1) c.put_back.ensures.cell) refl in (
      ticket,
      subst (λ (z : SeatView g.row.V-Entry.Denot g.row.V-Reply.Denot × g.row.V-Entry.Denot × g.row.V-Reply.Denot). IsCounted g.V.Turned.past g.V.Turned.stands g.V.Turned.kept z.0 ticket z.1 z.2 c.fetch_add.new.seat.me)
          (λ i. (view i, asked i, replied i)) told,
    )

pub returns-in-Ok-clause-holds : goal.returns-in-Ok-clause-holds
returns-in-Ok-clause-holds g c = let k = c.args.seat.now.me.0 in let back = c.put_back.new.seat in let ticket : ℕ = c.requires.served.2.0 in
    let last : Last g.row.V-Entry.Denot g.row.V-Reply.Denot = record { entry = c.of-asked.result; reply = c.of.result } in let held : Held g.row.V.Denot g.row.V-Entry.Denot g.row.V-Reply.Denot = held_of c.turn.new.self (Some last) in
    let view : back.me.0 ≡ k = ap (λ m. m.0) c.put_back.ensures.cell ∙ ap (λ m. m.0) c.take_out-value.ensures.cell in
    let told = c.fetch_add.ensures.2 ticket held last (ap (λ k. k.state) view ∙ c.requires.served.2.1) (ap (λ m. m.1) c.put_back.ensures.cell) refl in
    (ap (λ k. k.live) told.view ∙ (ap (λ k. k.live) view ∙ c.requires.served.0), told.view ∙ (λ i. with_state (view i) (sym (ap (λ k. k.state) told.view) i) (sym (ap (λ k. k.seen) told.view) i)), subst IsAtTurn (sym (ap (λ k. k.state) told.view)) tt, told.holds)

pub returns-in-Err-clause-err : goal.returns-in-Err-clause-err
returns-in-Err-clause-err g c = ap (λ m. m.0) c.put_back-in-Err.ensures.cell ∙ ap (λ m. m.0) c.take_out-value.ensures.cell

pub returns-in-Err-clause-holds : goal.returns-in-Err-clause-holds
returns-in-Err-clause-holds g c = let past = g.V.Turned.past in let stands = g.V.Turned.stands in let kept = g.V.Turned.kept in let k = c.args.seat.now.me.0 in let back = c.put_back-in-Err.new.seat in
    let view : back.me.0 ≡ k = ap (λ m. m.0) c.put_back-in-Err.ensures.cell ∙ ap (λ m. m.0) c.take_out-value.ensures.cell in
    let fits = stands_after_none past stands kept c.take_out-value.result.value c.turn.new.self k.seen c.take_out-value.ensures.value c.in-Err.ensures.err c.in-Err.ensures.kept in (
      ap (λ k. k.live) view ∙ c.requires.served.0,
      view ∙ (λ i. with_state k (sym view i).state (sym view i).seen),
      subst IsAtTurn (sym (ap (λ k. k.state) view ∙ c.requires.served.2.1)) tt,
      record {
        held = held_of c.turn.new.self None;
        cell = ap (λ m. m.1) c.put_back-in-Err.ensures.cell;
        stands_for = subst (λ (k : SeatView g.row.V-Entry.Denot g.row.V-Reply.Denot). StandsFor past stands kept c.turn.new.self k.seen) (sym view) fits;
      },
    )
