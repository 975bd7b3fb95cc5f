use Rattle.std.proofs.Common.{◌≡◌, ◌+◌, ◌∷◌, [], ◌∙◌, sym, ap, subst, refl, length, length-append}
use Rattle.gz_world.specs.Fits.{FitsBy}
use Rattle.gz_world.specs.Told.{IsReported}
use Rattle.gz_world.proofs.Performing.{fits_journal}
use Rattle.gz_world.proofs.world.World.enter.Goals as goal

pub returns-clause-told : goal.returns-clause-told
returns-clause-told g c =
    let old = c.args.self.now in
    let n : length c.push_reserved.new.self.items ≡ length old.journal.items + 1 = ap length c.push_reserved.ensures.items ∙ length-append old.journal.items (c.entry_of-entry.result ∷ []) in (
      c.entry_of-entry.result,
      (
        (λ traces fits. (
          subst (λ q. FitsBy q traces (record old { journal = c.push_reserved.new.self })) (sym n) (fits_journal (length old.journal.items + 1) traces old (record old { journal = c.push_reserved.new.self }) fits refl refl refl refl refl refl),
          record {
            entry_is = c.entry_of-entry.ensures.is (length old.journal.items + 1) traces fits;
            journal = c.push_reserved.ensures.items;
            cfg = refl;
            sites = record { sites = λ i. refl; casts = refl };
            sessions = record { sessions = refl; crashed = λ s. refl; traces = λ s. refl; calls = refl };
            net = refl;
            held = refl;
          },
        )),
        subst (λ q. IsReported q c.entry_of-entry.result c.args.effect c.told_of-applied.result) (c.next_tick-tick.ensures ∙ sym n) (c.told_of-applied.ensures c.args.effect refl),
      ),
    )

pub returns-clause-outcome : goal.returns-clause-outcome
returns-clause-outcome g c = (c.told_of-applied.ensures c.args.effect refl).outcome_is ∙ c.entry_of-entry.ensures.outcome
