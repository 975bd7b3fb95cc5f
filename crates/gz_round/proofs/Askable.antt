-- Where a ballot leads no further, the site whose row shows it was just heard, and can be asked.
use Rattle.std.proofs.Common.{◌≡◌, ℕ, Bool, true, false, List, ◌∷◌, Option, Some, None, refl, sym, ap, ◌∙◌, subst, inl, inr, arith}
use Rattle.std.specs.List.{list_any}
use Rattle.std.specs.Prelude.{nat_lt}
use Rattle.std.proofs.lemmas.Bool.{cases_eq, both_ways, or_parts, ltb-false}
use Rattle.std.proofs.lemmas.Option.{none-some}
use Rattle.gz_core.specs.Names.{BallotAt}
use Rattle.gz_core.specs.Rows.{RowAt}
use Rattle.gz_config.specs.declared.Config.{Config}
use Rattle.gz_core.specs.History.{Asked, Action}
use Rattle.gz_round.specs.declared.hearing.Seen.{Seen}
use Rattle.gz_round.specs.declared.run.Run.{Run}
use Rattle.gz_round.specs.declared.run.Stage.{Stage}
use Rattle.gz_round.specs.declared.run.Stage.TheVariants.{Look, Fast, Prepare, Accept}
use Rattle.gz_round.specs.Sites.{SiteNow, site_now, after_reply, known, rows_known}
use Rattle.gz_round.specs.Rounds.{promises_above, above_known}
use Rattle.gz_round.specs.Sending.{NoneAbove}
use Rattle.gz_round.specs.Standing.{Knows}
use Rattle.gz_round.specs.Goals.{AreAskableAbove, IsOvertakenAskably, is_overtaken_in}
use Rattle.gz_round.proofs.Actions.{now_here, now_other}
use Rattle.gz_round.proofs.Stages.{Ends}
use Rattle.gz_round.proofs.Turns.{none_above_listed}

none_askable : (c : Config) (ms : List Action) (v : ℕ) (b : BallotAt) → NoneAbove c ms v b → AreAskableAbove c ms v b
none_askable c ms v b none s row l e above = absurd (both_ways (promises_above row v b) (none s row l e) above)

-- so it is while the ballot leads on
pub ahead_askable : (c : Config) (run : Run) (stage : Stage) (ms : List Action) → Knows c run ms → is_overtaken_in run stage ≡ false → IsOvertakenAskably c run stage ms
ahead_askable c run Look ms k ahead = tt
ahead_askable c run (Fast v) ms k ahead = tt
ahead_askable c run (Prepare v b found) ms k ahead =
    let parts = or_parts (nat_lt run.round b.round) (list_any (above_known v b) run.rows) ahead in
    (ltb-false run.round b.round parts.0, none_askable c ms v b (none_above_listed c run ms v b k parts.1))
ahead_askable c run (Accept v b x) ms k ahead = none_askable c ms v b (none_above_listed c run ms v b k ahead)

-- it goes on to be so where it does for each ballot
pub askably_still : (c : Config) (run new : Run) (stage : Stage) (ms ns : List Action) → new.round ≡ run.round → ((v : ℕ) (b : BallotAt) → AreAskableAbove c ms v b → AreAskableAbove c ns v b) → IsOvertakenAskably c run stage ms → IsOvertakenAskably c new stage ns
askably_still c run new Look ms ns same still h = tt
askably_still c run new (Fast v) ms ns same still h = tt
askably_still c run new (Prepare v b found) ms ns same still h = let used = h.0 in (omega arith, still v b h.1)
askably_still c run new (Accept v b x) ms ns same still h = still v b h

-- while the sites stay the same
pub askable_same : (c : Config) (ms ns : List Action) (v : ℕ) (b : BallotAt) → ((s : ℕ) → site_now ns s ≡ site_now ms s) → AreAskableAbove c ms v b → AreAskableAbove c ns v b
askable_same c ms ns v b same h s row l e above =
    let old = h s row l (sym (ap known (same s)) ∙ e) above in
    (ap (λ now. now.awaits) (same s) ∙ old.0, ap (λ now. now.changed) (same s) ∙ old.1)

askable_here : (seen : Option Seen) (changed : Bool) (now : SiteNow) (row : RowAt) → (known now ≡ Some row → ⊥) → known (after_reply seen changed now) ≡ Some row → ((after_reply seen changed now).awaits ≡ None) × ((after_reply seen changed now).changed ≡ false)
askable_here (Some seen) changed now row n e = (refl, refl)
askable_here None true now row n e = absurd (n e)
askable_here None false now row n e = absurd (none-some row e)

-- and where an awaited request ends
pub askable_ended : (c : Config) (m : Action) (ms : List Action) (at : ℕ) (seen : Option Seen) (changed : Bool) (a : Asked) (v : ℕ) (b : BallotAt) → Ends m at seen changed → (site_now ms at).awaits ≡ Some a → AreAskableAbove c ms v b → AreAskableAbove c (m ∷ ms) v b
askable_ended c m ms at seen changed a v b ends awaits h s row l e above =
    elim (cases_eq s at) [
      | inl same ↦ (
          let now_is : site_now (m ∷ ms) s ≡ after_reply seen changed (site_now ms s) = subst (λ (z : ℕ). site_now (m ∷ ms) z ≡ after_reply seen changed (site_now ms z)) (sym same) (now_here m ms at ends.here ∙ ends.after_is (site_now ms at)) in
          let unknown : rows_known ms s ≡ Some row → ⊥ = λ (k : rows_known ms s ≡ Some row). none-some a (sym (h s row l k above).0 ∙ subst (λ (z : ℕ). (site_now ms z).awaits ≡ Some a) (sym same) awaits) in
          let here = askable_here seen changed (site_now ms s) row unknown (sym (ap known now_is) ∙ e) in
          (ap (λ now. now.awaits) now_is ∙ here.0, ap (λ now. now.changed) now_is ∙ here.1))
      | inr n ↦ (
          let now_is : site_now (m ∷ ms) s ≡ site_now ms s = now_other m ms s (ends.others s n) in
          let old = h s row l (sym (ap known now_is) ∙ e) above in
          (ap (λ now. now.awaits) now_is ∙ old.0, ap (λ now. now.changed) now_is ∙ old.1))
    ]
