-- The answers of calls that were overtaken too often, or have too few sites left.
use Rattle.std.proofs.Common.{ℕ, ◌+◌, ◌<◌, ◌≤◌, List, is_some, sym, ◌∙◌, subst, inl, inr, arith}
use Rattle.std.specs.List.{count_by}
use Rattle.std.proofs.lemmas.Bool.{cases_Bool, cond-true, cond-false}
use Rattle.gz_core.specs.declared.calls.Answer.TheVariants.{NoQuorum, Contended, Unsure}
use Rattle.gz_core.specs.declared.calls.UnsureWhy.TheVariants.{NoQuorum as UnsureNoQuorum, Contended as UnsureContended}
use Rattle.gz_config.specs.declared.Config.{Config}
use Rattle.gz_round.specs.declared.run.Run.{Run}
use Rattle.gz_core.specs.History.{Action, Caller, Trace}
use Rattle.gz_round.specs.Counting.{outs}
use Rattle.gz_round.specs.Causes.{EndsBy, IsCutOff, IsOvertaken}
use Rattle.gz_round.specs.Standing.{Stands}
use Rattle.gz_round.specs.Acting.{contended_of, cut_off_of}
use Rattle.gz_round.proofs.Known.{known_counted}
use Rattle.gz_round.proofs.Votes.{voted_is}

-- a call that was overtaken as often as it tries
pub contended_cause : (c : Config) (w : Caller) (past : List Trace) (run : Run) (ms : List Action) → Stands c w past run ms → c.tries ≤ run.met → EndsBy c w ms (contended_of run)
contended_cause c w past run ms h often =
    let met_is = h.met_is in
    let overtaken : IsOvertaken c ms run.met = (omega arith, met_is) in
    elim (cases_Bool (is_some run.last_vote)) [
      | inl e ↦ subst (EndsBy c w ms) (sym (cond-true (is_some run.last_vote) (Unsure (UnsureContended run.met)) (Contended run.met) e)) (sym (voted_is c w past run ms h) ∙ e, overtaken)
      | inr e ↦ subst (EndsBy c w ms) (sym (cond-false (is_some run.last_vote) (Unsure (UnsureContended run.met)) (Contended run.met) e)) (sym (voted_is c w past run ms h) ∙ e, overtaken)
    ]

-- a call with too few sites left
pub cut_off_cause : (c : Config) (w : Caller) (past : List Trace) (run : Run) (ms : List Action) → Stands c w past run ms → run.met < c.tries → c.n < outs c ms + c.qc → EndsBy c w ms (cut_off_of run)
cut_off_cause c w past run ms h few lost =
    let met_is = h.met_is in
    let heard : ℕ = count_by (λ row. is_some row) run.rows in
    let cut : IsCutOff c ms run.wrote (count_by (λ row. is_some row) run.rows) = record { few = omega arith; lost = lost; phase_is = h.wrote_is; heard_is = known_counted c run ms h.knows } in
    elim (cases_Bool (is_some run.last_vote)) [
      | inl e ↦ subst (EndsBy c w ms) (sym (cond-true (is_some run.last_vote) (Unsure (UnsureNoQuorum run.wrote (count_by (λ row. is_some row) run.rows))) (NoQuorum run.wrote (count_by (λ row. is_some row) run.rows)) e)) (sym (voted_is c w past run ms h) ∙ e, cut)
      | inr e ↦ subst (EndsBy c w ms) (sym (cond-false (is_some run.last_vote) (Unsure (UnsureNoQuorum run.wrote (count_by (λ row. is_some row) run.rows))) (NoQuorum run.wrote (count_by (λ row. is_some row) run.rows)) e)) (sym (voted_is c w past run ms h) ∙ e, cut)
    ]
