-- A call that begins stands for nothing having happened.
use Rattle.std.proofs.Common.{◌≡◌, ℕ, ◌<◌, List, [], length, Option, Some, None, refl, sym, arith}
use Rattle.std.specs.List.{slice_get}
use Rattle.std.proofs.lemmas.Option.{none-some}
use Rattle.gz_core.specs.Names.{Name}
use Rattle.gz_core.specs.Rows.{RowAt}
use Rattle.gz_core.specs.Calls.{key_of}
use Rattle.gz_core.specs.declared.values.Value.{Value}
use Rattle.gz_config.specs.declared.Config.{Config}
use Rattle.gz_round.specs.declared.run.Mark.{Mark}
use Rattle.gz_round.specs.declared.run.Target.{Target}
use Rattle.gz_core.specs.History.{Asked, Caller, Trace}
use Rattle.gz_round.specs.Rounds.{top_rounds}
use Rattle.gz_round.specs.Targets.{target_of}
use Rattle.gz_round.specs.Standing.{IsNamed, WritesLatest}
use Rattle.gz_round.specs.Following.{Ready}
use Rattle.gz_round.specs.Starting.{fresh_mark, idle_run}
use Rattle.gz_round.proofs.Notices.{none_noticed}

pub start_ready : (c : Config) (w : Caller) (past : List Trace) (name : Name) (key : List ℕ) (target : Target) (own : Option Value) (rows : List (Option RowAt)) (marks : List Mark) (round : ℕ) → w.name ≡ name → key_of w.call ≡ key → target_of w.call ≡ target → w.own ≡ own → IsNamed w.name w.own → WritesLatest w → top_rounds past ≡ round →
    length rows ≡ c.n → ((s : ℕ) → s < c.n → slice_get rows s ≡ Some None) → length marks ≡ c.n → ((s : ℕ) → s < c.n → slice_get marks s ≡ Some fresh_mark) →
    Ready c w past (idle_run name key target own round rows marks) []
start_ready c w past name key target own rows marks round name_is key_is target_is own_is named writes round_is rows_len rows_none marks_len marks_fresh = record {
  stands = record {
    name_is = sym name_is;
    key_is = sym key_is;
    target_is = sym target_is;
    own_is = sym own_is;
    named = named;
    writes = writes;
    knows = record { rows_len = rows_len; marks_len = marks_len; rows = rows_none; marks = marks_fresh };
    met_is = refl;
    vote_is = refl;
    wrote_is = refl;
    round_is = omega (arith, round_is);
    sites = λ (s : ℕ). record { inside = λ (a : Asked) (e : None ≡ Some a). absurd (none-some a e); answered = refl };
    allowed = tt;
  };
  stage = (refl, refl);
  unnoticed = none_noticed;
  above = tt;
}
