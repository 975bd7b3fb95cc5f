use Rattle.std.proofs.Common.{ℕ, List}
use Rattle.gz_pick.specs.declared.heard.Heard.{Heard}
use Rattle.gz_model.proofs.Choices.{one_is_forced, pick_forced, pick_free}
use Rattle.gz_model.proofs.laws.one_forced.Goals as goal

pub returns-clause-one : goal.returns-clause-one
returns-clause-one c = one_is_forced

pub returns-clause-exact : goal.returns-clause-exact
returns-clause-exact c = λ (n qf : ℕ) (heard : List Heard). (pick_forced n qf heard, pick_free n qf heard)
