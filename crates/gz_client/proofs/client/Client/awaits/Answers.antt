use Rattle.std.proofs.Common.{◌==◌, ◌∙◌, sym, ap, subst}
use Rattle.std.specs.Prelude.{nat_lt}
use Rattle.gz_client.specs.Traces.{HoldsRun}
use Rattle.gz_client.proofs.Holding.{idle_over, live_over}
use Rattle.gz_client.proofs.Live.{kept_is_live}
use Rattle.gz_client.proofs.client.Client.awaits.Goals as goal

pub returns-in-Some : goal.returns-in-Some
returns-in-Some c = λ next ts h. c.any_awaits.ensures ∙ ap (nat_lt 0) (kept_is_live c.args.self.now.config next (λ m. m == c.args.n) c.in-Some.running ts (subst (λ r. HoldsRun c.args.self.now.config next r ts) c.in-Some.is h.run_is))

pub returns-in-None : goal.returns-in-None
returns-in-None c = λ next ts h. ap (nat_lt 0) (sym (live_over c.args.self.now.config (λ m. m == c.args.n) ts (idle_over c.args.self.now.config next c.args.self.now.running ts c.in-None.is h.run_is)))
