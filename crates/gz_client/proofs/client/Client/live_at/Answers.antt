use Rattle.gz_client.proofs.Holding.{idle_over, live_at_over}
use Rattle.gz_client.proofs.Apart.{live_at_told}
use Rattle.gz_client.proofs.client.Client.live_at.Goals as goal

pub returns-in-None : goal.returns-in-None
returns-in-None c = λ next ts h. live_at_over c.args.self.now.config ts c.args.i (idle_over c.args.self.now.config next c.args.self.now.running ts c.in-None.is h.run_is)

pub returns-in-Some : goal.returns-in-Some
returns-in-Some c = λ next ts h. live_at_told c.args.self.now c.in-Some.running c.args.i next c.live_in.result ts c.in-Some.is c.live_in.ensures h
