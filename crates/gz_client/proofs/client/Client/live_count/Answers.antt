use Rattle.std.proofs.Common.{true, sym}
use Rattle.gz_client.proofs.Holding.{idle_over, live_over}
use Rattle.gz_client.proofs.Live.{live_told}
use Rattle.gz_client.proofs.client.Client.live_count.Goals as goal

pub returns-in-None : goal.returns-in-None
returns-in-None c = λ next ts h. sym (live_over c.args.self.now.config (λ m. true) ts (idle_over c.args.self.now.config next c.args.self.now.running ts c.in-None.is h.run_is))

pub returns-in-Some : goal.returns-in-Some
returns-in-Some c = λ next ts h. live_told c.args.self.now c.in-Some.running c.count_live.result next ts c.in-Some.is c.count_live.ensures h
