use Rattle.gz_client.proofs.LiveRequests.{lowest_is}
use Rattle.gz_client.proofs.client.Client.lowest_live.Goals as goal

pub returns : goal.returns
returns c = λ next ts h. lowest_is c.args.self.now.config ts c.live_at.result (c.live_at.ensures next ts h)
