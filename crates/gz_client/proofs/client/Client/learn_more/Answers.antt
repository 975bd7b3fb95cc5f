use Rattle.gz_client.proofs.client.Client.learn_more.Goals as goal

pub returns-in-Some-Placed-clause-ok : goal.returns-in-Some-Placed-clause-ok
returns-in-Some-Placed-clause-ok c = c.learn_placed.ensures.ok c.args.first
