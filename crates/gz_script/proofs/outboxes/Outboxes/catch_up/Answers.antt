use Rattle.std.proofs.Common.{◌+◌, map, subst}
use Rattle.gz_world.specs.States.{request_of}
use Rattle.gz_script.specs.Outboxes.{IsAppended}
use Rattle.gz_script.proofs.Listing.{list_next, next_there}
use Rattle.gz_script.proofs.outboxes.Outboxes.catch_up.Goals as goal

pub loop-self-preserved : goal.loop-self-preserved
loop-self-preserved c =
    let old = c.loop-self.self in
    let new = c.put.new.self in
    let request = c.index-net-self.result in
    list_next old new (map request_of c.args.net.now) (request_of request) c.loop-self.invariant (next_there c.args.net.now old.seen request c.loop-self-test.true c.index-net-self.is)
    c.in_ok-put.ensures.seen (subst (λ session. IsAppended old.lists.items session (old.seen + 1) new.lists.items) c.asker.ensures c.in_ok-put.ensures.put)
