use Rattle.std.proofs.Common.{subst, sym}
use Rattle.gz_client.specs.Changes.{changed}
use Rattle.gz_client.specs.Traces.{Begins}
use Rattle.gz_world.specs.declared.turns.Moved.{Moved}
use Rattle.gz_world.proofs.Results.{if_ok_map}
use Rattle.gz_world.proofs.turns.begun.Goals as goal

pub returns-clause-holds : goal.returns-clause-holds
returns-clause-holds c = if_ok_map c.new.result _ _
    (λ moved is. subst (λ (q : Moved). Begins c.args.client.now (changed c.args.client.now q.change) c.args.first c.args.call.now q.turn) (sym is) c.in_ok-change.ensures.ok)
    c.new.ensures
