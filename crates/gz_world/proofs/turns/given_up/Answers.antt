use Rattle.std.proofs.Common.{subst, sym}
use Rattle.gz_core.specs.History.{GaveUp}
use Rattle.gz_world.specs.Turns.{MovesBy}
use Rattle.gz_world.specs.declared.turns.Moved.{Moved}
use Rattle.gz_world.proofs.Results.{if_ok_map}
use Rattle.gz_world.proofs.turns.given_up.Goals as goal

pub returns-clause-moves : goal.returns-clause-moves
returns-clause-moves c = if_ok_map c.new.result _ _
    (λ moved is. subst (λ (q : Moved). MovesBy c.args.client.now c.args.n c.args.first (λ a. GaveUp a) q.change q.turn) (sym is)
    (record { extends = c.in_ok-change.ensures.ok; same = c.in_ok-change.ensures.client; can = c.in_ok-change.ensures.can }))
    c.new.ensures
