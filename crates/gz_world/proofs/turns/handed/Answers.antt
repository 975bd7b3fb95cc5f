use Rattle.std.proofs.Common.{subst, sym}
use Rattle.gz_world.specs.Steps.{hears}
use Rattle.gz_world.specs.Turns.{MovesBy}
use Rattle.gz_world.specs.declared.turns.Moved.{Moved}
use Rattle.gz_world.proofs.Results.{if_ok_map}
use Rattle.gz_world.proofs.turns.handed.Goals as goal

pub returns-clause-moves : goal.returns-clause-moves
returns-clause-moves c = if_ok_map c.new.result _ _
    (λ moved is. subst (λ (q : Moved). MovesBy c.args.client.now c.args.n c.args.first (hears c.args.client.now.config.n c.args.reply.now) q.change q.turn) (sym is)
    (record { extends = c.in_ok-change.ensures.ok; same = c.in_ok-change.ensures.client; can = c.in_ok-change.ensures.can }))
    c.new.ensures
