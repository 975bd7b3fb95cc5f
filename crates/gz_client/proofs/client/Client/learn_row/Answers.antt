use Rattle.std.proofs.Common.{◌≡◌, ◌∷◌, subst}
use Rattle.std.specs.Option.{option_copied}
use Rattle.std.proofs.lemmas.Result.{IfOk-weaker}
use Rattle.gz_round.specs.Phases.{GoesFrom}
use Rattle.gz_round.specs.declared.outcome.Outcome.TheVariants.{Goes}
use Rattle.gz_round.specs.declared.run.Stage.{Stage}
use Rattle.gz_client.specs.Changes.{changed}
use Rattle.gz_client.specs.Traces.{CanLearn, told_of}
use Rattle.gz_client.specs.declared.client.Client.{Client}
use Rattle.gz_client.proofs.Extending.{extended}
use Rattle.gz_client.proofs.RowTold.{about, told_site, can_hear, later_round, row_followed}
use Rattle.gz_client.proofs.client.Client.learn_row.Goals as goal

pub site_of-at-requires : goal.site_of-at-requires
site_of-at-requires c = told_site c.args.self.now c.args.run.now c.args.puts.now c.args.n c.args.first c.requires.running c.requires.row c.requires.told

pub noted-requires-clause-rows : goal.noted-requires-clause-rows
noted-requires-clause-rows c = (can_hear c.args.self.now c.args.run.now c.args.puts.now c.args.n c.args.first c.site_of-at.result c.requires.running c.requires.row c.site_of-at.ensures c.requires.told).rows

pub noted-requires-clause-marks : goal.noted-requires-clause-marks
noted-requires-clause-marks c = (can_hear c.args.self.now c.args.run.now c.args.puts.now c.args.n c.args.first c.site_of-at.result c.requires.running c.requires.row c.site_of-at.ensures c.requires.told).marks

pub noted-requires-clause-met : goal.noted-requires-clause-met
noted-requires-clause-met c = (can_hear c.args.self.now c.args.run.now c.args.puts.now c.args.n c.args.first c.site_of-at.result c.requires.running c.requires.row c.site_of-at.ensures c.requires.told).met

pub take_turn-requires-clause-ready : goal.take_turn-requires-clause-ready
take_turn-requires-clause-ready c =
    let client : Client = c.args.self.now in
    let k : CanLearn client c.args.n c.args.first = c.requires.told in
    let i = about client c.args.run.now c.args.puts.now c.args.n c.site_of-at.result k.0 k.1 k.2 k.3 c.requires.running c.requires.row c.site_of-at.ensures k.4 k.5 in
    (k.1.caller, k.2, told_of client.config.n (option_copied c.args.reply) k.3 ∷ k.1.actions, c.in_ok-run.ensures.ready k.1.caller k.2 k.1.actions k.3 i.inside i.awaits i.ready)

pub take_turn-requires-clause-round : goal.take_turn-requires-clause-round
take_turn-requires-clause-round c =
    let client : Client = c.args.self.now in
    let k : CanLearn client c.args.n c.args.first = c.requires.told in
    let i = about client c.args.run.now c.args.puts.now c.args.n c.site_of-at.result k.0 k.1 k.2 k.3 c.requires.running c.requires.row c.site_of-at.ensures k.4 k.5 in
    later_round client c.in_ok-run.run' c.args.n c.args.first (option_copied c.args.reply) k (c.in_ok-run.ensures.ready k.1.caller k.2 k.1.actions k.3 i.inside i.awaits i.ready)

pub returns-clause-ok : goal.returns-clause-ok
returns-clause-ok c =
    let client : Client = c.args.self.now in
    IfOk-weaker c.follow.result _ _ (λ after follows. extended client (changed client after.0) c.args.n c.args.first (option_copied c.args.reply) after.1 (λ next t ts a h awaited l rules below.
    let i = about client c.args.run.now c.args.puts.now c.args.n c.site_of-at.result next t ts a c.requires.running c.requires.row c.site_of-at.ensures h awaited in
    let ready = c.in_ok-run.ensures.ready t.caller ts t.actions a i.inside i.awaits i.ready in
    let turned = c.in_ok-turn.ensures.turned t.caller ts (told_of client.config.n (option_copied c.args.reply) a ∷ t.actions) ready in
    let goes : c.in_ok-turn.turn.outcome ≡ Goes → GoesFrom client.config c.args.run.now.stage c.take_turn.new.self.stage (told_of client.config.n (option_copied c.args.reply) a ∷ t.actions) =
    λ on. subst (λ (st : Stage). GoesFrom client.config st c.take_turn.new.self.stage (told_of client.config.n (option_copied c.args.reply) a ∷ t.actions)) c.in_ok-run.ensures.stage (c.in_ok-turn.ensures.goes t.caller ts (told_of client.config.n (option_copied c.args.reply) a ∷ t.actions) ready on) in
    follows t.caller ts turned.0 (told_of client.config.n (option_copied c.args.reply) a ∷ t.actions)
    (row_followed client c.args.run.now c.take_turn.new.self c.args.puts.now c.site_of-at.result next c.args.first (option_copied c.args.reply) t ts a turned.0 c.in_ok-turn.turn.send c.in_ok-turn.turn.outcome i h c.in_ok-turn.ensures.sends turned.1 turned.2 goes rules below) below)) c.follow.ensures.ok
