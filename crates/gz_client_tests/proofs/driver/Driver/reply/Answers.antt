use Rattle.gz_core.specs.History.{Asked, Handed}
use Rattle.gz_round.specs.Sites.{as_heard, written_by}
use Rattle.gz_client_tests.proofs.Driving.{held_told}
use Rattle.gz_client_tests.proofs.driver.Driver.reply.Goals as goal

pub returns : goal.returns
returns c =
    held_told c.args.self.now.client c.reply.new.self c.args.n c.args.self.now.first c.args.self.now.calls c.in_ok-self.field-0 (λ (a : Asked). Handed a (as_heard c.args.self.now.client.config.n (written_by a.op) c.args.answer.now)) c.in_ok-turn.turn
    c.requires.held
    c.requires.told
    c.in_ok-turn.ensures.ok
    c.in_ok-self.ensures
