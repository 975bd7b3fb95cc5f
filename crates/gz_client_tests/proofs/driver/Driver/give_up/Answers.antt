use Rattle.gz_core.specs.History.{Asked, GaveUp}
use Rattle.gz_client_tests.proofs.Driving.{held_told}
use Rattle.gz_client_tests.proofs.driver.Driver.give_up.Goals as goal

pub returns : goal.returns
returns c =
    held_told c.args.self.now.client c.give_up.new.self c.args.n c.args.self.now.first c.args.self.now.calls c.in_ok-self.field-0 (λ (a : Asked). GaveUp a) c.in_ok-turn.turn
    c.requires.held
    c.requires.told
    c.in_ok-turn.ensures.ok
    c.in_ok-self.ensures
