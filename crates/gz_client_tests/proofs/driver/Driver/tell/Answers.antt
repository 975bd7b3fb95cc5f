use Rattle.gz_client_tests.proofs.Driving.{told_when}
use Rattle.gz_client_tests.proofs.driver.Driver.tell.Goals as goal

pub give_up-requires-clause-told : goal.give_up-requires-clause-told
give_up-requires-clause-told c = told_when c.args.self.now.client c.args.told.now.number c.args.self.now.first c.args.self.now.calls c.awaits.result c.requires c.awaits.ensures c.if-not-awaits.false

pub reply-requires-clause-told : goal.reply-requires-clause-told
reply-requires-clause-told c = told_when c.args.self.now.client c.args.told.now.number c.args.self.now.first c.args.self.now.calls c.awaits.result c.requires c.awaits.ensures c.if-not-awaits.false
