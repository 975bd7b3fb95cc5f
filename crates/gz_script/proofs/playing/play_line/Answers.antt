use Rattle.std.proofs.Common.{subst}
use Rattle.std.specs.Prelude.{OnOk, IfErr}
use Rattle.gz_script.specs.Plays.{Settles, SettlesInPart, ChangesBy}
use Rattle.gz_script.proofs.LineLemmas.{line_as, line_part_as, event_part_as}
use Rattle.gz_script.proofs.playing.play_line.Goals as goal

pub returns-in-OpenSession-clause-plays : goal.returns-in-OpenSession-clause-plays
returns-in-OpenSession-clause-plays g c = line_as g.S.Site.told c.happen.result c.args.line.now _ c.args.world.now c.happen.new.world c.in-OpenSession.is c.happen.ensures.ok

pub returns-in-OpenSession-clause-part : goal.returns-in-OpenSession-clause-part
returns-in-OpenSession-clause-part g c = line_part_as g.S.Site.told c.happen.result c.args.line.now _ c.args.world.now c.happen.new.world c.in-OpenSession.is (event_part_as g.S.Site.told c.happen.result _ c.args.world.now c.happen.new.world c.happen.ensures.err)

pub returns-in-Begin-clause-plays : goal.returns-in-Begin-clause-plays
returns-in-Begin-clause-plays g c = line_as g.S.Site.told c.begin.result c.args.line.now _ c.args.world.now c.begin.new.world c.in-Begin.is c.begin.ensures.ok

pub returns-in-Begin-clause-part : goal.returns-in-Begin-clause-part
returns-in-Begin-clause-part g c = line_part_as g.S.Site.told c.begin.result c.args.line.now _ c.args.world.now c.begin.new.world c.in-Begin.is c.begin.ensures.err

pub returns-in-Deliver-clause-plays : goal.returns-in-Deliver-clause-plays
returns-in-Deliver-clause-plays g c = line_as g.S.Site.told c.happen-in-Deliver.result c.args.line.now _ c.args.world.now c.happen-in-Deliver.new.world c.in-Deliver.is c.happen-in-Deliver.ensures.ok

pub returns-in-Deliver-clause-part : goal.returns-in-Deliver-clause-part
returns-in-Deliver-clause-part g c = line_part_as g.S.Site.told c.happen-in-Deliver.result c.args.line.now _ c.args.world.now c.happen-in-Deliver.new.world c.in-Deliver.is (event_part_as g.S.Site.told c.happen-in-Deliver.result _ c.args.world.now c.happen-in-Deliver.new.world c.happen-in-Deliver.ensures.err)

pub returns-in-Reply-clause-plays : goal.returns-in-Reply-clause-plays
returns-in-Reply-clause-plays g c = line_as g.S.Site.told c.happen-in-Reply.result c.args.line.now _ c.args.world.now c.happen-in-Reply.new.world c.in-Reply.is c.happen-in-Reply.ensures.ok

pub returns-in-Reply-clause-part : goal.returns-in-Reply-clause-part
returns-in-Reply-clause-part g c = line_part_as g.S.Site.told c.happen-in-Reply.result c.args.line.now _ c.args.world.now c.happen-in-Reply.new.world c.in-Reply.is (event_part_as g.S.Site.told c.happen-in-Reply.result _ c.args.world.now c.happen-in-Reply.new.world c.happen-in-Reply.ensures.err)

pub returns-in-GiveUp-clause-plays : goal.returns-in-GiveUp-clause-plays
returns-in-GiveUp-clause-plays g c = line_as g.S.Site.told c.happen-in-GiveUp.result c.args.line.now _ c.args.world.now c.happen-in-GiveUp.new.world c.in-GiveUp.is c.happen-in-GiveUp.ensures.ok

pub returns-in-GiveUp-clause-part : goal.returns-in-GiveUp-clause-part
returns-in-GiveUp-clause-part g c = line_part_as g.S.Site.told c.happen-in-GiveUp.result c.args.line.now _ c.args.world.now c.happen-in-GiveUp.new.world c.in-GiveUp.is (event_part_as g.S.Site.told c.happen-in-GiveUp.result _ c.args.world.now c.happen-in-GiveUp.new.world c.happen-in-GiveUp.ensures.err)

pub returns-in-Crash-clause-plays : goal.returns-in-Crash-clause-plays
returns-in-Crash-clause-plays g c = line_as g.S.Site.told c.happen-in-Crash.result c.args.line.now _ c.args.world.now c.happen-in-Crash.new.world c.in-Crash.is c.happen-in-Crash.ensures.ok

pub returns-in-Crash-clause-part : goal.returns-in-Crash-clause-part
returns-in-Crash-clause-part g c = line_part_as g.S.Site.told c.happen-in-Crash.result c.args.line.now _ c.args.world.now c.happen-in-Crash.new.world c.in-Crash.is (event_part_as g.S.Site.told c.happen-in-Crash.result _ c.args.world.now c.happen-in-Crash.new.world c.happen-in-Crash.ensures.err)

pub returns-in-Take-clause-plays : goal.returns-in-Take-clause-plays
returns-in-Take-clause-plays g c = line_as g.S.Site.told c.take.result c.args.line.now _ c.args.world.now c.take.new.world c.in-Take.is c.take.ensures.ok

pub returns-in-Take-clause-part : goal.returns-in-Take-clause-part
returns-in-Take-clause-part g c = line_part_as g.S.Site.told c.take.result c.args.line.now _ c.args.world.now c.take.new.world c.in-Take.is c.take.ensures.err

pub returns-in-Settle-clause-plays : goal.returns-in-Settle-clause-plays
returns-in-Settle-clause-plays g c = line_as g.S.Site.told c.settle.result c.args.line.now _ c.args.world.now c.settle.new.world c.in-Settle.is
    (subst (λ without. OnOk c.settle.result (ChangesBy g.S.Site.told (Settles c.in-Settle.session without) c.args.world.now c.settle.new.world)) c.as_slice.ensures c.settle.ensures.ok)

pub returns-in-Settle-clause-part : goal.returns-in-Settle-clause-part
returns-in-Settle-clause-part g c = line_part_as g.S.Site.told c.settle.result c.args.line.now _ c.args.world.now c.settle.new.world c.in-Settle.is
    (subst (λ without. IfErr c.settle.result (λ e. ChangesBy g.S.Site.told (SettlesInPart e c.in-Settle.session without) c.args.world.now c.settle.new.world)) c.as_slice.ensures c.settle.ensures.err)

pub returns-in-Drain-clause-plays : goal.returns-in-Drain-clause-plays
returns-in-Drain-clause-plays g c = line_as g.S.Site.told c.drain.result c.args.line.now _ c.args.world.now c.drain.new.world c.in-Drain.is c.drain.ensures.ok

pub returns-in-Drain-clause-part : goal.returns-in-Drain-clause-part
returns-in-Drain-clause-part g c = line_part_as g.S.Site.told c.drain.result c.args.line.now _ c.args.world.now c.drain.new.world c.in-Drain.is c.drain.ensures.err
