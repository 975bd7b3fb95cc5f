use Rattle.std.proofs.Common.{◌+◌, sym, subst, arith}
use Rattle.gz_round.specs.Evidence.{NoneEvident}
use Rattle.gz_round.specs.Following.{MayPass}
use Rattle.gz_round.specs.Standing.{StageStands}
use Rattle.gz_round.specs.Goals.{IsUnmet}
use Rattle.gz_round.proofs.Known.{known_counted}
use Rattle.gz_round.proofs.Follows.{first_from, looked_from, looked_unmet}
use Rattle.gz_round.proofs.Phases.{first_onward, look_onward}
use Rattle.gz_round.proofs.run.Run.at_looked.Goals as goal

pub returns-then-is_unwritten : goal.returns-then-is_unwritten
returns-then-is_unwritten c = λ w past ms r.
    let counted = known_counted c.args.config.now c.args.self.now ms r.stands.knows in
    let looks = subst (λ st. StageStands c.args.config.now w past st ms) c.requires.stage r.stage in
    c.begin_first.ensures c.args.config.now w past ms r.stands (first_from c.args.config.now w past c.args.self.now ms c.requires.config r.stands looks.0 looks.1 (cc) (cc) (omega arith)) (first_onward c.args.config.now c.args.self.now ms c.requires.stage (cc) (omega arith))

pub returns-in-None : goal.returns-in-None
returns-in-None c = λ w past ms r.
    let none : NoneEvident c.args.config.now c.args.self.now.rows c.looked-version.result = subst (λ rows. NoneEvident c.args.config.now rows c.looked-version.result) c.as_slice.ensures c.in-None.ensures in
    subst (λ st. IsUnmet c.args.config.now c.args.self.now st ms) (sym c.requires.stage) (looked_unmet c.args.config.now c.args.self.now ms r.stands.knows (cc) c.requires.asked (subst (NoneEvident c.args.config.now c.args.self.now.rows) c.looked-version.ensures none))

pub returns-in-Some : goal.returns-in-Some
returns-in-Some c = λ w past ms r.
    let counted = known_counted c.args.config.now c.args.self.now ms r.stands.knows in
    let looks = subst (λ st. StageStands c.args.config.now w past st ms) c.requires.stage r.stage in
    c.found.ensures w past ms r.stands (subst (MayPass c.args.config.now w ms) (sym c.looked-version.ensures) (looked_from c.args.config.now w past c.args.self.now ms r.stands looks.0 looks.1 (cc) c.requires.asked (omega arith))) (look_onward c.args.config.now c.args.self.now ms (c.looked-version.result + 1) c.requires.stage (omega (arith, c.looked-version.ensures)) (omega arith))
