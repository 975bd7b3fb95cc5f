use Rattle.std.proofs.Common.{sym, subst, arith}
use Rattle.gz_round.specs.Floors.{NoneAskedIn}
use Rattle.gz_round.specs.Following.{NextMeans}
use Rattle.gz_round.specs.declared.following.Next.TheVariants.{Unborn as UnbornNext}
use Rattle.gz_round.proofs.Follows.{first_means, absent_means, unborn_means}
use Rattle.gz_round.proofs.run.Run.begin_first.Goals as goal

pub returns-then-is_some : goal.returns-then-is_some
returns-then-is_some c = λ k w past ms h f onward. first_means k w past c.args.self.now ms h f onward (cc)

pub returns-in-Latest : goal.returns-in-Latest
returns-in-Latest c = λ k w past ms h f onward. absent_means k w past c.args.self.now ms h f (cc) (cc)

pub returns-in-At : goal.returns-in-At
returns-in-At c = λ k w past ms h f onward.
    let above = subst (λ t. NoneAskedIn t c.args.self.now.rows) c.in-At.is c.requires.asked.1 in
    subst (λ v. NextMeans k w c.args.self.now ms (UnbornNext v)) (sym c.none.ensures) (unborn_means k w past c.args.self.now ms c.in-At.version h f c.in-At.is (omega arith))
