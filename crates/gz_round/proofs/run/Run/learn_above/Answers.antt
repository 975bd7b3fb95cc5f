use Rattle.std.proofs.Common.{sym, subst}
use Rattle.gz_round.specs.Following.{NextMeans}
use Rattle.gz_round.specs.declared.following.Next.TheVariants.{Learnt as LearntNext}
use Rattle.gz_round.proofs.PastFloors.{above_learnt}
use Rattle.gz_round.proofs.run.Run.learn_above.Goals as goal

pub returns : goal.returns
returns c = λ k w past ms h asked.
    subst (λ v. NextMeans k w c.args.self.now ms (LearntNext v c.site_with_floor.result)) (sym c.next.ensures) (above_learnt k w past c.args.self.now ms c.args.floor c.site_with_floor.result h asked c.requires.own c.site_with_floor.ensures.at)
