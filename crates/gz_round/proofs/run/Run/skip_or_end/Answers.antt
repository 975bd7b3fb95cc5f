use Rattle.std.proofs.Common.{◌≡◌, ◌+◌, subst, arith}
use Rattle.std.proofs.lemmas.Bool.{both_ways}
use Rattle.gz_round.specs.Following.{NextMeans}
use Rattle.gz_round.specs.declared.following.Next.TheVariants.{Skip as SkipTo}
use Rattle.gz_round.proofs.PastFloors.{trimmed_means, skip_means}
use Rattle.gz_round.proofs.run.Run.skip_or_end.Goals as goal

pub returns-then-has_voted_last : goal.returns-then-has_voted_last
returns-then-has_voted_last c = λ k w past ms h m none. trimmed_means k w past c.args.self.now ms c.args.version c.args.floor h m none c.requires.rows c.requires.at c.requires.top (c.has_voted_last.ensures.0 c.if-has_voted_last.true)

pub returns : goal.returns
returns c = λ k w past ms h m none.
    let two : c.args.floor + 2 ≡ c.next-2.result = omega arith in
    subst (λ v. NextMeans k w c.args.self.now ms (SkipTo v)) two (skip_means k w past c.args.self.now ms c.args.version c.args.floor h m c.requires.stage c.requires.own c.requires.rows c.requires.at c.requires.top (λ last. both_ways _ c.if-has_voted_last.false (c.has_voted_last.ensures.1 last)))
