use Rattle.std.proofs.Common.{◌≡◌, ◌≢◌, ◌<◌, ◌≤◌, sym, ◌∙◌, subst, arith, rules}
use Rattle.gz_round.specs.Following.{NextMeans}
use Rattle.gz_round.specs.declared.following.Next.TheVariants.{Unborn as UnbornNext}
use Rattle.gz_round.proofs.PastFloors.{gone_means, number_above, above_unborn}
use Rattle.gz_round.proofs.run.Run.read_above.Goals as goal

pub returns-then-le : goal.returns-then-le
returns-then-le c =
    let low : c.args.asked ≤ c.args.floor = search rules in
    λ k w past ms v h m at. gone_means k w past c.args.self.now ms v c.args.floor c.args.asked h m c.requires.rows c.requires.above c.requires.top c.requires.target low

pub returns-then-eq : goal.returns-then-eq
returns-then-eq c =
    let same : c.next-latest.result ≡ c.args.asked = search rules in
    λ k w past ms v h m low. c.learn_above.ensures k w past ms h (number_above k w past c.args.self.now ms v c.args.floor c.args.asked h m c.requires.target (sym c.next-latest.ensures ∙ same))

pub returns : goal.returns
returns c =
    let high : c.args.floor < c.args.asked = search rules in
    let apart : c.next-latest.result ≢ c.args.asked = search rules in
    λ k w past ms v h m low.
    subst (λ n. NextMeans k w c.args.self.now ms (UnbornNext n)) (sym c.next-latest.ensures) (above_unborn k w past c.args.self.now ms v c.args.floor c.args.asked h m low c.requires.rows c.requires.above c.requires.top c.requires.target (omega (arith, high, apart, c.next-latest.ensures)))
