use Rattle.std.proofs.Common.{◌≡◌, ◌≢◌, ap, ◌∙◌, rules}
use Rattle.gz_round.specs.declared.run.Target.TheVariants.{At}
use Rattle.gz_round.proofs.Follows.{latest_found, number_found, later_unborn}
use Rattle.gz_round.proofs.run.Run.found.Goals as goal

pub returns-in-Latest : goal.returns-in-Latest
returns-in-Latest c = λ w past ms h m onward. latest_found c.args.config.now w past c.args.self.now ms c.args.version c.args.site h m c.requires.evident (cc) (cc)

pub returns-then-eq : goal.returns-then-eq
returns-then-eq c =
    let same : c.in-At.asked ≡ c.args.version = search rules in
    λ w past ms h m onward. number_found c.args.config.now w past c.args.self.now ms c.args.version c.args.site h m c.requires.evident (c.in-At.is ∙ ap (λ v. At v) same)

pub returns-else-eq : goal.returns-else-eq
returns-else-eq c =
    let apart : c.in-At.asked ≢ c.args.version = search rules in
    λ w past ms h m onward. later_unborn c.args.config.now w past c.args.self.now ms c.args.version c.args.site c.in-At.asked h m c.requires.evident c.in-At.is apart
