use Rattle.std.proofs.Common.{sym, subst, inl, arith}
use Rattle.gz_round.specs.Goals.{IsUnmet}
use Rattle.gz_round.proofs.Known.{known_counted}
use Rattle.gz_round.proofs.Follows.{collected_means}
use Rattle.gz_round.proofs.run.Run.after_look.Goals as goal

pub returns-then-known-config : goal.returns-then-known-config
returns-then-known-config c = λ w past ms r.
    let counted = known_counted c.args.config.now c.args.self.now ms r.stands.knows in
    subst (λ st. IsUnmet c.args.config.now c.args.self.now st ms) (sym c.requires.stage) (inl (omega arith))

pub returns-in-Some : goal.returns-in-Some
returns-in-Some c = λ w past ms r.
    let counted = known_counted c.args.config.now c.args.self.now ms r.stands.knows in
    let quorums = c.requires.config.quorums in
    collected_means c.args.config.now w past c.args.self.now ms c.in-Some.floor r.stands c.in-Some.ensures (omega arith) (omega arith)
