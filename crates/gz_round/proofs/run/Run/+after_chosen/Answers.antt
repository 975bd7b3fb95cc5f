use Rattle.std.proofs.Common.{◌≤◌, ◌+◌, sym, subst, inr, arith, rules}
use Rattle.std.proofs.lemmas.Bool.{both_ways}
use Rattle.gz_pick.specs.Looks.{highest_of}
use Rattle.gz_round.specs.Following.{IsOnward, MayPass, IsVoteNext, AreVotesBelow}
use Rattle.gz_round.specs.Evidence.{NoneEvident, IsAfterEvidence}
use Rattle.gz_round.proofs.Known.{known_low, none_evident}
use Rattle.gz_round.proofs.Follows.{evident_highest, chosen_means, other_means}
use Rattle.gz_round.proofs.Targets.{vote_passes}
use Rattle.gz_round.proofs.Phases.{later_onward}
use Rattle.gz_round.proofs.run.Run.+after_chosen.Goals as goal

pub returns-then-is_own-clause-means : goal.returns-then-is_own-clause-means
returns-then-is_own-clause-means t c = λ w past ms h m onward. chosen_means c.args.config.now w past c.args.self.now ms c.args.version c.args.site h c.requires.own m c.requires.evident ((c.is_own.ensures c.requires.evident.row c.requires.evident.known).0 c.if-is_own.true)

pub next-next-requires : goal.next-next-requires
next-next-requires t c =
    let seen : c.args.version ≤ highest_of c.args.self.now.rows = evident_highest c.args.config.now c.args.self.now.rows c.args.version c.args.site c.requires.evident in
    let low = known_low c.args.config.now c.requires.kept.0 c.requires.kept.1 c.args.self.now c.requires.kept.2 c.requires.kept.3 in
    omega arith

pub after_chosen-requires : goal.after_chosen-requires
after_chosen-requires t c =
    let seen : c.args.version ≤ highest_of c.args.self.now.rows = evident_highest c.args.config.now c.args.self.now.rows c.args.version c.args.site c.requires.evident in
    search rules

pub returns-in-None-clause-means : goal.returns-in-None-clause-means
returns-in-None-clause-means t c = λ w past ms h m onward.
    let other = other_means c.args.config.now w past c.args.self.now ms c.args.version c.args.site h c.requires.own m c.requires.evident (λ k. both_ways _ c.if-is_own.false ((c.is_own.ensures c.requires.evident.row c.requires.evident.known).1 k)) in
    (subst (IsVoteNext c.args.config.now w ms) (sym c.next-next.ensures) other.0, subst (AreVotesBelow w ms) (sym c.next-next.ensures) other.1, none_evident c.args.config.now c.args.self.now ms h.knows c.next-next.result (subst (λ rows. NoneEvident c.args.config.now rows c.next-next.result) c.as_slice.ensures c.in-None.ensures), inr (subst (IsAfterEvidence c.args.config.now ms) (sym c.next-next.ensures) other.2), subst (IsOnward c.args.config.now c.args.self.now ms) (sym c.next-next.ensures) onward)

pub returns-in-Some-clause-means : goal.returns-in-Some-clause-means
returns-in-Some-clause-means t c = λ w past ms h m onward.
    let other = other_means c.args.config.now w past c.args.self.now ms c.args.version c.args.site h c.requires.own m c.requires.evident (λ k. both_ways _ c.if-is_own.false ((c.is_own.ensures c.requires.evident.row c.requires.evident.known).1 k)) in
    c.after_chosen.ensures.means w past ms h (subst (MayPass c.args.config.now w ms) (sym c.next-next.ensures) (vote_passes c.args.config.now w ms (c.args.version + 1) h.writes other.0)) (later_onward c.args.config.now c.args.self.now ms (c.args.version + 1) (c.next-next.result + 1) (omega (arith, c.next-next.ensures)) onward)
