use Rattle.std.proofs.Common.{inl, inr, sym, ◌∙◌, ◌≤◌, arith}
use Rattle.gz_core.proofs.Ballots.{name_means}
use Rattle.gz_history.proofs.FirstEntries.{heads_more}
use Rattle.gz_history.proofs.agreement.agreeing_where.Goals as goal

pub returns-then-eq : goal.returns-then-eq
returns-then-eq c = λ marks marked h.
    heads_more marks c.args.place c.args.start c.args.start _ _ c.args.tag c.args.name (c.in_ok-head.head, c.in_ok-head.first) marked c.in_ok-head.ensures (omega arith)
    (inl (name_means c.in_ok-head.first c.args.name (sym c.eq.ensures ∙ c.if-eq.true))) h

pub returns-else-eq : goal.returns-else-eq
returns-else-eq c = λ marks marked h.
    let least = c.min.ensures in
    let first : c.min.result ≤ c.args.start = omega (arith, least) in
    let second : c.min.result ≤ c.in_ok-head.head = omega (arith, least) in
    heads_more marks c.args.place c.args.start c.min.result _ _ c.args.tag c.args.name (c.in_ok-head.head, c.in_ok-head.first) marked c.in_ok-head.ensures first (inr second) h
