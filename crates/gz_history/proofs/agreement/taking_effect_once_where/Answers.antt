use Rattle.std.proofs.Common.{inl, inr, ◌≤◌, arith}
use Rattle.gz_history.proofs.FirstEntries.{heads_more}
use Rattle.gz_history.proofs.agreement.taking_effect_once_where.Goals as goal

pub returns-then-first-version : goal.returns-then-first-version
returns-then-first-version c = λ marks marked h.
    heads_more marks c.args.place c.args.start c.args.start _ _ c.args.tag c.args.version (c.in_ok-head.head, c.in_ok-head.first) marked c.in_ok-head.ensures (omega arith) (inl c.if-first-version.true) h

pub returns-else-first-version : goal.returns-else-first-version
returns-else-first-version c = λ marks marked h.
    let least = c.min.ensures in
    let first : c.min.result ≤ c.args.start = omega (arith, least) in
    let second : c.min.result ≤ c.in_ok-head.head = omega (arith, least) in
    heads_more marks c.args.place c.args.start c.min.result _ _ c.args.tag c.args.version (c.in_ok-head.head, c.in_ok-head.first) marked c.in_ok-head.ensures first (inr second) h
