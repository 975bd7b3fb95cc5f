use Rattle.std.proofs.Common.{subst, Option, arith, length}
use Rattle.std.specs.Prelude.{IfSome}
use Rattle.gz_lanes.specs.declared.rows.CoefficientRow.{CoefficientRow}
use Rattle.gz_lanes.specs.Combination.{contents}
use Rattle.gz_lanes.specs.Quads.{AreQuads, in_first, second_weight, third_weight, fourth_weight}
use Rattle.gz_lanes.proofs.Linear.{row_sums}
use Rattle.gz_lanes.proofs.vector.sums_of_four.Goals as goal

pub returns-in-Some-clause-first : goal.returns-in-Some-clause-first
returns-in-Some-clause-first c =
    let rows = c.args.rows in
    let A = subst (λ (o : Option CoefficientRow). IfSome o (λ k. AreQuads k rows.0.now rows.1.now rows.2.now rows.3.now)) c.in-Some.is c.requires.quads in
    row_sums (length c.args.sources.now) rows.0.now (contents c.args.sources.now) c.args.at (in_first c.in-Some.constants) c.quad_sums.result.0 c.requires.paired.0
    (λ j l. A.first j (omega (arith, l, c.requires.paired.0, c.requires.paired.0))) c.quad_sums.ensures.first

pub returns-in-Some-clause-second : goal.returns-in-Some-clause-second
returns-in-Some-clause-second c =
    let rows = c.args.rows in
    let A = subst (λ (o : Option CoefficientRow). IfSome o (λ k. AreQuads k rows.0.now rows.1.now rows.2.now rows.3.now)) c.in-Some.is c.requires.quads in
    row_sums (length c.args.sources.now) rows.1.now (contents c.args.sources.now) c.args.at (second_weight c.in-Some.constants) c.quad_sums.result.1 c.requires.paired.1
    (λ j l. A.second j (omega (arith, l, c.requires.paired.0, c.requires.paired.1))) c.quad_sums.ensures.second

pub returns-in-Some-clause-third : goal.returns-in-Some-clause-third
returns-in-Some-clause-third c =
    let rows = c.args.rows in
    let A = subst (λ (o : Option CoefficientRow). IfSome o (λ k. AreQuads k rows.0.now rows.1.now rows.2.now rows.3.now)) c.in-Some.is c.requires.quads in
    row_sums (length c.args.sources.now) rows.2.now (contents c.args.sources.now) c.args.at (third_weight c.in-Some.constants) c.quad_sums.result.2 c.requires.paired.2
    (λ j l. A.third j (omega (arith, l, c.requires.paired.0, c.requires.paired.2))) c.quad_sums.ensures.third

pub returns-in-Some-clause-fourth : goal.returns-in-Some-clause-fourth
returns-in-Some-clause-fourth c =
    let rows = c.args.rows in
    let A = subst (λ (o : Option CoefficientRow). IfSome o (λ k. AreQuads k rows.0.now rows.1.now rows.2.now rows.3.now)) c.in-Some.is c.requires.quads in
    row_sums (length c.args.sources.now) rows.3.now (contents c.args.sources.now) c.args.at (fourth_weight c.in-Some.constants) c.quad_sums.result.3 c.requires.paired.3
    (λ j l. A.fourth j (omega (arith, l, c.requires.paired.0, c.requires.paired.3))) c.quad_sums.ensures.fourth
