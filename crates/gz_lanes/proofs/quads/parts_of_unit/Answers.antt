use Rattle.gz_lanes.specs.Quads.{in_first, in_second, in_third, in_fourth}
use Rattle.gz_lanes.proofs.quads.parts_of_unit.Goals as goal

pub returns-clause-first : goal.returns-clause-first
unfolding in_first
returns-clause-first c =
    let e = c.pair_of-first.ensures.first in
    let a = c.pair_of-a.ensures.first in
    let b = c.pair_of-a.ensures.second in
    let p = c.pair_of-c.ensures.first in
    let q = c.pair_of-c.ensures.second in
    let u = c.unit_at.ensures in
    let v = c.unit_at-2.ensures in
    let w = c.unit_at-3.ensures in
    let x = c.unit_at-4.ensures in
    cc

pub returns-clause-second : goal.returns-clause-second
unfolding in_second
returns-clause-second c =
    let e = c.pair_of-second.ensures.first in
    let a = c.pair_of-a.ensures.first in
    let b = c.pair_of-a.ensures.second in
    let p = c.pair_of-c.ensures.first in
    let q = c.pair_of-c.ensures.second in
    let u = c.unit_at.ensures in
    let v = c.unit_at-2.ensures in
    let w = c.unit_at-3.ensures in
    let x = c.unit_at-4.ensures in
    cc

pub returns-clause-third : goal.returns-clause-third
unfolding in_third
returns-clause-third c =
    let e = c.pair_of-first.ensures.second in
    let a = c.pair_of-a.ensures.first in
    let b = c.pair_of-a.ensures.second in
    let p = c.pair_of-c.ensures.first in
    let q = c.pair_of-c.ensures.second in
    let u = c.unit_at.ensures in
    let v = c.unit_at-2.ensures in
    let w = c.unit_at-3.ensures in
    let x = c.unit_at-4.ensures in
    cc

pub returns-clause-fourth : goal.returns-clause-fourth
unfolding in_fourth
returns-clause-fourth c =
    let e = c.pair_of-second.ensures.second in
    let a = c.pair_of-a.ensures.first in
    let b = c.pair_of-a.ensures.second in
    let p = c.pair_of-c.ensures.first in
    let q = c.pair_of-c.ensures.second in
    let u = c.unit_at.ensures in
    let v = c.unit_at-2.ensures in
    let w = c.unit_at-3.ensures in
    let x = c.unit_at-4.ensures in
    cc
