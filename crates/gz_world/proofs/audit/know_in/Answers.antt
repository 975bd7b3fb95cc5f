use Rattle.std.proofs.Common.{◌≡◌, arith, false, cond, Some}
use Rattle.std.proofs.lemmas.Grind.{common_steps}
use Rattle.gz_model.specs.declared.casts.Cast.{Cast}
use Rattle.gz_world.specs.Audit.{same_cast, listed_in, is_known}
use Rattle.gz_world.proofs.CastOrder.{flags_known, known_more}
use Rattle.gz_world.proofs.audit.know_in.Goals as goal

pub returns-in_ok-insert-in-None-clause-flags : goal.returns-in_ok-insert-in-None-clause-flags
returns-in_ok-insert-in-None-clause-flags c =
    let w : (q : Cast) → listed_in c.insert.new.self.entries q ≡ cond (same_cast c.args.cast.now q) (Some false) (listed_in c.args.index.now.entries q) = λ q. grind (arith, common_steps) in
    let absent : is_known c.args.index.now.entries c.args.cast.now ≡ false = grind (arith, common_steps) in
    flags_known c.args.index.now.entries c.insert.new.self.entries c.args.cast.now absent w

pub returns-in_ok-insert-in-None-clause-others : goal.returns-in_ok-insert-in-None-clause-others
returns-in_ok-insert-in-None-clause-others c =
    let w : (q : Cast) → listed_in c.insert.new.self.entries q ≡ cond (same_cast c.args.cast.now q) (Some false) (listed_in c.args.index.now.entries q) = λ q. grind (arith, common_steps) in
    known_more c.args.index.now.entries c.insert.new.self.entries c.args.cast.now w
