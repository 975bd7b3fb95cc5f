use Rattle.std.proofs.Common.{◌≡◌, arith, true, cond, Some, ap, ◌∙◌}
use Rattle.std.proofs.lemmas.Grind.{common_steps}
use Rattle.gz_model.specs.declared.casts.Cast.{Cast}
use Rattle.gz_world.specs.Audit.{same_cast, is_listed, listed_in}
use Rattle.gz_world.proofs.CastOrder.{tied_added, tied_same, known_written}
use Rattle.gz_world.proofs.audit.Casts.add.Goals as goal

pub invariant_of-self : goal.invariant_of-self
invariant_of-self c =
    let w : (q : Cast) → listed_in (c.get_mut.follows.lender true).entries q ≡ cond (same_cast c.args.cast q) (Some true) (listed_in c.args.self.now.index.entries q) = λ q. grind (arith, common_steps) in
    record {
      tied = λ q. ap (λ xs. is_listed xs q) c.push_reserved.ensures.items
          ∙ tied_added c.args.self.now.list.items c.args.self.now.index.entries (c.get_mut.follows.lender true).entries c.args.cast w c.args.self.now.tied q;
    }

pub invariant_of-self-else-not-listed : goal.invariant_of-self-else-not-listed
invariant_of-self-else-not-listed c =
    let w : (q : Cast) → listed_in (c.get_mut.follows.lender c.in-Some.listed.now).entries q ≡ cond (same_cast c.args.cast q) (Some c.in-Some.listed.now) (listed_in c.args.self.now.index.entries q) = λ q. grind (arith, common_steps) in
    let was : listed_in c.args.self.now.index.entries c.args.cast ≡ Some c.in-Some.listed.now = grind (arith, common_steps) in
    record {
      tied = tied_same c.args.self.now.list.items c.args.self.now.index.entries (c.get_mut.follows.lender c.in-Some.listed.now).entries c.args.cast c.in-Some.listed.now was w c.args.self.now.tied;
    }

pub returns-then-not-listed-clause-others : goal.returns-then-not-listed-clause-others
returns-then-not-listed-clause-others c =
    let w : (q : Cast) → listed_in (c.get_mut.follows.lender true).entries q ≡ cond (same_cast c.args.cast q) (Some true) (listed_in c.args.self.now.index.entries q) = λ q. grind (arith, common_steps) in
    known_written c.args.self.now.index.entries (c.get_mut.follows.lender true).entries c.args.cast true w c.requires.known

pub returns-else-not-listed-clause-others : goal.returns-else-not-listed-clause-others
returns-else-not-listed-clause-others c =
    let w : (q : Cast) → listed_in (c.get_mut.follows.lender c.in-Some.listed.now).entries q ≡ cond (same_cast c.args.cast q) (Some c.in-Some.listed.now) (listed_in c.args.self.now.index.entries q) = λ q. grind (arith, common_steps) in
    known_written c.args.self.now.index.entries (c.get_mut.follows.lender c.in-Some.listed.now).entries c.args.cast c.in-Some.listed.now w c.requires.known
