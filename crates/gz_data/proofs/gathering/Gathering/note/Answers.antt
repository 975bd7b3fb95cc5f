use Rattle.std.proofs.Common.{◌≡◌, arith}
use Rattle.gz_data.specs.Whole.{pieces_of}
use Rattle.gz_data.specs.Gathered.{GatheredAt, noted}
use Rattle.gz_data.proofs.Gathers.{noted_is, gathered_new, gathers_new}
use Rattle.gz_data.proofs.gathering.Gathering.note.Goals as goal

pub invariant_of-self-2 : goal.invariant_of-self-2
invariant_of-self-2 c =
    let held = c.self.inside in
    let before : GatheredAt = record { version = held.version; value = held.value; fates = held.fates; pieces = pieces_of held.pieces.items } in
    let after : GatheredAt = record { version = held.version; value = held.value; fates = c.set.new.self; pieces = pieces_of c.take_reply.new.pieces.items } in
    let e : after ≡ noted before c.args.key.now c.args.index c.args.reply.now =
    noted_is before c.args.key.now c.args.index c.args.reply.now c.set.new.self c.in_ok-fate.fate (pieces_of c.take_reply.new.pieces.items) c.set.ensures c.in_ok-fate.ensures.fate c.in_ok-fate.ensures.kept in (
      gathered_new before c.args.self.now after c.args.key.now c.args.index c.args.reply.now c.self.view_is c.self.invariant.0 c.requires.waited c.requires.few e,
      omega (arith, c.take_reply.ensures.capacity, c.self.invariant.1),
    )

pub returns-clause-gathers : goal.returns-clause-gathers
returns-clause-gathers c ms a op gathers =
    let held = c.self.inside in
    let before : GatheredAt = record { version = held.version; value = held.value; fates = held.fates; pieces = pieces_of held.pieces.items } in
    let after : GatheredAt = record { version = held.version; value = held.value; fates = c.set.new.self; pieces = pieces_of c.take_reply.new.pieces.items } in
    let e : after ≡ noted before c.args.key.now c.args.index c.args.reply.now =
    noted_is before c.args.key.now c.args.index c.args.reply.now c.set.new.self c.in_ok-fate.fate (pieces_of c.take_reply.new.pieces.items) c.set.ensures c.in_ok-fate.ensures.fate c.in_ok-fate.ensures.kept in
    gathers_new c.args.key.now ms before c.args.self.now after c.args.index a c.args.reply.now c.self.view_is c.self.invariant.0 c.requires.waited e op gathers
