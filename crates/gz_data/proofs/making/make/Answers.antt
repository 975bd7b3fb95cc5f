use Rattle.std.proofs.Common.{◌≡◌, ℕ, ◌+◌, List, [], length, map, ap, refl, arith}
use Rattle.std.specs.Prelude.{Vec}
use Rattle.std.specs.declared.alloc.Global.{Global}
use Rattle.gz_data.specs.Own.{record_at}
use Rattle.gz_data.proofs.Cutting.{records_are, fragments_are, count_records, count_fragments, made}
use Rattle.gz_data.proofs.making.make.Goals as goal

pub fragments_of-requires : goal.fragments_of-requires
fragments_of-requires c =
    let pieces = map (λ (p : Vec ℕ Global). p.items) c.in_ok-pieces.pieces.items in
    let f = record_at c.args.config.now c.args.name c.args.key.now c.args.object.now in
    let records = records_are f c.in_ok-pieces.pieces.items c.deref.result.now c.in_ok-records.records.items c.deref.ensures.value c.in_ok-records.ensures in
    let count : length c.in_ok-records.records.items ≡ c.args.config.now.k + c.args.config.now.m =
    count_records c.args.config.now.k c.args.config.now.m c.args.object.now pieces c.in_ok-records.records.items (f pieces) c.in_ok-pieces.ensures records in
    omega (arith, ap length c.deref-2.ensures.value)

pub invariant_of-put : goal.invariant_of-put
invariant_of-put c =
    let pieces = map (λ (p : Vec ℕ Global). p.items) c.in_ok-pieces.pieces.items in
    let f = record_at c.args.config.now c.args.name c.args.key.now c.args.object.now in
    let records = records_are f c.in_ok-pieces.pieces.items c.deref.result.now c.in_ok-records.records.items c.deref.ensures.value c.in_ok-records.ensures in
    let fragments = fragments_are (f pieces) (length pieces) c.in_ok-records.records.items c.deref-2.result.now c.in_ok-fragments.fragments c.deref-2.ensures.value records c.in_ok-fragments.ensures in
    record {
      bounded = c.requires.bounded;
      some = c.requires.config.split;
      few = omega arith;
      count = count_fragments c.args.config.now c.args.name c.args.key.now c.args.object.now pieces c.in_ok-records.records.items c.in_ok-fragments.fragments c.in_ok-pieces.ensures records fragments;
    }

pub returns : goal.returns
returns c =
    let pieces = map (λ (p : Vec ℕ Global). p.items) c.in_ok-pieces.pieces.items in
    let f = record_at c.args.config.now c.args.name c.args.key.now c.args.object.now in
    let records = records_are f c.in_ok-pieces.pieces.items c.deref.result.now c.in_ok-records.records.items c.deref.ensures.value c.in_ok-records.ensures in
    let fragments = fragments_are (f pieces) (length pieces) c.in_ok-records.records.items c.deref-2.result.now c.in_ok-fragments.fragments c.deref-2.ensures.value records c.in_ok-fragments.ensures in
    made c.args.config.now c.args.name c.args.key.now c.args.object.now pieces c.in_ok-records.records.items c.in_ok-fragments.fragments c.in_ok-pieces.ensures records fragments
