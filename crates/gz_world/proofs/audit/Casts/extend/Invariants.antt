use Rattle.std.proofs.Common.{◌≡◌, ◌+◌, ◌≤◌, length}
use Rattle.std.specs.Prelude.{vec_len, vec_capacity}
use Rattle.gz_model.specs.declared.casts.Cast.{Cast}
use Rattle.gz_world.specs.Audit.{is_known, with_casts}
use Rattle.gz_world.proofs.audit.Casts.extend.Given as goal

abbrev pub invariant-loop-cast : goal.invariant-loop-cast
invariant-loop-cast l = record {
  list : l.self.list.items ≡ with_casts l.initial.self.list.items l.yielded;
  room : vec_len l.self.list ≤ vec_len l.initial.self.list + length l.yielded;
  capacity : vec_capacity l.self.list ≡ vec_capacity l.initial.self.list;
  known : (c : Cast) → is_known l.self.index.entries c ≡ is_known l.initial.self.index.entries c;
}
