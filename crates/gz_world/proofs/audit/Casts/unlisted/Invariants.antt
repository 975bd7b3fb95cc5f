use Rattle.std.proofs.Common.{◌≡◌, ℕ, [], take, true}
use Rattle.std.specs.Prelude.{All, fold}
use Rattle.std.specs.List.{filter_map}
use Rattle.gz_core.specs.declared.rows.Column.{Column}
use Rattle.gz_world.specs.Audit.{cast_of, is_known, with_unlisted}
use Rattle.gz_world.proofs.audit.Casts.unlisted.Given as goal

abbrev pub invariant-loop-version : goal.invariant-loop-version
invariant-loop-version l = record {
  key : l.key ≡ l.initial.key;
  list : l.self.list ≡ l.initial.self.list;
  fresh : l.fresh.items ≡ fold (with_unlisted l.initial.self.list.items) [] (filter_map (λ (c : ℕ × Column). cast_of l.site l.initial.key c.0 c.1) (take l.version-index l.version-items));
  known : All (λ c. is_known l.self.index.entries c ≡ true) l.fresh.items;
}
