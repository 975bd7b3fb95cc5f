use Rattle.std.proofs.Common.{◌≡◌, ℕ, [], ◌∙◌, ap, sym, take, fold}
use Rattle.std.specs.List.{filter_map}
use Rattle.std.specs.Option.{option_to_list}
use Rattle.std.proofs.lemmas.List.Sums.{fold-append}
use Rattle.gz_core.specs.declared.rows.Column.{Column}
use Rattle.gz_world.specs.Audit.{with_unlisted, cast_of}
use Rattle.gz_world.proofs.Lists.{filter_map_more}
use Rattle.gz_world.proofs.audit.Casts.unlisted.Goals as goal

pub loop-version-preserved : goal.loop-version-preserved
loop-version-preserved c =
    let casts = c.args.self.now.list.items in
    let columns = c.columns-version-items.result.now in
    let item = c.loop-version-item.result in
    let more = filter_map_more (λ (p : ℕ × Column). cast_of c.args.site c.in_ok-key.key p.0 p.1) columns c.loop-version.version-index item c.loop-version-test.true c.loop-version-item.is in
    let same = c.loop-version.invariant.list in
    let list : c.loop-version.self.list.items ≡ casts = cc in
    record {
      key = c.in_ok-key-2.ensures.key ∙ c.loop-version.invariant.key;
      list = c.in_ok-key-2.ensures.list ∙ c.loop-version.invariant.list;
      fresh = c.in_ok-key-2.ensures.fresh
          ∙ ap (λ xs. fold (with_unlisted xs) c.loop-version.fresh.items (option_to_list (cast_of c.args.site c.loop-version.key item.0 item.1))) list
          ∙ ap (λ k. fold (with_unlisted casts) c.loop-version.fresh.items (option_to_list (cast_of c.args.site k item.0 item.1))) c.loop-version.invariant.key
          ∙ ap (λ xs. fold (with_unlisted casts) xs (option_to_list (cast_of c.args.site c.in_ok-key.key item.0 item.1))) c.loop-version.invariant.fresh
          ∙ sym (fold-append (with_unlisted casts) [] (filter_map (λ (p : ℕ × Column). cast_of c.args.site c.in_ok-key.key p.0 p.1) (take c.loop-version.version-index columns)) (option_to_list (cast_of c.args.site c.in_ok-key.key item.0 item.1)))
          ∙ sym (ap (fold (with_unlisted casts) []) more);
      known = c.in_ok-key-2.ensures.known c.loop-version.invariant.known;
    }
