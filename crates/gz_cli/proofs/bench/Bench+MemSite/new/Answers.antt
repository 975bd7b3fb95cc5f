use Rattle.std.proofs.Common.{List, Some, sym, subst}
use Rattle.std.specs.Prelude.{Option}
use Rattle.gz_site.specs.Told.{Told}
use Rattle.gz_site.specs.Memory.{told_of}
use Rattle.gz_site.specs.declared.memory.MemSite.{MemSite}
use Rattle.gz_world.specs.Opening.{AreEmpty}
use Rattle.gz_cli.proofs.EmptySites.{more-empty, empty-site}
use Rattle.gz_cli.proofs.bench.Bench+MemSite.new.Goals as goal

pub loop-alloc-preserved : goal.loop-alloc-preserved
loop-alloc-preserved c =
    let told : MemSite → Option Told = λ s. Some (told_of s.contents) in
    let site = c.new-in-loop-alloc.result in
    subst (λ (sites : List MemSite). AreEmpty told sites) (sym c.in_ok-push.ensures.items)
    (more-empty told c.loop-alloc.sites.items site c.loop-alloc.invariant (empty-site site c.new-in-loop-alloc.ensures.empty))
