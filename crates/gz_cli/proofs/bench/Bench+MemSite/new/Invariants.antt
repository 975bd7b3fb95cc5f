use Rattle.std.proofs.Common.{◌-◌, length, Some}
use Rattle.gz_site.specs.Memory.{told_of}
use Rattle.gz_world.specs.Opening.{AreEmpty}
use Rattle.gz_cli.proofs.bench.Bench+MemSite.new.Given as goal

abbrev pub invariant-loop-alloc : goal.invariant-loop-alloc
invariant-loop-alloc l = AreEmpty (λ s. Some (told_of s.contents)) l.sites.items

abbrev pub decreases-loop-alloc : goal.decreases-loop-alloc
decreases-loop-alloc l = 16 - length l.sites.items
