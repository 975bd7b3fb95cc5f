use Rattle.std.proofs.Common.{◌≡◌, map, take, filter_map}
use Rattle.gz_lines.specs.Fields.{site_of}
use Rattle.gz_lines.proofs.fields.sites_among.Given as goal

abbrev pub invariant-loop-part : goal.invariant-loop-part
invariant-loop-part l = l.sites.items ≡ filter_map site_of (map (λ x. x.now) (take l.part-index l.parts))
