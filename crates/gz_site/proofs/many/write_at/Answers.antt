use Rattle.std.proofs.Common.{length, refl}
use Rattle.std.proofs.lemmas.Option.{slice_get_read}
use Rattle.gz_site.specs.Told.{Told}
use Rattle.gz_site.specs.Steps.{WriteRowStep}
use Rattle.gz_site.specs.declared.sites.SiteFault.TheVariants.{Failed}
use Rattle.gz_site.proofs.Places.{tells_at, cause_at, others_stay}
use Rattle.gz_site.proofs.many.write_at.Goals as goal

pub returns-clause-step : goal.returns-clause-step
returns-clause-step g c =
    let sites = c.args.sites.now.items in
    let here = slice_get_read sites (length sites) c.args.at c.index_mut.result.now refl c.requires c.index_mut.ensures.value in
    tells_at g.S.Site.told sites c.args.at c.index_mut.result.now c.write_row_if.new.self (λ (old new : Told). WriteRowStep old c.args.key.now c.args.expect c.args.row.now c.write_row_if.result new) c.requires here c.write_row_if.ensures.step

pub returns-clause-cause : goal.returns-clause-cause
returns-clause-cause g c =
    let sites = c.args.sites.now.items in
    let here = slice_get_read sites (length sites) c.args.at c.index_mut.result.now refl c.requires c.index_mut.ensures.value in
    cause_at g.S.Site.faults Failed sites c.args.at c.index_mut.result.now c.write_row_if.new.self c.write_row_if.result c.requires here c.write_row_if.ensures.cause

pub returns-clause-others : goal.returns-clause-others
returns-clause-others g c = others_stay c.args.sites.now.items c.args.at c.write_row_if.new.self c.requires
