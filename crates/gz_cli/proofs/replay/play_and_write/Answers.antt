use Rattle.std.proofs.Common.{refl, subst, inl}
use Rattle.gz_world.specs.declared.events.ApplyError.TheVariants.{Full}
use Rattle.gz_script.specs.Plays.{PlaysInPart, ChangesBy}
use Rattle.gz_script.proofs.Filling.{changes_fill}
use Rattle.gz_cli.proofs.WorldLemmas.{filled_by, some-whole, some-part}
use Rattle.gz_cli.proofs.replay.play_and_write.Goals as goal

pub returns-in-Ok-clause-some : goal.returns-in-Ok-clause-some
returns-in-Ok-clause-some g c = some-whole g.S.Site.told c.args.lines.now c.args.world.now c.play.new.world c.in-Ok.ensures.plays

pub returns-in-Err-Full-clause-some : goal.returns-in-Err-Full-clause-some
returns-in-Err-Full-clause-some g c = some-part g.S.Site.told _ c.args.lines.now c.args.world.now c.play.new.world c.in-Err-Full.ensures.part

pub returns-in-Err-NoMemory-clause-some : goal.returns-in-Err-NoMemory-clause-some
returns-in-Err-NoMemory-clause-some g c = some-part g.S.Site.told _ c.args.lines.now c.args.world.now c.play.new.world c.in-Err-NoMemory.ensures.part

pub returns-in-Err-Full-clause-full : goal.returns-in-Err-Full-clause-full
returns-in-Err-Full-clause-full g c = λ events held is.
    let told = g.S.Site.told in
    let old = c.args.world.now in
    let new = c.play.new.world in
    let part : ChangesBy told (PlaysInPart Full c.args.lines.now) old new =
    subst (λ error. ChangesBy told (PlaysInPart error c.args.lines.now) old new) c.in-Err-Full.field-0-is c.in-Err-Full.ensures.part in
    (part, (filled_by new events held c.filled.result is c.filled.ensures (changes_fill told c.args.lines.now old new c.requires.fits part)), refl)

pub returns-in-Err-NoMemory-clause-memory : goal.returns-in-Err-NoMemory-clause-memory
returns-in-Err-NoMemory-clause-memory g c = λ memory.
    inl
    (subst (λ error. ChangesBy g.S.Site.told (PlaysInPart error c.args.lines.now) c.args.world.now c.play.new.world) c.in-Err-NoMemory.field-0-is c.in-Err-NoMemory.ensures.part, refl)
