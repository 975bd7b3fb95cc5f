use Rattle.std.proofs.Common.{◌∙◌, sym, ap, refl, arith}
use Rattle.gz_world.specs.Steps.{quiet}
use Rattle.gz_world.specs.declared.events.Outcome.TheVariants as outcomes
use Rattle.gz_world.proofs.Faults.{skipped_counts}
use Rattle.gz_world.proofs.Performing.{skip_acts}
use Rattle.gz_world.proofs.world.World.do_event.Goals as goal

pub refusal-requires : goal.refusal-requires
refusal-requires g c = c.requires.fits

pub session_of-requires : goal.session_of-requires
session_of-requires g c = let few = c.requires.small.sessions in omega (arith, few)

pub happen-requires : goal.happen-requires
happen-requires g c = record {
  fits = c.requires.fits;
  small = c.requires.small;
  bounded = c.requires.bounded;
  happens = λ traces fits. sym (c.refusal.ensures traces fits) ∙ c.in-None.is;
}

pub returns-in-Some : goal.returns-in-Some
returns-in-Some g c = record {
  acts = skip_acts g.S.Site.told c.args.self.now c.args.event.now c.in-Some.why c.quiet.result c.requires.small (λ traces fits. sym c.in-Some.is ∙ c.refusal.ensures traces fits)
      (λ traces. c.quiet.ensures ∙ ap (λ o. quiet (outcomes.Skipped c.in-Some.why) o) (c.session_of.ensures traces));
  err = tt;
  journal = refl;
  fault = skipped_counts g.S.Site.told g.S.Site.faults c.args.self.now c.requires.fits.0 c.args.event.now c.in-Some.why (sym c.in-Some.is ∙ c.refusal.ensures c.requires.fits.0 c.requires.fits.1);
  sites = λ l. refl;
  others = λ n e r there i off. refl;
  idle = λ session idle. refl;
  kept = tt;
}

pub returns-in-None : goal.returns-in-None
returns-in-None g c = record { acts = c.happen.ensures.acts; err = c.happen.ensures.err; journal = c.happen.ensures.journal; fault = c.happen.ensures.fault; sites = c.happen.ensures.sites; others = c.happen.ensures.others; idle = c.happen.ensures.idle; kept = c.happen.ensures.kept }
