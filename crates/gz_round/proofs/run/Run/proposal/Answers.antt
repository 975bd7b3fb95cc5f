use Rattle.std.proofs.Common.{◌≡◌, refl, sym, subst, inr}
use Rattle.std.proofs.lemmas.Option.{slice_get_within}
use Rattle.gz_pick.specs.Choices.{pick_of}
use Rattle.gz_pick.specs.declared.heard.Pick.TheVariants.{Forced}
use Rattle.gz_round.proofs.Proposals.{forced_value}
use Rattle.gz_round.proofs.run.Run.proposal.Goals as goal

pub value_of-requires-clause-site : goal.value_of-requires-clause-site
value_of-requires-clause-site c =
    let picked : pick_of c.args.config.now.n c.args.config.now.qf c.args.heard.now ≡ Forced c.in-Forced.at = sym (subst (λ hs. Forced c.in-Forced.at ≡ pick_of c.args.config.now.n c.args.config.now.qf hs) c.as_slice.ensures c.in-Forced.ensures) in
    let w = forced_value c.args.config.now c.args.self.now.rows c.args.version c.requires.heard.0 c.args.heard.now c.in-Forced.at c.at.result.now picked c.requires.heard.1 c.at.ensures in
    slice_get_within c.args.self.now.rows c.at.result.now.site _ w.1

pub value_of-requires-clause-has : goal.value_of-requires-clause-has
value_of-requires-clause-has c =
    let picked : pick_of c.args.config.now.n c.args.config.now.qf c.args.heard.now ≡ Forced c.in-Forced.at = sym (subst (λ hs. Forced c.in-Forced.at ≡ pick_of c.args.config.now.n c.args.config.now.qf hs) c.as_slice.ensures c.in-Forced.ensures) in
    forced_value c.args.config.now c.args.self.now.rows c.args.version c.requires.heard.0 c.args.heard.now c.in-Forced.at c.at.result.now picked c.requires.heard.1 c.at.ensures

pub returns-in_ok-value-in-Forced : goal.returns-in_ok-value-in-Forced
returns-in_ok-value-in-Forced c =
    let picked : pick_of c.args.config.now.n c.args.config.now.qf c.args.heard.now ≡ Forced c.in-Forced.at = sym (subst (λ hs. Forced c.in-Forced.at ≡ pick_of c.args.config.now.n c.args.config.now.qf hs) c.as_slice.ensures c.in-Forced.ensures) in
    let w = forced_value c.args.config.now c.args.self.now.rows c.args.version c.requires.heard.0 c.args.heard.now c.in-Forced.at c.at.result.now picked c.requires.heard.1 c.at.ensures in
    inr (c.in-Forced.at, c.at.result.now, w.0, picked, c.at.ensures, w.1, c.in_ok-value-in-Forced.value, c.in_ok-value-in-Forced.ensures w.0 w.1, refl)
