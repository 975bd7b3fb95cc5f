use Rattle.std.proofs.Common.{◌∷◌}
use Rattle.std.specs.Option.{option_copied}
use Rattle.std.proofs.lemmas.Result.{IfOk-weaker}
use Rattle.gz_client.specs.Changes.{changed}
use Rattle.gz_client.specs.Traces.{CanLearn, told_of}
use Rattle.gz_client.specs.declared.client.Client.{Client}
use Rattle.gz_client.specs.declared.running.Running.TheVariants.{Storing}
use Rattle.gz_client.proofs.Extending.{extended, told_round}
use Rattle.gz_client.proofs.Learning.{counts_room, storing_told}
use Rattle.gz_client.proofs.client.Client.learn_storing.Goals as goal

pub counted-counts-requires : goal.counted-counts-requires
counted-counts-requires c = counts_room c.args.self.now (Storing c.args.run.now c.args.puts.now) c.args.puts.now c.args.n c.args.first c.requires.running (λ w past ms h. h.fragments) c.requires.told

pub stored_first-requires-clause-counted : goal.stored_first-requires-clause-counted
stored_first-requires-clause-counted c =
    let client : Client = c.args.self.now in
    let k : CanLearn client c.args.n c.args.first = c.requires.told in (
      k.1.caller,
      k.2,
      told_of client.config.n (option_copied c.args.reply) k.3 ∷ k.1.actions,
      storing_told client c.args.run.now c.args.puts.now c.counted-counts.result c.args.n k.0 (option_copied c.args.reply) k.1 k.2 k.3 c.requires.running c.counted-counts.ensures k.4 k.5,
    )

pub returns-clause-ok : goal.returns-clause-ok
returns-clause-ok c =
    let client : Client = c.args.self.now in
    IfOk-weaker c.stored_first.result _ _ (λ after turns. extended client (changed client after.0) c.args.n c.args.first (option_copied c.args.reply) after.1 (λ next t ts a h awaited l.
    turns t.caller ts (told_of client.config.n (option_copied c.args.reply) a ∷ t.actions) (told_round client next client.config.n (option_copied c.args.reply) a t ts h)
    (storing_told client c.args.run.now c.args.puts.now c.counted-counts.result c.args.n next (option_copied c.args.reply) t ts a c.requires.running c.counted-counts.ensures h awaited))) c.stored_first.ensures.ok
