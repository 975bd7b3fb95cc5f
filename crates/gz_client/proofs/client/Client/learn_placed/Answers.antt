use Rattle.std.proofs.Common.{◌∷◌, ℕ}
use Rattle.std.specs.Option.{option_copied}
use Rattle.gz_client.specs.Changes.{changed}
use Rattle.gz_client.specs.Traces.{CanLearn, told_of}
use Rattle.gz_client.specs.declared.client.Client.{Client}
use Rattle.gz_client.specs.declared.running.Running.TheVariants.{Placed}
use Rattle.gz_client.proofs.Extending.{extended, told_round}
use Rattle.gz_client.proofs.Learning.{counts_room, placed_told}
use Rattle.gz_client.proofs.client.Client.learn_placed.Goals as goal

pub counted-counts-requires : goal.counted-counts-requires
counted-counts-requires c =
    let k : (first : ℕ) × CanLearn c.args.self.now c.args.n first = c.requires.told in
    counts_room c.args.self.now (Placed c.args.version c.args.puts.now) c.args.puts.now c.args.n k.0 c.requires.running (λ w past ms h. h.fragments) k.1

pub returns-clause-ok : goal.returns-clause-ok
returns-clause-ok c =
    let client : Client = c.args.self.now in
    λ first. extended client (changed client c.stored_last.result.0) c.args.n first (option_copied c.args.reply) c.stored_last.result.1 (λ next t ts a h awaited l.
    c.stored_last.ensures.ok first t.caller ts (told_of client.config.n (option_copied c.args.reply) a ∷ t.actions) c.args.puts.now c.requires.running (told_round client next client.config.n (option_copied c.args.reply) a t ts h)
    (placed_told client c.args.version c.args.puts.now c.counted-counts.result c.args.n next (option_copied c.args.reply) t ts a c.requires.running c.counted-counts.ensures h awaited))
