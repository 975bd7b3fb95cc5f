use Rattle.std.proofs.Common.{◌≡◌, true, ◌∷◌, [], None, sym, ◌∙◌, subst}
use Rattle.std.specs.List.{list_any}
use Rattle.std.specs.Option.{option_copied}
use Rattle.gz_data.specs.Requests.{is_numbered}
use Rattle.gz_core.specs.declared.requests.Turn.{Turn}
use Rattle.gz_client.specs.Changes.{changed}
use Rattle.gz_client.specs.Traces.{told_of}
use Rattle.gz_client.specs.Turning.{TurnsBy}
use Rattle.gz_client.specs.declared.client.Client.{Client}
use Rattle.gz_client.specs.declared.running.Change.{Change}
use Rattle.gz_client.specs.declared.running.Running.TheVariants.{Asking}
use Rattle.gz_client.proofs.Extending.{extended}
use Rattle.gz_client.proofs.Learning.{asking_told, counts_room}
use Rattle.gz_client.proofs.client.Client.learn_asking.Goals as goal

pub counted-counts-requires : goal.counted-counts-requires
counted-counts-requires c = counts_room c.args.self.now (Asking c.args.run.now c.args.puts.now) c.args.puts.now c.args.n c.args.first c.requires.running (λ w past ms h. h.fragments) c.requires.told

pub returns-then-awaits_blob-clause-ok : goal.returns-then-awaits_blob-clause-ok
returns-then-awaits_blob-clause-ok c =
    let client : Client = c.args.self.now in
    extended client (changed client c.goes_on.result.0) c.args.n c.args.first (option_copied c.args.reply) c.goes_on.result.1 (λ next t ts a h awaited l.
    subst (λ (u : Turn). TurnsBy client (changed client c.goes_on.result.0) c.args.first u t.caller ts (told_of client.config.n (option_copied c.args.reply) a ∷ t.actions)) (sym c.goes_on.ensures.turn)
    (subst (λ (k : Change). TurnsBy client (changed client k) c.args.first (record { send = []; answer = None }) t.caller ts (told_of client.config.n (option_copied c.args.reply) a ∷ t.actions)) (sym c.goes_on.ensures.change)
    (asking_told client c.args.run.now c.args.puts.now c.counted-counts.result c.args.n next c.args.first (option_copied c.args.reply) t ts a c.requires.running (subst (λ bs. list_any (is_numbered c.args.n) bs ≡ true) c.as_slice.ensures (sym c.awaits_blob.ensures ∙ c.if-awaits_blob.true)) c.counted-counts.ensures h awaited)))
