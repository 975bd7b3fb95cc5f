use Rattle.std.proofs.Common.{ℕ, List, [], ◌∷◌, ◌++◌, ◌+◌, length, ap, ◌∙◌}
use Rattle.gz_data.specs.declared.requests.AwaitedBlob.{AwaitedBlob}
use Rattle.gz_data.proofs.Adding.{added_push}
use Rattle.gz_data.proofs.requests.add.Goals as goal

pub returns : goal.returns
returns c = λ start added h.
    let more : ℕ → ℕ → List AwaitedBlob = λ n i. c.args.awaited.now ++ record { number = c.args.first + n; index = i } ∷ [] in
    added_push c.args.first start c.args.send.now c.args.awaited.now added c.args.out c.push.new.self c.push-2.new.self c.in_ok-push.ensures.ok
    (c.in_ok-push-2.ensures.ok ∙ (ap (λ (n : ℕ). more n c.len-index.result) c.len.ensures ∙ ap (more (length c.args.send.now)) c.len-index.ensures)) h
