use Rattle.std.proofs.Common.{ℕ, List, ◌≡◌, ◌∷◌, [], ◌++◌, ◌+◌, take, length, sym, ap, ◌∙◌, subst, arith}
use Rattle.gz_core.specs.declared.requests.Out.{Out}
use Rattle.gz_data.specs.Requests.{get_out, gets_from, AreAdded}
use Rattle.gz_data.proofs.Adding.{gets_below, gets_more}
use Rattle.gz_data.proofs.requests.fetch.Goals as goal

pub overflow_cast-len : goal.overflow_cast-len
overflow_cast-len c =
    let count = c.loop-fragment.invariant.count in
    let few = c.requires.few in
    omega (arith, c.len.ensures, gets_below c.args.name c.args.key.now c.loop-fragment.fragment-index c.args.fragments.now)

pub add-requires-clause-few : goal.add-requires-clause-few
add-requires-clause-few c =
    let count = c.loop-fragment.invariant.count in
    let few = c.requires.few in
    omega (arith, gets_below c.args.name c.args.key.now c.loop-fragment.fragment-index c.args.fragments.now)

pub add-requires-clause-room : goal.add-requires-clause-room
add-requires-clause-room c =
    let room = c.loop-fragment.invariant.room in
    let few = c.requires.few in
    omega (arith, c.requires.room, gets_below c.args.name c.args.key.now c.loop-fragment.fragment-index c.args.fragments.now)

pub loop-fragment-preserved : goal.loop-fragment-preserved
loop-fragment-preserved c =
    let front : List Out = gets_from c.args.name c.args.key.now 0 (take c.loop-fragment.fragment-index c.args.fragments.now) in
    let back : ℕ → List Out = λ n. front ++ get_out c.args.name c.args.key.now n c.fragment-item.result ∷ [] in
    let out : c.in_ok-out.out ≡ get_out c.args.name c.args.key.now (length front) c.fragment-item.result = c.in_ok-out.ensures ∙ ap (λ (n : ℕ). get_out c.args.name c.args.key.now n c.fragment-item.result) (c.len.ensures ∙ c.loop-fragment.invariant.count) in
    subst (AreAdded c.args.first c.args.send.now c.add.new.send c.add.new.awaited)
    (ap (λ (o : Out). front ++ o ∷ []) out ∙ sym (gets_more c.args.name c.args.key.now c.args.fragments.now c.loop-fragment.fragment-index c.fragment-item.result (omega arith) c.fragment-item.is))
    (c.in_ok-add.ensures c.args.send.now front c.loop-fragment.invariant)
