use Rattle.std.proofs.Common.{ℕ, ◌≡◌, ◌<◌, ◌==◌, ◌&&◌, ◌∙◌, true, List, length, get_or, arith, refl, sym, subst}
use Rattle.std.proofs.lemmas.Bool.{eq-eqb, and_from}
use Rattle.std.proofs.lemmas.List.Recursion.{or_at, or_from_places}
use Rattle.gz_model.specs.Casts.{has_cast, is_vote}
use Rattle.gz_model.specs.declared.casts.Cast.{Cast}
use Rattle.gz_model.proofs.casts.has_voted.Goals as goal

pub returns-then-is_vote : goal.returns-then-is_vote
returns-then-is_vote c =
    let xs = c.args.casts.now in
    let t = c.args.cast.now in
    let s = c.args.site in
    let i = c.loop-other.other-index in
    let x = c.other-item.result in
    let test : Cast → _ = λ (y : Cast). (y.site == s) && is_vote y t.key t.version t.ballot t.name in
    let site : x.site ≡ s = omega arith in
    let vote : is_vote x t.key t.version t.ballot t.name ≡ true = sym c.is_vote.ensures ∙ c.if-is_vote.true in
    let here : test x ≡ true = and_from (x.site == s) (is_vote x t.key t.version t.ballot t.name) (eq-eqb x.site s site) vote in
    let at : test (get_or xs i x) ≡ true = subst (λ (y : Cast). test y ≡ true) c.other-item.is here in
    sym (or_at (λ (ys : List Cast). has_cast ys t.key t.version t.ballot t.name s) test refl (λ _ _. refl) xs i x (omega arith) at)

pub returns : goal.returns
returns c =
    let t = c.args.cast.now in
    let s = c.args.site in
    sym (or_from_places (λ (ys : List Cast). has_cast ys t.key t.version t.ballot t.name s) (λ (y : Cast). (y.site == s) && is_vote y t.key t.version t.ballot t.name) refl (λ _ _. refl) c.args.casts.now t (λ (k : ℕ) (l : k < length c.args.casts.now). c.loop-other.invariant k t (omega arith)))
