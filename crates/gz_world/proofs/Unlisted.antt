-- The list of votes with each of some votes is the list with each of those that it lacked.
use Rattle.std.proofs.Common.{◌≡◌, Bool, true, false, List, [], ◌∷◌, refl, ap, ◌∙◌}
use Rattle.std.specs.Prelude.{◌||◌, fold}
use Rattle.std.proofs.lemmas.List.Folds.{list_any-append}
use Rattle.std.proofs.lemmas.List.Sums.{fold-append}
use Rattle.gz_model.specs.declared.casts.Cast.{Cast}
use Rattle.gz_world.specs.Audit.{same_cast, is_listed, with_cast, with_casts, with_unlisted}

or_first : (a b : Bool) → a ≡ true → (a || b) ≡ true
or_first true b h = refl
or_first false b h = cc

-- a vote that is listed stays so
listed_with_cast : (casts : List Cast) (x c : Cast) → is_listed casts c ≡ true → is_listed (with_cast casts x) c ≡ true
listed_with_cast casts x c h =
    elim (is_listed casts x) as (λ b. is_listed casts x ≡ b → is_listed (with_cast casts x) c ≡ true) [
      | true ↦ λ e. rw e h
      | false ↦ λ e. rw e (list_any-append (same_cast c) casts (x ∷ []) ∙ or_first (is_listed casts c) _ h)
    ] refl

listed_with_casts : (casts fresh : List Cast) (c : Cast) → is_listed casts c ≡ true → is_listed (with_casts casts fresh) c ≡ true
listed_with_casts casts [] c h = h
listed_with_casts casts (x ∷ xs) c h = listed_with_casts (with_cast casts x) xs c (listed_with_cast casts x c h)

-- one more vote
with_one : (casts fresh : List Cast) (c : Cast) → with_casts casts (with_unlisted casts fresh c) ≡ with_cast (with_casts casts fresh) c
with_one casts fresh c =
    elim (is_listed casts c) as (λ b. is_listed casts c ≡ b → with_casts casts (with_unlisted casts fresh c) ≡ with_cast (with_casts casts fresh) c) [
      | true ↦ λ e. rw (e, listed_with_casts casts fresh c e) refl
      | false ↦ λ e. rw e (fold-append with_cast casts fresh (c ∷ []))
    ] refl

more_unlisted : (casts fresh xs : List Cast) → with_casts casts (fold (with_unlisted casts) fresh xs) ≡ with_casts (with_casts casts fresh) xs
more_unlisted casts fresh [] = refl
more_unlisted casts fresh (x ∷ xs) = more_unlisted casts (with_unlisted casts fresh x) xs ∙ ap (λ ys. with_casts ys xs) (with_one casts fresh x)

pub with_unlisted_casts : (casts xs : List Cast) → with_casts casts (fold (with_unlisted casts) [] xs) ≡ with_casts casts xs
with_unlisted_casts casts xs = more_unlisted casts [] xs
