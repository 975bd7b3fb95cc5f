-- Prefixes of one list.
use Rattle.std.proofs.Common.{◌≡◌, ◌+◌, ◌⊎◌, inl, inr, ⊎_elim, List, [], ◌∷◌, ◌++◌, length, drop, All, refl, sym, ap, ◌∙◌, subst, append_assoc, length-append, arith}
use Rattle.std.proofs.Math.ListN.{drop_of_length-le}
use Rattle.std.proofs.Math.Seq.{drop-append_seam}
use Rattle.std.proofs.lemmas.List.{append-nil, nil_from_length}
use Rattle.std.proofs.lemmas.List.Elements.{All-nil, All-cons, All-head, All-tail}
use Rattle.gz_lock.specs.Histories.{IsPrefix, longer}

module _ {A : Type 0} where
  pub prefix_itself : (xs : List A) → IsPrefix xs xs
  prefix_itself xs = record { more = []; whole = sym (append-nil xs) }

  pub prefix_trans : (xs ys zs : List A) → IsPrefix xs ys → IsPrefix ys zs → IsPrefix xs zs
  prefix_trans xs ys zs p q = record { more = p.more ++ q.more; whole = q.whole ∙ (ap (λ l. l ++ q.more) p.whole ∙ append_assoc xs p.more q.more) }

  pub prefix_more : (xs ys more : List A) → IsPrefix xs ys → IsPrefix xs (ys ++ more)
  prefix_more xs ys more p = prefix_trans xs ys (ys ++ more) p record { more = more; whole = refl }

  under : (x y : A) (xs ys : List A) → x ≡ y → IsPrefix xs ys → IsPrefix (x ∷ xs) (y ∷ ys)
  under x y xs ys same p = record { more = p.more; whole = λ i. sym same i ∷ p.whole i }

  -- of two prefixes of one list, one is a prefix of the other
  comparable : (xs ys u v : List A) → xs ++ u ≡ ys ++ v → IsPrefix xs ys ⊎ IsPrefix ys xs
  comparable [] ys u v e = inl record { more = ys; whole = refl }
  comparable (x ∷ xs) [] u v e = inr record { more = x ∷ xs; whole = refl }
  comparable (x ∷ xs) (y ∷ ys) u v e = let same : x ≡ y = cc in let rest : xs ++ u ≡ ys ++ v = cc in
      ⊎_elim (λ p. inl (under x y xs ys same p)) (λ p. inr (under y x ys xs (sym same) p)) (comparable xs ys u v rest)

  longer_is : (xs ys : List A) → IsPrefix xs ys → longer xs ys ≡ ys
  longer_is xs ys p = subst (λ l. longer xs l ≡ l) (sym p.whole) (ap (λ l. xs ++ l) (drop-append_seam xs p.more))

  longer_stays : (xs ys : List A) → IsPrefix ys xs → longer xs ys ≡ xs
  longer_stays xs ys p = let len : length xs ≡ length ys + length p.more = ap length p.whole ∙ length-append ys p.more in
      ap (λ l. xs ++ l) (drop_of_length-le ys (omega arith)) ∙ append-nil xs

  pub longer_above : (xs ys : List A) → IsPrefix xs (longer xs ys)
  longer_above xs ys = record { more = drop (length xs) ys; whole = refl }

  pub longer_covers : (xs ys whole : List A) → IsPrefix xs whole → IsPrefix ys whole → IsPrefix ys (longer xs ys)
  longer_covers xs ys whole p q = ⊎_elim (λ r. subst (λ l. IsPrefix ys l) (sym (longer_is xs ys r)) (prefix_itself ys)) (λ r. subst (λ l. IsPrefix ys l) (sym (longer_stays xs ys r)) r)
      (comparable xs ys p.more q.more (sym p.whole ∙ q.whole))

  pub longer_within : (xs ys whole : List A) → IsPrefix xs whole → IsPrefix ys whole → IsPrefix (longer xs ys) whole
  longer_within xs ys whole p q = ⊎_elim (λ r. subst (λ l. IsPrefix l whole) (sym (longer_is xs ys r)) q) (λ r. subst (λ l. IsPrefix l whole) (sym (longer_stays xs ys r)) p)
      (comparable xs ys p.more q.more (sym p.whole ∙ q.whole))

  pub prefixes_same : (xs ys : List A) → IsPrefix xs ys → IsPrefix ys xs → xs ≡ ys
  prefixes_same xs ys p q = let up : length ys ≡ length xs + length p.more = ap length p.whole ∙ length-append xs p.more in
      let down : length xs ≡ length ys + length q.more = ap length q.whole ∙ length-append ys q.more in
      let none : q.more ≡ [] = nil_from_length q.more (omega arith) in q.whole ∙ (ap (λ l. ys ++ l) none ∙ append-nil ys)

  pub nil_left : (xs ys : List A) → xs ++ ys ≡ [] → xs ≡ []
  nil_left xs ys e = let len : length xs + length ys ≡ 0 = sym (length-append xs ys) ∙ ap length e in nil_from_length xs (omega arith)

  pub nil_right : (xs ys : List A) → xs ++ ys ≡ [] → ys ≡ []
  nil_right xs ys e = let len : length xs + length ys ≡ 0 = sym (length-append xs ys) ∙ ap length e in nil_from_length ys (omega arith)

  pub all_before : (P : A → Type 0) (xs ys : List A) → All P (xs ++ ys) → All P xs
  all_before P [] ys all = All-nil P
  all_before P (x ∷ xs) ys all = All-cons P x xs (All-head P x (xs ++ ys) all) (all_before P xs ys (All-tail P x (xs ++ ys) all))

  pub all_after : (P : A → Type 0) (xs ys : List A) → All P (xs ++ ys) → All P ys
  all_after P [] ys all = all
  all_after P (x ∷ xs) ys all = all_after P xs ys (All-tail P x (xs ++ ys) all)

  pub all_map : (P Q : A → Type 0) (xs : List A) → ((x : A) → P x → Q x) → All P xs → All Q xs
  all_map P Q xs f all k d h = f _ (all k d h)

  pub all_one : (P : A → Type 0) (x : A) → P x → All P (x ∷ [])
  all_one P x p = All-cons P x [] p (All-nil P)

  pub all_last : (P : A → Type 0) (xs : List A) (x : A) → All P (xs ++ x ∷ []) → P x
  all_last P xs x all = All-head P x [] (all_after P xs (x ∷ []) all)
