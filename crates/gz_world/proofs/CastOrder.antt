-- The order of votes is total, and votes that are the same by it are one vote. What the index holds after a change.
use Rattle.std.proofs.Common.{◌≡◌, Bool, true, false, cond, List, [], ◌∷◌, ◌++◌, Some, None, refl, ap, sym, ◌∙◌, unwrap_or}
use Rattle.std.specs.Prelude.{◌||◌, Option, is_some}
use Rattle.std.specs.Cmp.{IsTotalOrder, IsEquivalence, nat_cmp_total, on_total, then_total, tied_itself}
use Rattle.std.specs.Cmp.Lexicographic.{lists_total}
use Rattle.std.specs.Ordering.{is_eq, ordering_reverse}
use Rattle.std.specs.declared.cmp.Ordering.{Ordering}
use Rattle.std.specs.declared.cmp.Ordering.TheVariants.{Less, Equal, Greater}
use Rattle.std.proofs.lemmas.List.Folds.{list_any-append}
use Rattle.gz_core.specs.Names.{Name, BallotAt}
use Rattle.gz_model.specs.declared.casts.Cast.{Cast}
use Rattle.gz_world.specs.Audit.{ballot_cmp, name_cmp, cast_cmp, same_cast, is_listed, listed_in, is_known}

ballot_total : IsTotalOrder ballot_cmp
ballot_total = then_total (on_total (λ (b : BallotAt). b.round) nat_cmp_total) (on_total (λ (b : BallotAt). b.session) nat_cmp_total)

name_total : IsTotalOrder name_cmp
name_total = then_total (on_total (λ (n : Name). n.session) nat_cmp_total) (on_total (λ (n : Name). n.seq) nat_cmp_total)

-- the order of votes is total
pub cast_total : IsTotalOrder cast_cmp
cast_total =
    then_total (on_total (λ (c : Cast). c.name) name_total)
    (then_total (on_total (λ (c : Cast). c.site) nat_cmp_total)
    (then_total (on_total (λ (c : Cast). c.version) nat_cmp_total)
    (then_total (on_total (λ (c : Cast). c.ballot) ballot_total) (on_total (λ (c : Cast). c.key) (lists_total nat_cmp_total)))))

equal_by : (o : Ordering) → is_eq o ≡ true → o ≡ Equal
equal_by Less e = cc
equal_by Equal e = refl
equal_by Greater e = cc

turned_eq : (o : Ordering) → is_eq (ordering_reverse o) ≡ is_eq o
turned_eq Less = refl
turned_eq Equal = refl
turned_eq Greater = refl

-- being the same vote is an equivalence
pub cast_laws : IsEquivalence same_cast
cast_laws = record {
  refl = λ x. ap is_eq (tied_itself cast_total x);
  symm = λ x y. ap is_eq (cast_total.antisymm x y) ∙ turned_eq (cast_cmp y x);
  congr = λ x y z e. ap is_eq (cast_total.congr x y z (equal_by (cast_cmp x y) e));
}

none_by : (o : Option Bool) → is_some o ≡ false → o ≡ None
none_by None h = refl
none_by (Some b) h = cc

or_true : (b : Bool) → (b || true) ≡ true
or_true true = refl
or_true false = refl

or_false : (b : Bool) → (b || false) ≡ b
or_false true = refl
or_false false = refl

-- votes that are the same are found at one place
pub listed_alike : (k q : Cast) (es : List (Cast × Bool)) → same_cast k q ≡ true → listed_in es q ≡ listed_in es k
listed_alike k q [] e = refl
listed_alike k q (x ∷ xs) e =
    let h : same_cast q x.0 ≡ same_cast k x.0 = sym (cast_laws.congr k q x.0 e) in
    let t : listed_in xs q ≡ listed_in xs k = listed_alike k q xs e in
    ap (λ b. cond b (Some x.1) (listed_in xs q)) h ∙ ap (λ o. cond (same_cast k x.0) (Some x.1) o) t

-- a value that is written at a vote that the index holds leaves what it holds
pub known_written : (es fs : List (Cast × Bool)) (k : Cast) (w : Bool) → ((q : Cast) → listed_in fs q ≡ cond (same_cast k q) (Some w) (listed_in es q)) → is_known es k ≡ true → (q : Cast) → is_known fs q ≡ is_known es q
known_written es fs k w changes here q =
    elim (same_cast k q) as (λ b. same_cast k q ≡ b → is_known fs q ≡ is_known es q) [
      | true ↦ λ e. ap is_some (changes q ∙ ap (λ b. cond b (Some w) (listed_in es q)) e) ∙ sym (ap is_some (listed_alike k q es e) ∙ here)
      | false ↦ λ e. ap is_some (changes q ∙ ap (λ b. cond b (Some w) (listed_in es q)) e)
    ] refl

-- a value that is written where it stood, in the list and in the index
pub tied_same : (xs : List Cast) (es fs : List (Cast × Bool)) (k : Cast) (w : Bool) → listed_in es k ≡ Some w → ((q : Cast) → listed_in fs q ≡ cond (same_cast k q) (Some w) (listed_in es q)) → ((q : Cast) → is_listed xs q ≡ unwrap_or (listed_in es q) false) → (q : Cast) → is_listed xs q ≡ unwrap_or (listed_in fs q) false
tied_same xs es fs k w was changes tied q =
    elim (same_cast k q) as (λ b. same_cast k q ≡ b → is_listed xs q ≡ unwrap_or (listed_in fs q) false) [
      | true ↦ λ e.
          let f : listed_in fs q ≡ Some w = changes q ∙ ap (λ b. cond b (Some w) (listed_in es q)) e in
          let n : listed_in es q ≡ Some w = listed_alike k q es e ∙ was in
          tied q ∙ ap (λ o. unwrap_or o false) n ∙ sym (ap (λ o. unwrap_or o false) f)
      | false ↦ λ e.
          let f : listed_in fs q ≡ listed_in es q = changes q ∙ ap (λ b. cond b (Some w) (listed_in es q)) e in
          tied q ∙ sym (ap (λ o. unwrap_or o false) f)
    ] refl

-- a vote that is put into the list, in the list and in the index
pub tied_added : (xs : List Cast) (es fs : List (Cast × Bool)) (k : Cast) → ((q : Cast) → listed_in fs q ≡ cond (same_cast k q) (Some true) (listed_in es q)) → ((q : Cast) → is_listed xs q ≡ unwrap_or (listed_in es q) false) → (q : Cast) → is_listed (xs ++ k ∷ []) q ≡ unwrap_or (listed_in fs q) false
tied_added xs es fs k changes tied q =
    let l : is_listed (xs ++ k ∷ []) q ≡ (is_listed xs q || (same_cast q k || false)) = list_any-append (same_cast q) xs (k ∷ []) in
    elim (same_cast k q) as (λ b. same_cast k q ≡ b → is_listed (xs ++ k ∷ []) q ≡ unwrap_or (listed_in fs q) false) [
      | true ↦ λ e.
          let s : same_cast q k ≡ true = cast_laws.symm q k ∙ e in
          let f : listed_in fs q ≡ Some true = changes q ∙ ap (λ b. cond b (Some true) (listed_in es q)) e in
          l ∙ ap (λ b. is_listed xs q || (b || false)) s ∙ or_true (is_listed xs q) ∙ sym (ap (λ o. unwrap_or o false) f)
      | false ↦ λ e.
          let s : same_cast q k ≡ false = cast_laws.symm q k ∙ e in
          let f : listed_in fs q ≡ listed_in es q = changes q ∙ ap (λ b. cond b (Some true) (listed_in es q)) e in
          l ∙ ap (λ b. is_listed xs q || (b || false)) s ∙ or_false (is_listed xs q) ∙ tied q ∙ sym (ap (λ o. unwrap_or o false) f)
    ] refl

-- which votes are listed after a vote became known
pub flags_known : (es fs : List (Cast × Bool)) (k : Cast) → is_known es k ≡ false → ((q : Cast) → listed_in fs q ≡ cond (same_cast k q) (Some false) (listed_in es q)) → (q : Cast) → unwrap_or (listed_in fs q) false ≡ unwrap_or (listed_in es q) false
flags_known es fs k absent changes q =
    elim (same_cast k q) as (λ b. same_cast k q ≡ b → unwrap_or (listed_in fs q) false ≡ unwrap_or (listed_in es q) false) [
      | true ↦ λ e.
          let f : listed_in fs q ≡ Some false = changes q ∙ ap (λ b. cond b (Some false) (listed_in es q)) e in
          let n : listed_in es q ≡ None = listed_alike k q es e ∙ none_by (listed_in es k) absent in
          ap (λ o. unwrap_or o false) f ∙ sym (ap (λ o. unwrap_or o false) n)
      | false ↦ λ e. ap (λ o. unwrap_or o false) (changes q ∙ ap (λ b. cond b (Some false) (listed_in es q)) e)
    ] refl

-- what the index holds after a vote became known
pub known_more : (es fs : List (Cast × Bool)) (k : Cast) → ((q : Cast) → listed_in fs q ≡ cond (same_cast k q) (Some false) (listed_in es q)) → (q : Cast) → is_known es q ≡ true → is_known fs q ≡ true
known_more es fs k changes q h =
    elim (same_cast k q) as (λ b. same_cast k q ≡ b → is_known fs q ≡ true) [
      | true ↦ λ e. ap is_some (changes q ∙ ap (λ b. cond b (Some false) (listed_in es q)) e)
      | false ↦ λ e. ap is_some (changes q ∙ ap (λ b. cond b (Some false) (listed_in es q)) e) ∙ h
    ] refl

pub known_itself : (es fs : List (Cast × Bool)) (k : Cast) → ((q : Cast) → listed_in fs q ≡ cond (same_cast k q) (Some false) (listed_in es q)) → is_known fs k ≡ true
known_itself es fs k changes = ap is_some (changes k ∙ ap (λ b. cond b (Some false) (listed_in es k)) (cast_laws.refl k))
