-- Which indices were given.
use Rattle.std.proofs.Common.{◌≡◌, ℕ, ◌+◌, ◌<◌, List, length, get_or, Bool, true, false, replicate, sym, ◌∙◌, ap, subst, arith, inl, inr, Vec}
use Rattle.std.specs.declared.alloc.Global.{Global}
use Rattle.std.proofs.Math.ListN.{set, length-set}
use Rattle.std.proofs.lemmas.Bool.{cases_lt, false≢true}
use Rattle.std.proofs.lemmas.List.{get_or-set_same, get_or-set_other, get_or-map, get_or-replicate, get_or_past, length-replicate}
use Rattle.gz_code.specs.Decoding.{Given, index_at, bytes_given, IsRepeated, IsBeyond, Nowhere}
use Rattle.gz_code.proofs.Interpolation.{equal_or_not}

pub index_of_item : (given : Given) (place : ℕ) (item : ℕ × Vec ℕ Global) → place < length given → item ≡ get_or given place item → index_at given place ≡ item.0
index_of_item given place item l is =
    get_or-map {Y = ℕ} (λ (piece : ℕ × Vec ℕ Global). piece.0) given place item 0 l ∙ ap (λ (piece : ℕ × Vec ℕ Global). piece.0) (sym is)

pub bytes_of_item : (given : Given) (place : ℕ) (item : ℕ × Vec ℕ Global) (none : List ℕ) → place < length given → item ≡ get_or given place item → get_or (bytes_given given) place none ≡ item.1.items
bytes_of_item given place item none l is =
    get_or-map {Y = List ℕ} (λ (piece : ℕ × Vec ℕ Global). piece.1.items) given place item none l ∙ ap (λ (piece : ℕ × Vec ℕ Global). piece.1.items) (sym is)

pub index_below : (given : Given) (count place : ℕ) → Nowhere (IsBeyond count given) given → place < length given → index_at given place < count
index_below given count place nowhere l =
    elim (cases_lt (index_at given place) count) [ inl below ↦ below | inr beyond ↦ absurd (nowhere place l beyond) ]

-- after the first n pieces, the marks are those of their indices, of which none was given twice
pub record HasSeen (given : Given) (n : ℕ) (seen : List Bool) : Type 0 where
  pub long : length seen ≡ 256
  pub marked : (q : ℕ) → q < n → get_or seen (index_at given q) false ≡ true
  pub given_before : (index : ℕ) → get_or seen index false ≡ true → (q : ℕ) × (q < n) × (index_at given q ≡ index)
  pub distinct : (q : ℕ) → q < n → IsRepeated given q → ⊥

pub seen_none : (given : Given) → HasSeen given 0 (replicate 256 false)
seen_none given = record {
  long = length-replicate 256 false;
  marked = λ q l. absurd (omega arith);
  given_before = λ index marked. absurd (false≢true (sym (none index) ∙ marked));
  distinct = λ q l. absurd (omega arith);
}
  where
    none : (index : ℕ) → get_or (replicate 256 false) index false ≡ false
    none index =
        elim (cases_lt index 256) [
          | inl below ↦ get_or-replicate 256 index false false below
          | inr past ↦ get_or_past (replicate 256 false) index false (omega (arith, length-replicate 256 false))
        ]

module _ (given : Given) (n index : ℕ) (seen : List Bool) (S : HasSeen given n seen) (is : index_at given n ≡ index) (fits : index < 256) (new : get_or seen index false ≡ false) where
  stays : (i : ℕ) → get_or seen i false ≡ true → get_or (set seen index true) i false ≡ true
  stays i marked =
      let long = S.long in
      elim (equal_or_not i index) [
        | inl here ↦ subst (λ j. get_or (set seen index true) j false ≡ true) (sym here) (get_or-set_same seen index true false (omega arith))
        | inr other ↦ get_or-set_other seen index i true false other ∙ marked
      ]

  pub seen_more : HasSeen given (n + 1) (set seen index true)
  seen_more =
      let long = S.long in
      record {
        long = length-set seen index true ∙ long;
        marked = λ q l.
            elim (cases_lt q n) [
              | inl below ↦ stays (index_at given q) (S.marked q below)
              | inr last ↦
                  let here : q ≡ n = omega arith in
                  ap (λ i. get_or (set seen index true) i false) (ap (index_at given) here ∙ is) ∙ get_or-set_same seen index true false (omega arith)
            ];
        given_before = λ i marked.
            elim (equal_or_not i index) [
              | inl here ↦ (n, omega arith, is ∙ sym here)
              | inr other ↦
                  let found = S.given_before i (sym (get_or-set_other seen index i true false other) ∙ marked) in
                  (found.0, omega (arith, found.1), found.2)
            ];
        distinct = λ q l repeated.
            elim (cases_lt q n) [
              | inl below ↦ S.distinct q below repeated
              | inr last ↦
                  let here : q ≡ n = omega arith in
                  let earlier : repeated.0 < n = omega (arith, repeated.1) in
                  let same : index_at given repeated.0 ≡ index = repeated.2 ∙ ap (index_at given) here ∙ is in
                  false≢true (sym new ∙ sym (ap (λ i. get_or seen i false) same) ∙ S.marked repeated.0 earlier)
            ];
      }
