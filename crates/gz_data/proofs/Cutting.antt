-- An object into records: what the loops keep, and what they come to.
use Rattle.std.proofs.Common.{◌≡◌, ℕ, ◌+◌, ◌<◌, List, [], ◌∷◌, ◌++◌, length, map, get_or, refl, sym, ap, ◌∙◌, arith}
use Rattle.std.specs.Prelude.{Vec}
use Rattle.std.specs.declared.alloc.Global.{Global}
use Rattle.std.specs.List.{range_with_len}
use Rattle.std.proofs.lemmas.List.{get_or-map, length-map}
use Rattle.std.proofs.lemmas.List.FromFn.{map-range_with_len_more, length-map-range_with_len, get_or-map-range_with_len}
use Rattle.sha2.specs.Sha256.{sha256}
use Rattle.gz_config.specs.declared.Config.{Config}
use Rattle.gz_core.specs.Names.{Name}
use Rattle.gz_core.specs.declared.fragments.FragRef.{FragRef}
use Rattle.gz_code.specs.CodeWord.{IsSplit}
use Rattle.gz_data.specs.Own.{record_at, fragments_from, IsMade}

-- one more element
pub list_more : {X : Type 0} (f : ℕ → X) (i : ℕ) (old new : List X) (x : X) → old ≡ map f (range_with_len 0 i) → new ≡ old ++ x ∷ [] → x ≡ f i → new ≡ map f (range_with_len 0 (i + 1))
list_more f i old new x kept pushed same =
    pushed ∙ ap (λ t. t ++ x ∷ []) kept ∙ ap (λ t. map f (range_with_len 0 i) ++ t ∷ []) same ∙ sym (map-range_with_len_more f 0 i i (omega arith))

-- the bytes of the piece at a place
pub piece_at : (pieces : List (Vec ℕ Global)) (i : ℕ) (piece : Vec ℕ Global) → i < length pieces → piece ≡ get_or pieces i piece → get_or (map (λ (p : Vec ℕ Global). p.items) pieces) i [] ≡ piece.items
piece_at pieces i piece l e = get_or-map (λ (p : Vec ℕ Global). p.items) pieces i piece [] l ∙ ap (λ (p : Vec ℕ Global). p.items) (sym e)

-- the pieces as they were lent
pub records_are : (f : List (List ℕ) → ℕ → List ℕ) (vecs lent : List (Vec ℕ Global)) (records : List (List ℕ)) → lent ≡ vecs
    → records ≡ map (f (map (λ (p : Vec ℕ Global). p.items) lent)) (range_with_len 0 (length lent))
    → records ≡ map (f (map (λ (p : Vec ℕ Global). p.items) vecs)) (range_with_len 0 (length (map (λ (p : Vec ℕ Global). p.items) vecs)))
records_are f vecs lent records e h =
    h ∙ ap (λ (ps : List (Vec ℕ Global)). map (f (map (λ (p : Vec ℕ Global). p.items) ps)) (range_with_len 0 (length ps))) e
    ∙ ap (λ (n : ℕ). map (f (map (λ (p : Vec ℕ Global). p.items) vecs)) (range_with_len 0 n)) (sym (length-map vecs (λ (p : Vec ℕ Global). p.items)))

-- the fragments of the records as they were lent
pub fragments_are : (f : ℕ → List ℕ) (n : ℕ) (records lent : List (List ℕ)) (fragments : List FragRef) → lent ≡ records → records ≡ map f (range_with_len 0 n)
    → ((g : ℕ → List ℕ) → lent ≡ map g (range_with_len 0 (length lent)) → fragments ≡ fragments_from g (length lent))
    → fragments ≡ fragments_from f (length records)
fragments_are f n records lent fragments e are h =
    let count : n ≡ length lent = sym (ap length (e ∙ are) ∙ length-map-range_with_len f 0 n) in
    h f (e ∙ are ∙ ap (λ (j : ℕ). map f (range_with_len 0 j)) count) ∙ ap (λ (rs : List (List ℕ)). fragments_from f (length rs)) e

-- one record for each piece
pub count_records : (k m : ℕ) (object : List ℕ) (pieces records : List (List ℕ)) (f : ℕ → List ℕ) → IsSplit k m object pieces → records ≡ map f (range_with_len 0 (length pieces)) → length records ≡ k + m
count_records k m object pieces records f split are = ap length are ∙ length-map-range_with_len f 0 (length pieces) ∙ split.count

module _ (c : Config) (name : Name) (key object : List ℕ) (pieces records : List (List ℕ)) (fragments : List FragRef)
    (split : IsSplit c.k c.m object pieces)
    (are_records : records ≡ map (record_at c name key object pieces) (range_with_len 0 (length pieces)))
    (are_fragments : fragments ≡ fragments_from (record_at c name key object pieces) (length records)) where
  made_fragments : fragments ≡ fragments_from (record_at c name key object pieces) (c.k + c.m)
  made_fragments = are_fragments ∙ ap (fragments_from (record_at c name key object pieces)) (count_records c.k c.m object pieces records (record_at c name key object pieces) split are_records)

  pub count_fragments : length fragments ≡ c.k + c.m
  count_fragments = ap length made_fragments ∙ length-map-range_with_len (λ i. record { site = i; digest = sha256 (record_at c name key object pieces i) }) 0 (c.k + c.m)

  made_record : (i : ℕ) → i < c.k + c.m → get_or records i [] ≡ record_at c name key object pieces i
  made_record i l =
      let count = split.count in
      ap (λ (rs : List (List ℕ)). get_or rs i []) are_records
      ∙ get_or-map-range_with_len (record_at c name key object pieces) 0 (length pieces) i i [] (omega arith) (omega arith)

  pub made : IsMade c name key object (record { name = name; length = length object; k = c.k; m = c.m; fragments = fragments }) records
  made = record {
    own = (
      record { name = name; length = length object; k = c.k; m = c.m; fragments = fragments },
      refl,
      (pieces, split, ap (λ (fs : List FragRef). record { name = name; length = length object; k = c.k; m = c.m; fragments = fs }) made_fragments),
    );
    count = count_records c.k c.m object pieces records (record_at c name key object pieces) split are_records;
    each = λ i l. (pieces, split, l, made_record i l);
  }
