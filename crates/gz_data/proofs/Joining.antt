-- Pieces as `join` takes them, and what it makes of them.
use Rattle.std.proofs.Common.{◌≡◌, ℕ, zero, suc, ◌+◌, ◌<◌, List, [], ◌∷◌, length, map, get_or, refl, sym, ap, ◌∙◌, ⊎_elim, inl, inr, arith}
use Rattle.std.specs.Prelude.{Vec, ◌⊎◌}
use Rattle.std.specs.declared.alloc.Global.{Global}
use Rattle.gz_core.specs.Puts.{PutData}
use Rattle.gz_code.specs.CodeWord.{IsSplit}
use Rattle.gz_code.specs.Decoding.{Given, index_at, bytes_given, IsRefused, IsDecoded, AreAmong}
use Rattle.gz_code.specs.declared.error.CodeError.{CodeError}
use Rattle.gz_code.specs.declared.error.CodeError.TheVariants.{NoMemory}
use Rattle.gz_code.proofs.Refusals.{nothing_refused}
use Rattle.gz_data.specs.Whole.{pieces_of, no_piece, ArePieces, AreOf, IsRebuilt}

pub count_pieces : (given : Given) → length (pieces_of given) ≡ length given
count_pieces [] = refl
count_pieces (p ∷ ps) = ap suc (count_pieces ps)

index_is : (given : Given) (j : ℕ) → (get_or (pieces_of given) j no_piece).0 ≡ index_at given j
index_is [] j = refl
index_is (p ∷ ps) zero = refl
index_is (p ∷ ps) (suc j) = index_is ps j

bytes_are : (given : Given) (j : ℕ) → (get_or (pieces_of given) j no_piece).1 ≡ get_or (bytes_given given) j []
bytes_are [] j = refl
bytes_are (p ∷ ps) zero = refl
bytes_are (p ∷ ps) (suc j) = bytes_are ps j

-- of pieces of one value `join` refuses none
pub only_memory : (x : PutData) (given : Given) (e : CodeError) → ArePieces x (pieces_of given) → length given ≡ x.k → (e ≡ NoMemory) ⊎ IsRefused x.k x.m x.length given e → e ≡ NoMemory
only_memory x given e are enough (inl memory) = memory
only_memory x given e are enough (inr refused) =
    let count = count_pieces given in
    absurd (nothing_refused x.k x.m x.length given e
    (λ place l beyond. absurd (omega (arith, are.within place (omega arith), index_is given place)))
    (λ place l repeated. are.apart repeated.0 place repeated.1 (omega arith) (index_is given repeated.0 ∙ repeated.2 ∙ sym (index_is given place)))
    (λ place l misfit. misfit (ap length (sym (bytes_are given place)) ∙ are.wide place (omega arith)))
    (omega arith) refused)

-- what `join` gives is the object of which these are the pieces
pub is_rebuilt : (x : PutData) (given : Given) (bytes : List ℕ) → length given ≡ x.k → IsDecoded x.k x.length given bytes
    → ((object : List ℕ) (all : List (List ℕ)) → IsSplit x.k x.m object all → length object ≡ x.length → AreAmong x.k given all → bytes ≡ object)
    → IsRebuilt x.k x.m x.length (pieces_of given) bytes
is_rebuilt x given bytes enough decoded gives_back =
    let count = count_pieces given in
    record {
      whole = count ∙ enough;
      long = decoded.long;
      same = λ object all split long are.
          gives_back object all split long
          (λ j l. sym (bytes_are given j) ∙ are j (omega arith) ∙ ap (λ i. get_or all i []) (index_is given j));
    }
