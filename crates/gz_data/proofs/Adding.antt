-- One more request comes last.
use Rattle.std.proofs.Common.{◌≡◌, ℕ, zero, suc, ◌+◌, ◌<◌, ◌≤◌, List, [], ◌∷◌, ◌++◌, take, get_or, length, length-append, append_assoc, refl, sym, ap, ◌∙◌, arith}
use Rattle.std.proofs.lemmas.List.{take_more}
use Rattle.gz_core.specs.Names.{Name}
use Rattle.gz_core.specs.declared.fragments.FragRef.{FragRef}
use Rattle.gz_core.specs.declared.requests.Out.{Out}
use Rattle.gz_data.specs.Requests.{put_out, puts_from, get_out, gets_from, awaited_from, AreAdded}
use Rattle.gz_data.specs.declared.requests.AwaitedBlob.{AwaitedBlob}

pub puts_push : (name : Name) (key : List ℕ) (i : ℕ) (records : List (List ℕ)) (bytes : List ℕ)
    → puts_from name key i (records ++ bytes ∷ []) ≡ puts_from name key i records ++ put_out name key (i + length records) bytes ∷ []
puts_push name key i [] bytes = ap (λ (n : ℕ). put_out name key n bytes ∷ []) (omega arith)
puts_push name key i (first ∷ records) bytes =
    ap (λ (outs : List Out). put_out name key i first ∷ outs)
    (puts_push name key (i + 1) records bytes ∙ ap (λ (n : ℕ). puts_from name key (i + 1) records ++ put_out name key n bytes ∷ []) (omega arith))

pub gets_push : (name : Name) (key : List ℕ) (i : ℕ) (fragments : List FragRef) (fragment : FragRef)
    → gets_from name key i (fragments ++ fragment ∷ []) ≡ gets_from name key i fragments ++ get_out name key (i + length fragments) fragment ∷ []
gets_push name key i [] fragment = ap (λ (n : ℕ). get_out name key n fragment ∷ []) (omega arith)
gets_push name key i (first ∷ fragments) fragment =
    ap (λ (outs : List Out). get_out name key i first ∷ outs)
    (gets_push name key (i + 1) fragments fragment ∙ ap (λ (n : ℕ). gets_from name key (i + 1) fragments ++ get_out name key n fragment ∷ []) (omega arith))

pub awaited_push : (number i n : ℕ) → awaited_from number i (suc n) ≡ awaited_from number i n ++ record { number = number + n; index = i + n } ∷ []
awaited_push number i zero =
    let at : ℕ → ℕ → List AwaitedBlob = λ a b. record { number = a; index = b } ∷ [] in
    ap (λ (a : ℕ). at a i) (omega arith) ∙ ap (λ (b : ℕ). at (number + 0) b) (omega arith)
awaited_push number i (suc n) =
    let at : ℕ → ℕ → List AwaitedBlob = λ a b. record { number = number; index = i } ∷ (awaited_from (number + 1) (i + 1) n ++ record { number = a; index = b } ∷ []) in
    ap (λ (blobs : List AwaitedBlob). record { number = number; index = i } ∷ blobs) (awaited_push (number + 1) (i + 1) n)
    ∙ (ap (λ (a : ℕ). at a (i + 1 + n)) (omega arith) ∙ ap (λ (b : ℕ). at (number + suc n) b) (omega arith))

pub puts_length : (name : Name) (key : List ℕ) (i : ℕ) (records : List (List ℕ)) → length (puts_from name key i records) ≡ length records
puts_length name key i [] = refl
puts_length name key i (bytes ∷ records) = ap suc (puts_length name key (i + 1) records)

pub gets_length : (name : Name) (key : List ℕ) (i : ℕ) (fragments : List FragRef) → length (gets_from name key i fragments) ≡ length fragments
gets_length name key i [] = refl
gets_length name key i (fragment ∷ fragments) = ap suc (gets_length name key (i + 1) fragments)

pub awaited_length : (number i n : ℕ) → length (awaited_from number i n) ≡ n
awaited_length number i zero = refl
awaited_length number i (suc n) = ap suc (awaited_length (number + 1) (i + 1) n)

-- one more request is added
pub added_push : (first : ℕ) (start send : List Out) (awaited : List AwaitedBlob) (added : List Out) (out : Out) (sends : List Out) (awaits : List AwaitedBlob)
    → sends ≡ send ++ out ∷ [] → awaits ≡ awaited ++ record { number = first + length send; index = length awaited } ∷ []
    → AreAdded first start send awaited added → AreAdded first start sends awaits (added ++ out ∷ [])
added_push first start send awaited added out sends awaits e f h =
    let more : List Out → List Out = λ outs. outs ++ out ∷ [] in
    let last : ℕ → ℕ → List AwaitedBlob = λ n i. awaited_from (first + length start) 0 (length added) ++ record { number = n; index = i } ∷ [] in
    let number : first + length send ≡ first + length start + length added = let room = h.room in omega arith in
    let count : length (added ++ out ∷ []) ≡ suc (length added) = length-append added (out ∷ []) ∙ omega arith in
    record {
      sent = e ∙ (ap more h.sent ∙ append_assoc start added (out ∷ []));
      awaited_is =
          f ∙ (ap (λ (blobs : List AwaitedBlob). blobs ++ record { number = first + length send; index = length awaited } ∷ []) h.awaited_is
          ∙ (ap (λ (n : ℕ). last n (length awaited)) number ∙ (ap (λ (i : ℕ). last (first + length start + length added) i) h.count
          ∙ (ap (λ (i : ℕ). last (first + length start + length added) i) (omega arith) ∙ (sym (awaited_push (first + length start) 0 (length added)) ∙ ap (awaited_from (first + length start) 0) (sym count))))));
      count = ap length f ∙ (length-append awaited (record { number = first + length send; index = length awaited } ∷ []) ∙ (let same = h.count in omega (arith, count)));
      room = ap length e ∙ (length-append send (out ∷ []) ∙ (let room = h.room in omega (arith, count)));
    }

take_below : {X : Type 0} (i : ℕ) (xs : List X) → length (take i xs) ≤ i
take_below zero xs = omega arith
take_below (suc i) [] = omega arith
take_below (suc i) (x ∷ xs) = let h = take_below i xs in omega arith

-- where fragments are added one after the other, so many were
pub gets_below : (name : Name) (key : List ℕ) (i : ℕ) (fragments : List FragRef) → length (gets_from name key 0 (take i fragments)) ≤ i
gets_below name key i fragments = omega (arith, gets_length name key 0 (take i fragments), take_below i fragments)

pub gets_more : (name : Name) (key : List ℕ) (fragments : List FragRef) (i : ℕ) (fragment : FragRef) → i < length fragments → fragment ≡ get_or fragments i fragment
    → gets_from name key 0 (take (i + 1) fragments) ≡ gets_from name key 0 (take i fragments) ++ get_out name key (length (gets_from name key 0 (take i fragments))) fragment ∷ []
gets_more name key fragments i fragment l e =
    let front : List FragRef = take i fragments in
    let last : ℕ → FragRef → List Out = λ n f. gets_from name key 0 front ++ get_out name key n f ∷ [] in
    ap (gets_from name key 0) (take_more fragments i fragment l) ∙ (gets_push name key 0 front (get_or fragments i fragment)
    ∙ (ap (λ (n : ℕ). last n (get_or fragments i fragment)) (omega (arith, gets_length name key 0 front)) ∙ ap (last (length (gets_from name key 0 front))) (sym e)))
