-- The lists of the requests that sessions have sent, as requests are seen and answered.
use Rattle.std.proofs.Common.{ℕ, ◌≡◌, ◌≢◌, ◌+◌, ◌-◌, ◌≤◌, ◌<◌, zero, suc, Bool, true, false, List, [], ◌∷◌, ◌++◌, length, map, take, get_or, filter, inl, inr, refl, ap, sym, subst, ◌∙◌, arith, add-zero}
use Rattle.std.specs.Prelude.{◌==◌, not, nat_eq, nat_lt, Option, Some, None, slice_get, slice_set, unwrap_or, option_map, if◌then◌else◌}
use Rattle.std.proofs.lemmas.Bool.Decides.{nat_tests, eqb_tells}
use Rattle.std.proofs.lemmas.List.{take_more, length-take-le, append-nil}
use Rattle.std.proofs.lemmas.List.Elements.{filter-append}
use Rattle.std.proofs.lemmas.Option.{get_or_from_slice_get, slice_get-get_or, slice_get-map}
use Rattle.std.proofs.Math.Seq.{take-length}
use Rattle.gz_core.specs.Names.{Name}
use Rattle.gz_world.specs.States.{RequestAt, request_of, numbered}
use Rattle.gz_world.specs.declared.requests.Request.{Request}
use Rattle.gz_world.proofs.Members.{numbered_suc}
use Rattle.gz_world.proofs.Places.{get_set_same, get_set_other, get_below, get_there}
use Rattle.gz_script.specs.declared.outboxes.Outboxes.{Outboxes}
use Rattle.gz_script.specs.Outboxes.{outbox_of, AreUnansweredListed, IsAppended, IsReplaced}
use Rattle.gz_script.specs.Plays.{has_reply, numbers_sent, sent_by, unanswered, waiting}
use Rattle.gz_script.proofs.Growing.{AreKept, same_number, other_number}

number_same : (a b : ℕ) → a ≡ b → nat_eq a b ≡ true
number_same a b e = elim (eqb_tells a b) [ inl k ↦ k.0 | inr k ↦ absurd (k.1 e) ]

number_other : (a b : ℕ) → a ≢ b → nat_eq a b ≡ false
number_other a b e = elim (eqb_tells a b) [ inl k ↦ absurd (e k.1) | inr k ↦ k.0 ]

-- a list that is changed at one place
listed_set : (lists : List (List ℕ)) (at : ℕ) (x y : List ℕ) → slice_get lists at ≡ Some x → (s : ℕ) (t : Bool) → nat_eq s at ≡ t → outbox_of (slice_set lists at y) s ≡ (if t then y else outbox_of lists s)
listed_set lists at x y there s true e =
    let same : s ≡ at = same_number s at e in
    ap (outbox_of (slice_set lists at y)) same ∙ ap (λ (o : Option (List ℕ)). unwrap_or o []) (get_set_same lists at x y there)
listed_set lists at x y there s false e =
    let apart : s ≢ at = other_number s at e in
    ap (λ (o : Option (List ℕ)). unwrap_or o []) (get_set_other lists at s y apart)

pub replaced : (lists : List (List ℕ)) (at : ℕ) (x y : List ℕ) → slice_get lists at ≡ Some x → IsReplaced lists at y (slice_set lists at y)
replaced lists at x y there = λ s. listed_set lists at x y there s (nat_eq s at) refl

put_at : (lists : List (List ℕ)) (session : ℕ) (n : ℕ) (x : List ℕ) → 1 ≤ session → slice_get lists (session - 1) ≡ Some x → (s : ℕ) (t : Bool) → nat_eq session (s + 1) ≡ t
    → outbox_of (slice_set lists (session - 1) (x ++ n ∷ [])) s ≡ (if t then outbox_of lists s ++ n ∷ [] else outbox_of lists s)
put_at lists session n x positive there s true e =
    let same : session ≡ s + 1 = same_number session (s + 1) e in
    let at : s ≡ session - 1 = omega (arith, same) in
    let is : nat_eq s (session - 1) ≡ true = number_same s (session - 1) at in
    let was : outbox_of lists s ≡ x = ap (outbox_of lists) at ∙ ap (λ (o : Option (List ℕ)). unwrap_or o []) there in
    listed_set lists (session - 1) x (x ++ n ∷ []) there s true is ∙ ap (λ (xs : List ℕ). xs ++ n ∷ []) (sym was)
put_at lists session n x positive there s false e =
    let other : session ≢ s + 1 = other_number session (s + 1) e in
    let is_not : nat_eq s (session - 1) ≡ false = number_other s (session - 1) (λ at. other (omega (arith, at))) in
    listed_set lists (session - 1) x (x ++ n ∷ []) there s false is_not

pub put : (lists : List (List ℕ)) (session n : ℕ) (x : List ℕ) → 1 ≤ session → slice_get lists (session - 1) ≡ Some x → IsAppended lists session n (slice_set lists (session - 1) (x ++ n ∷ []))
put lists session n x positive there = λ s. put_at lists session n x positive there s (nat_eq session (s + 1)) refl

-- an empty list more is as good as none
pub listed_more : (lists : List (List ℕ)) (s : ℕ) → outbox_of (lists ++ [] ∷ []) s ≡ outbox_of lists s
listed_more [] zero = refl
listed_more [] (suc s) = refl
listed_more (x ∷ xs) zero = refl
listed_more (x ∷ xs) (suc s) = listed_more xs s

if_more : (t : Bool) (a : ℕ) (xs ys zs : List ℕ) → xs ≡ ys ++ zs → (if t then a ∷ xs else xs) ≡ (if t then a ∷ ys else ys) ++ zs
if_more true a xs ys zs h = ap (λ (l : List ℕ). a ∷ l) h
if_more false a xs ys zs h = h

-- one more request is of its session alone
sent-snoc : (first session : ℕ) (xs : List RequestAt) (r : RequestAt) → numbers_sent first session (xs ++ r ∷ []) ≡ numbers_sent first session xs ++ (if r.name.session == session then (first + length xs) ∷ [] else [])
sent-snoc first session [] r = rw add-zero refl
sent-snoc first session (x ∷ xs) r =
    let same : first + 1 + length xs ≡ first + length (x ∷ xs) = omega arith in
    let more : numbers_sent (first + 1) session (xs ++ r ∷ []) ≡ numbers_sent (first + 1) session xs ++ (if r.name.session == session then (first + length (x ∷ xs)) ∷ [] else []) =
    sent-snoc (first + 1) session xs r ∙ ap (λ k. numbers_sent (first + 1) session xs ++ (if r.name.session == session then k ∷ [] else [])) same in
    if_more (x.name.session == session) first (numbers_sent (first + 1) session (xs ++ r ∷ [])) (numbers_sent (first + 1) session xs) (if r.name.session == session then (first + length (x ∷ xs)) ∷ [] else []) more

more_unanswered : (net : List RequestAt) (t : Bool) (n : ℕ) (a b : List ℕ) → unanswered net a ≡ unanswered net b
    → unanswered net (if t then a ++ n ∷ [] else a) ≡ unanswered net (b ++ (if t then n ∷ [] else []))
more_unanswered net true n a b h =
    let waits : ℕ → Bool = λ k. not (has_reply (numbered net k)) in
    filter-append waits a (n ∷ []) ∙ ap (λ (xs : List ℕ). xs ++ unanswered net (n ∷ [])) h ∙ sym (filter-append waits b (n ∷ []))
more_unanswered net false n a b h = h ∙ ap (unanswered net) (sym (append-nil b))

-- a request was seen
pub list_next : (old new : Outboxes) (net : List RequestAt) (r : RequestAt) → AreUnansweredListed old net → slice_get net old.seen ≡ Some r → new.seen ≡ old.seen + 1
    → IsAppended old.lists.items r.name.session (old.seen + 1) new.lists.items → AreUnansweredListed new net
list_next old new net r h there seen put =
    let below = get_below net old.seen r there in
    let enough = h.seen in
    let front = take old.seen net in
    let taken : take new.seen net ≡ front ++ r ∷ [] = ap (λ k. take k net) seen ∙ take_more net old.seen r below ∙ ap (λ x. front ++ x ∷ []) (get_or_from_slice_get net old.seen r r there) in
    let count : 1 + length front ≡ old.seen + 1 = omega (arith, length-take-le old.seen net enough) in
    record {
      seen = omega (arith, seen, below);
      lists = λ s.
          ap (unanswered net) (put s)
          ∙ more_unanswered net (r.name.session == s + 1) (old.seen + 1) (outbox_of old.lists.items s) (sent_by (s + 1) front) (h.lists s)
          ∙ ap (λ k. unanswered net (sent_by (s + 1) front ++ (if r.name.session == s + 1 then k ∷ [] else []))) (sym count)
          ∙ ap (unanswered net) (sym (sent-snoc 1 (s + 1) front r))
          ∙ ap (λ (xs : List RequestAt). unanswered net (sent_by (s + 1) xs)) (sym taken);
    }

-- the next request, as it is kept
pub next_there : (net : List Request) (i : ℕ) (x : Request) → i < length net → x ≡ get_or net i x → slice_get (map request_of net) i ≡ Some (request_of x)
next_there net i x below is = slice_get-map request_of net i ∙ ap (option_map request_of) (slice_get-get_or net i x below ∙ ap (λ y. Some y) (sym is))

-- the same lists
pub list_same : (old new : Outboxes) (net : List RequestAt) → new.seen ≡ old.seen → ((s : ℕ) → outbox_of new.lists.items s ≡ outbox_of old.lists.items s) → AreUnansweredListed old net → AreUnansweredListed new net
list_same old new net seen same h =
    let enough = h.seen in
    record {
      seen = omega (arith, seen, enough);
      lists = λ s. ap (unanswered net) (same s) ∙ h.lists s ∙ ap (λ k. unanswered net (sent_by (s + 1) (take k net))) (sym seen);
    }

filter_one : (p q : ℕ → Bool) → ((n : ℕ) → p n ≡ true → q n ≡ true) → (x : ℕ) (xs : List ℕ) (a b : Bool) → p x ≡ a → q x ≡ b → filter p (filter q xs) ≡ filter p xs → filter p (filter q (x ∷ xs)) ≡ filter p (x ∷ xs)
filter_one p q narrow x xs true true pa qb h = rw (qb, pa) (ap (λ (l : List ℕ). x ∷ l) h)
filter_one p q narrow x xs true false pa qb h = let is : q x ≡ true = narrow x pa in let bad : true ≡ false = sym is ∙ qb in cc
filter_one p q narrow x xs false true pa qb h = rw (qb, pa) h
filter_one p q narrow x xs false false pa qb h = rw (qb, pa) h

-- what is picked twice is picked by the narrower test
filter_again : (p q : ℕ → Bool) → ((n : ℕ) → p n ≡ true → q n ≡ true) → (xs : List ℕ) → filter p (filter q xs) ≡ filter p xs
filter_again p q narrow [] = refl
filter_again p q narrow (x ∷ xs) = filter_one p q narrow x xs (p x) (q x) refl refl (filter_again p q narrow xs)

unanswered_again : (net : List RequestAt) (xs : List ℕ) → unanswered net (unanswered net xs) ≡ unanswered net xs
unanswered_again net xs = filter_again (λ k. not (has_reply (numbered net k))) (λ k. not (has_reply (numbered net k))) (λ n h. h) xs

replace_at : (mid : Outboxes) (net : List RequestAt) (at s : ℕ) (t : Bool) → nat_eq s at ≡ t → AreUnansweredListed mid net
    → unanswered net (if t then unanswered net (outbox_of mid.lists.items at) else outbox_of mid.lists.items s) ≡ unanswered net (outbox_of mid.lists.items s)
replace_at mid net at s true e h =
    let same : at ≡ s = sym (same_number s at e) in
    unanswered_again net (outbox_of mid.lists.items at) ∙ ap (λ k. unanswered net (outbox_of mid.lists.items k)) same
replace_at mid net at s false e h = refl

-- the list of a session was looked through
pub list_look : (mid new : Outboxes) (net : List RequestAt) (session : ℕ) → AreUnansweredListed mid net → new.seen ≡ mid.seen
    → IsReplaced mid.lists.items (session - 1) (unanswered net (outbox_of mid.lists.items (session - 1))) new.lists.items → AreUnansweredListed new net
list_look mid new net session h seen is =
    let enough = h.seen in
    record {
      seen = omega (arith, seen, enough);
      lists = λ s.
          ap (unanswered net) (is s) ∙ replace_at mid net (session - 1) s (nat_eq s (session - 1)) refl h ∙ h.lists s
          ∙ ap (λ k. unanswered net (sent_by (s + 1) (take k net))) (sym seen);
    }

same_place : (at : ℕ) → nat_eq at at ≡ true
same_place at = number_same at at refl

pub list_found : (mid new : Outboxes) (net : List RequestAt) (session : ℕ) → 1 ≤ session → AreUnansweredListed mid net → mid.seen ≡ length net
    → IsReplaced mid.lists.items (session - 1) (unanswered net (outbox_of mid.lists.items (session - 1))) new.lists.items → outbox_of new.lists.items (session - 1) ≡ waiting session net
list_found mid new net session positive h seen is =
    let old = outbox_of mid.lists.items (session - 1) in
    let whole : take mid.seen net ≡ net = ap (λ k. take k net) seen ∙ take-length net in
    let back : session - 1 + 1 ≡ session = omega arith in
    is (session - 1)
    ∙ ap (λ t. if t then unanswered net old else old) (same_place (session - 1))
    ∙ h.lists (session - 1)
    ∙ ap (λ (xs : List RequestAt). unanswered net (sent_by (session - 1 + 1) xs)) whole
    ∙ ap (λ k. unanswered net (sent_by k net)) back

replied_more : (a b : ℕ) → a ≤ b → nat_lt 0 a ≡ true → nat_lt 0 b ≡ true
replied_more a b h e = grind (arith, nat_tests)

still : (a b : ℕ) → a ≤ b → (t : Bool) → nat_lt 0 a ≡ t → not (nat_lt 0 b) ≡ true → not t ≡ true
still a b h true e later = let more = replied_more a b h e in let bad : false ≡ true = ap not (sym more) ∙ later in bad
still a b h false e later = refl

waits_in : (old new : List RequestAt) → AreKept old new → (n : ℕ) → not (has_reply (numbered new (suc n))) ≡ true → (o : Option RequestAt) → numbered old (suc n) ≡ o → not (has_reply o) ≡ true
waits_in old new kept n h None e = refl
waits_in old new kept n h (Some r) e =
    let k = kept n r (sym (numbered_suc old n) ∙ e) in
    let is : numbered new (suc n) ≡ Some k.0 = numbered_suc new n ∙ k.1.0 in
    still (length r.replies) (length k.0.replies) k.1.1.replies (nat_lt 0 (length r.replies)) refl (subst (λ o. not (has_reply o) ≡ true) is h)

-- a request that waits has waited before
waited : (old new : List RequestAt) → AreKept old new → (n : ℕ) → not (has_reply (numbered new n)) ≡ true → not (has_reply (numbered old n)) ≡ true
waited old new kept zero h = refl
waited old new kept (suc n) h = waits_in old new kept n h (numbered old (suc n)) refl

unanswered_later : (old new : List RequestAt) → AreKept old new → (a b : List ℕ) → unanswered old a ≡ unanswered old b → unanswered new a ≡ unanswered new b
unanswered_later old new kept a b h =
    let p : ℕ → Bool = λ k. not (has_reply (numbered new k)) in
    let q : ℕ → Bool = λ k. not (has_reply (numbered old k)) in
    sym (filter_again p q (waited old new kept) a) ∙ ap (filter p) h ∙ filter_again p q (waited old new kept) b

if_test : (t u : Bool) (a : ℕ) (xs ys : List ℕ) → t ≡ u → xs ≡ ys → (if t then a ∷ xs else xs) ≡ (if u then a ∷ ys else ys)
if_test t u a xs ys e h = ap (λ b. if b then a ∷ xs else xs) e ∙ ap (λ (l : List ℕ). if u then a ∷ l else l) h

sent_same : (k first session : ℕ) (xs ys : List RequestAt) → k ≤ length xs → AreKept xs ys → numbers_sent first session (take k xs) ≡ numbers_sent first session (take k ys)
sent_same zero first session xs ys few kept = refl
sent_same (suc k) first session [] ys few kept = absurd (omega arith)
sent_same (suc k) first session (x ∷ xs) [] few kept = let q = kept 0 x refl in let bad : None ≡ Some q.0 = q.1.0 in cc
sent_same (suc k) first session (x ∷ xs) (y ∷ ys) few kept =
    let q = kept 0 x refl in
    let is : Some y ≡ Some q.0 = q.1.0 in
    let y_is : y ≡ q.0 = cc in
    let name : y.name ≡ x.name = ap (λ (r : RequestAt). r.name) y_is ∙ q.1.1.name in
    let fewer : k ≤ length xs = omega arith in
    if_test (x.name.session == session) (y.name.session == session) first (numbers_sent (first + 1) session (take k xs)) (numbers_sent (first + 1) session (take k ys))
    (ap (λ (n : Name). n.session == session) (sym name)) (sent_same k (first + 1) session xs ys fewer (λ i r there. kept (suc i) r there))

kept_length : (old new : List RequestAt) → AreKept old new → (t : Bool) → nat_lt (length new) (length old) ≡ t → length old ≤ length new
kept_length old new kept true e =
    let below : length new < length old = grind (arith, nat_tests) in
    let there = get_there old (length new) below in
    let k = kept (length new) there.0 there.1 in
    let bad = get_below new (length new) k.0 k.1.0 in
    absurd (omega (arith, bad))
kept_length old new kept false e = grind (arith, nat_tests)

-- the lists stay right while the requests are kept
pub list_later : (boxes : Outboxes) (old new : List RequestAt) → AreKept old new → AreUnansweredListed boxes old → AreUnansweredListed boxes new
list_later boxes old new kept h =
    let enough = h.seen in
    let longer = kept_length old new kept (nat_lt (length new) (length old)) refl in
    record {
      seen = omega (arith, enough, longer);
      lists = λ s.
          unanswered_later old new kept (outbox_of boxes.lists.items s) (sent_by (s + 1) (take boxes.seen old)) (h.lists s)
          ∙ ap (unanswered new) (sent_same boxes.seen 1 (s + 1) old new enough kept);
    }
