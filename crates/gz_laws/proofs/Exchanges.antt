-- The exchanges of a call among requests that grow, change and stay.
use Rattle.std.proofs.Common.{◌≡◌, ℕ, zero, suc, ◌+◌, ◌<◌, inl, inr, List, [], ◌∷◌, ◌++◌, Some, Bool, true, false, length, map, refl, ap, sym, ◌∙◌, arith, append_assoc}
use Rattle.std.proofs.lemmas.Bool.{cases_Bool}
use Rattle.std.proofs.lemmas.Bool.Decides.{nat_tests}
use Rattle.std.specs.Prelude.{◌==◌, if◌then◌else◌, slice_get, slice_set}
use Rattle.gz_core.specs.Names.{Name, same_name}
use Rattle.gz_core.proofs.Ballots.{name_means, name_refl}
use Rattle.gz_laws.proofs.Keys.{name_apart}
use Rattle.gz_laws.proofs.Closing.{closing_keeps}
use Rattle.gz_client.specs.Traces.{IsClosed}
use Rattle.gz_core.specs.declared.requests.Out.{Out}
use Rattle.gz_core.specs.History.{Action, Sent, asked_of, sent_from}
use Rattle.gz_world.specs.States.{RequestAt, sent_request, sent_requests}
use Rattle.gz_laws.specs.Exchanged.{Exchange, exchange_of, exchanges_from, just_sent, changed_at, exchanges_told}

abbrev named_or : Bool → Exchange → List Exchange → List Exchange
named_or b x xs = if b then x ∷ xs else xs

-- requests one after the other
pub exchanges_append : (c : ℕ) (n : ℕ) (xs ys : List RequestAt) (name : Name) → exchanges_from c n (xs ++ ys) name ≡ exchanges_from c n xs name ++ exchanges_from c (n + length xs) ys name
exchanges_append c n [] ys name = let e : n ≡ n + 0 = omega arith in ap (λ k. exchanges_from c k ys name) e
exchanges_append c n (r ∷ rs) ys name =
    let e : n + 1 + length rs ≡ n + suc (length rs) = omega arith in
    let more : exchanges_from c (n + 1) (rs ++ ys) name ≡ exchanges_from c (n + 1) rs name ++ exchanges_from c (n + suc (length rs)) ys name
    = exchanges_append c (n + 1) rs ys name ∙ ap (λ k. exchanges_from c (n + 1) rs name ++ exchanges_from c k ys name) e in
    elim (same_name r.name name) as (λ b. named_or b (exchange_of c n r) (exchanges_from c (n + 1) (rs ++ ys) name) ≡ named_or b (exchange_of c n r) (exchanges_from c (n + 1) rs name) ++ exchanges_from c (n + suc (length rs)) ys name) [
      | true ↦ ap (λ xs. exchange_of c n r ∷ xs) more
      | false ↦ more
    ]

-- requests that were just sent, under numbers from n on
abbrev pub exchanges_sent : ℕ → List Out → List Exchange
exchanges_sent n [] = []
exchanges_sent n (o ∷ os) = just_sent (asked_of n o) ∷ exchanges_sent (n + 1) os

pub sent_exchanges : (c : ℕ) (n : ℕ) (name : Name) (tick : ℕ) (outs : List Out) → exchanges_from c n (sent_requests name tick outs) name ≡ exchanges_sent n outs
sent_exchanges c n name tick [] = refl
sent_exchanges c n name tick (o ∷ os) =
    ap (λ b. named_or b (exchange_of c n (sent_request name tick o)) (exchanges_from c (n + 1) (sent_requests name tick os) name)) (name_refl name)
    ∙ ap (λ xs. just_sent (asked_of n o) ∷ xs) (sent_exchanges c (n + 1) name tick os)

-- and they are no other call's
pub sent_others : (c : ℕ) (n : ℕ) (name other : Name) (tick : ℕ) (outs : List Out) → (name ≡ other → ⊥) → exchanges_from c n (sent_requests name tick outs) other ≡ []
sent_others c n name other tick [] apart = refl
sent_others c n name other tick (o ∷ os) apart =
    ap (λ b. named_or b (exchange_of c n (sent_request name tick o)) (exchanges_from c (n + 1) (sent_requests name tick os) other)) (name_apart name other apart)
    ∙ sent_others c (n + 1) name other tick os apart

-- a call of whose name no request is
pub none_named : (c : ℕ) (n : ℕ) (xs : List RequestAt) (name : Name) → ((i : ℕ) (r : RequestAt) → slice_get xs i ≡ Some r → r.name ≡ name → ⊥) → exchanges_from c n xs name ≡ []
none_named c n [] name apart = refl
none_named c n (r ∷ rs) name apart =
    ap (λ b. named_or b (exchange_of c n r) (exchanges_from c (n + 1) rs name)) (name_apart r.name name (apart 0 r refl))
    ∙ none_named c (n + 1) rs name (λ i q h. apart (suc i) q h)

-- a change of a request with a number below these
below_same : (c m n : ℕ) (f : Exchange → Exchange) (xs : List RequestAt) (name : Name) → m < n → map (changed_at m f) (exchanges_from c n xs name) ≡ exchanges_from c n xs name
below_same c m n f [] name below = refl
below_same c m n f (r ∷ rs) name below =
    let other : (n == m) ≡ false = grind (arith, nat_tests) in
    let here : changed_at m f (exchange_of c n r) ≡ exchange_of c n r = ap (λ b. if b then f (exchange_of c n r) else exchange_of c n r) other in
    let l : m < n + 1 = omega arith in
    let more = below_same c m (n + 1) f rs name l in
    elim (same_name r.name name) as (λ b. map (changed_at m f) (named_or b (exchange_of c n r) (exchanges_from c (n + 1) rs name)) ≡ named_or b (exchange_of c n r) (exchanges_from c (n + 1) rs name)) [
      | true ↦ ap (λ x. x ∷ map (changed_at m f) (exchanges_from c (n + 1) rs name)) here ∙ ap (λ xs. exchange_of c n r ∷ xs) more
      | false ↦ more
    ]

-- one request of the call changed
pub exchanges_changed : (c : ℕ) (n i : ℕ) (f : Exchange → Exchange) (xs : List RequestAt) (r q : RequestAt) → slice_get xs i ≡ Some r → q.name ≡ r.name → exchange_of c (n + i) q ≡ f (exchange_of c (n + i) r)
    → exchanges_from c n (slice_set xs i q) r.name ≡ map (changed_at (n + i) f) (exchanges_from c n xs r.name)
exchanges_changed c n i f [] r q there name is = cc
exchanges_changed c n zero f (x ∷ xs) r q there name is =
    let z : n + 0 ≡ n = omega arith in
    let same : x ≡ r = cc in
    let mine : same_name q.name r.name ≡ true = ap (λ k. same_name k r.name) name ∙ name_refl r.name in
    let own : same_name x.name r.name ≡ true = ap (λ (k : RequestAt). same_name k.name r.name) same ∙ name_refl r.name in
    let test : (n == n + 0) ≡ true = grind (arith, nat_tests) in
    let rest = exchanges_from c (n + 1) xs r.name in
    let l : n + 0 < n + 1 = omega arith in
    let here : changed_at (n + 0) f (exchange_of c n x) ≡ exchange_of c n q
    = ap (λ b. if b then f (exchange_of c n x) else exchange_of c n x) test ∙ ap (λ (k : RequestAt). f (exchange_of c n k)) same ∙ ap (λ k. f (exchange_of c k r)) (sym z) ∙ sym is ∙ ap (λ k. exchange_of c k q) z in
    ap (λ b. named_or b (exchange_of c n q) rest) mine
    ∙ sym (ap (λ b. map (changed_at (n + 0) f) (named_or b (exchange_of c n x) rest)) own ∙ ap (λ k. k ∷ map (changed_at (n + 0) f) rest) here ∙ ap (λ ks. exchange_of c n q ∷ ks) (below_same c (n + 0) (n + 1) f xs r.name l))
exchanges_changed c n (suc i) f (x ∷ xs) r q there name is =
    let e : n + 1 + i ≡ n + suc i = omega arith in
    let test : (n == n + suc i) ≡ false = grind (arith, nat_tests) in
    let here : changed_at (n + suc i) f (exchange_of c n x) ≡ exchange_of c n x = ap (λ b. if b then f (exchange_of c n x) else exchange_of c n x) test in
    let more = exchanges_changed c (n + 1) i f xs r q there name (ap (λ k. exchange_of c k q) e ∙ is ∙ ap (λ k. f (exchange_of c k r)) (sym e)) in
    let now : exchanges_from c (n + 1) (slice_set xs i q) r.name ≡ map (changed_at (n + suc i) f) (exchanges_from c (n + 1) xs r.name) = more ∙ ap (λ k. map (changed_at k f) (exchanges_from c (n + 1) xs r.name)) e in
    elim (same_name x.name r.name) as (λ b. named_or b (exchange_of c n x) (exchanges_from c (n + 1) (slice_set xs i q) r.name) ≡ map (changed_at (n + suc i) f) (named_or b (exchange_of c n x) (exchanges_from c (n + 1) xs r.name))) [
      | true ↦ ap (λ ks. exchange_of c n x ∷ ks) now ∙ ap (λ k. k ∷ map (changed_at (n + suc i) f) (exchanges_from c (n + 1) xs r.name)) (sym here)
      | false ↦ now
    ]

-- a request changed that is another call's, or of which the exchange is the same
pub exchanges_kept : (c : ℕ) (n i : ℕ) (xs : List RequestAt) (r q : RequestAt) (name : Name) → slice_get xs i ≡ Some r → q.name ≡ r.name → (r.name ≡ name → exchange_of c (n + i) q ≡ exchange_of c (n + i) r)
    → exchanges_from c n (slice_set xs i q) name ≡ exchanges_from c n xs name
exchanges_kept c n i [] r q name there own is = cc
exchanges_kept c n zero (x ∷ xs) r q name there own is =
    let z : n + 0 ≡ n = omega arith in
    let same : x ≡ r = cc in
    let rest = exchanges_from c (n + 1) xs name in
    ap (λ k. named_or (same_name k name) (exchange_of c n q) rest) own
    ∙ (elim (cases_Bool (same_name r.name name)) [
      | inl e ↦ ap (λ k. named_or (same_name r.name name) k rest) (ap (λ k. exchange_of c k q) (sym z) ∙ is (name_means r.name name e) ∙ ap (λ k. exchange_of c k r) z)
      | inr e ↦ ap (λ b. named_or b (exchange_of c n q) rest) e ∙ sym (ap (λ b. named_or b (exchange_of c n r) rest) e)
    ])
    ∙ ap (λ (k : RequestAt). named_or (same_name k.name name) (exchange_of c n k) rest) (sym same)
exchanges_kept c n (suc i) (x ∷ xs) r q name there own is =
    let e : n + 1 + i ≡ n + suc i = omega arith in
    ap (λ ks. named_or (same_name x.name name) (exchange_of c n x) ks) (exchanges_kept c (n + 1) i xs r q name there own (λ k. ap (λ m. exchange_of c m q) e ∙ is k ∙ ap (λ m. exchange_of c m r) (sym e)))

-- what a call's trace tells of the requests that it sends
pub told_sent : (first : ℕ) (outs : List Out) (ms : List Action) → exchanges_told (sent_from first outs ms) ≡ exchanges_told ms ++ exchanges_sent first outs
told_sent first [] ms = append_nil (exchanges_told ms)
  where
    append_nil : (xs : List Exchange) → xs ≡ xs ++ []
    append_nil [] = refl
    append_nil (x ∷ xs) = ap (λ ks. x ∷ ks) (append_nil xs)
told_sent first (o ∷ os) ms = told_sent (first + 1) os (Sent (asked_of first o) ∷ ms) ∙ append_assoc (exchanges_told ms) (just_sent (asked_of first o) ∷ []) (exchanges_sent (first + 1) os)

-- how an event closes tells of no request
pub told_closing : (closing ms : List Action) → IsClosed closing → exchanges_told (closing ++ ms) ≡ exchanges_told ms
told_closing closing ms closed = closing_keeps (λ ks. exchanges_told ks ≡ exchanges_told ms) closing ms closed refl refl refl
