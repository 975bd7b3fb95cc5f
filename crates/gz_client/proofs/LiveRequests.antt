-- Which requests are live, and which of them is the lowest.
use Rattle.std.proofs.Common.{◌≡◌, ◌==◌, ℕ, zero, suc, ◌<◌, ◌≤◌, Bool, true, false, cond, List, [], ◌∷◌, Option, Some, None, refl, sym, ap, ◌∙◌, subst, inl, inr, arith}
use Rattle.std.specs.Prelude.{nat_lt}
use Rattle.std.proofs.lemmas.Bool.{cases_eq, cases_lt, false≢true, eqb-true}
use Rattle.std.proofs.lemmas.Bool.Decides.{nat_tests}
use Rattle.std.proofs.lemmas.Option.{none-some}
use Rattle.gz_config.specs.declared.Config.{Config}
use Rattle.gz_core.specs.Counts.{count_sites}
use Rattle.gz_core.specs.Awaiting.{awaiting, without_rows}
use Rattle.gz_core.specs.declared.calls.Answer.{Answer}
use Rattle.gz_core.specs.History.{Asked, Action, Trace}
use Rattle.gz_core.proofs.Counting.{count_found}
use Rattle.gz_round.specs.Numbering.{awaits_number, live_where}
use Rattle.gz_round.specs.Sites.{site_now}
use Rattle.gz_round.proofs.Awaits.{to_site, awaits_to}
use Rattle.gz_client.specs.Lowest.{IsLowestLive}
use Rattle.gz_client.specs.Traces.{Holds, Awaits, IsAwaited, IsLive, IsLiveAtIn, IsLiveAtWhile, live, live_in, live_among}
use Rattle.gz_client.specs.declared.client.Client.{Client}
use Rattle.gz_client.proofs.Counted.{some_counted, counted_some}
use Rattle.gz_client.proofs.Holding.{live_at_means}

last_or_below : (n : ℕ) (p : ℕ → Bool) (s : ℕ) → s < suc n → p s ≡ true → p n ≡ false → s < n
last_or_below n p s l h e =
    elim (cases_eq s n) [
      | inl k ↦ absurd (false≢true (sym e ∙ (ap p (sym k) ∙ h)))
      | inr k ↦ omega arith
    ]

-- where a site passes, the count is above 0
count_some : (n : ℕ) (p : ℕ → Bool) (s : ℕ) → s < n → p s ≡ true → 0 < count_sites n p
count_some zero p s l h = absurd (omega arith)
count_some (suc n) p s l h =
    elim (p n) as (λ b. p n ≡ b → 0 < cond b (suc (count_sites n p)) (count_sites n p)) [
      | true ↦ λ e. omega arith
      | false ↦ λ e. count_some n p s (last_or_below n p s l h e) h
    ] refl

some_above : (k : ℕ) → nat_lt 0 k ≡ true → 0 < k
some_above k h = grind (arith, nat_tests)

below_is : (m n : ℕ) → m < n → nat_lt m n ≡ true
below_is m n l = grind (arith, nat_tests)

-- a request that is awaited under a number that passes is counted
awaits_counted : (c : Config) (p : ℕ → Bool) (ms : List Action) (a : Asked) → Awaits c ms a → p a.number ≡ true → 0 < live_among c p ms
awaits_counted c p ms a (inl row) e =
    let some = count_some c.n (λ s. awaits_number p (site_now ms s).awaits) a.site row.0 (ap (awaits_number p) row.1 ∙ e) in
    omega arith
awaits_counted c p ms a (inr blob) e =
    let some = some_counted (λ (b : Asked). p b.number) (without_rows (awaiting ms)) a blob e in
    omega arith

-- a request that is awaited isn't below one below which none is
not_below : (c : Config) (t : Trace) (n m : ℕ) → live_among c (λ k. nat_lt k n) t.actions ≡ 0 → (a : Asked) → IsAwaited c t a m → n ≤ m
not_below c t n m none a is =
    elim (cases_lt m n) [
      | inl l ↦
          let number = is.number_is in
          let some = awaits_counted c (λ k. nat_lt k n) t.actions a is.awaits (below_is a.number n (omega arith)) in
          absurd (omega arith)
      | inr l ↦ l
    ]

lowest_while : (c : Config) (t : Trace) (ts : List Trace) (n : Option ℕ) (answer : Option Answer) → t.answer ≡ answer → IsLiveAtWhile c t 0 n answer → IsLowestLive c (t ∷ ts) n
lowest_while c t ts None None e h = ap (live_in c (λ m. true) t) e ∙ omega arith
lowest_while c t ts None (Some answer) e h = ap (live_in c (λ m. true) t) e
lowest_while c t ts (Some n) None e h = (
  live_at_means c (t ∷ ts) 0 n (subst (IsLiveAtWhile c t 0 (Some n)) (sym e) h),
  λ (m : ℕ) (is : IsLive c (t ∷ ts) m). not_below c t n m h.1 is.0 is.1,
)
lowest_while c t ts (Some n) (Some answer) e h = absurd (none-some n (sym h))

-- the lowest number is the first of those that are awaited
pub lowest_is : (c : Config) (ts : List Trace) (n : Option ℕ) → IsLiveAtIn c ts 0 n → IsLowestLive c ts n
lowest_is c [] None h = refl
lowest_is c [] (Some n) h = absurd (none-some n (sym h))
lowest_is c (t ∷ ts) n h = lowest_while c t ts n t.answer refl h

-- what a site awaits was sent to it
abbrev pub AreOfSites : Config → List Action → Type 0
AreOfSites c ms = (s : ℕ) (a : Asked) → (site_now ms s).awaits ≡ Some a → a.site ≡ s

pub of_sites : (c : Config) (ms : List Action) → AreOfSites c ms
of_sites c ms s a e = to_site a s (awaits_to ms s a e)

-- a request whose number is this one
pub awaited_under : (o : Option Asked) (n : ℕ) → awaits_number (λ m. m == n) o ≡ true → (a : Asked) × (o ≡ Some a) × (a.number ≡ n)
awaited_under None n h = absurd (false≢true h)
awaited_under (Some a) n h = (a, refl, eqb-true a.number n h)

-- a request that is awaited under a number, where its test counts one
pub awaited_while : (c : Config) (t : Trace) (n : ℕ) → AreOfSites c t.actions → 0 < live_among c (λ m. m == n) t.actions → (a : Asked) × Awaits c t.actions a × (a.number ≡ n)
awaited_while c t n sites l = by (live_where c (λ m. m == n) t.actions) refl
  where
    rows : 0 < live_where c (λ m. m == n) t.actions → (a : Asked) × Awaits c t.actions a × (a.number ≡ n)
    rows some =
        let found = count_found c.n (λ s. awaits_number (λ m. m == n) (site_now t.actions s).awaits) some in
        let a = awaited_under (site_now t.actions found.0).awaits n found.2 in
        let at : a.0.site ≡ found.0 = sites found.0 a.0 a.1 in
        (a.0, inl (subst (λ s. s < c.n) (sym at) found.1, subst (λ s. (site_now t.actions s).awaits ≡ Some a.0) (sym at) a.1), a.2)

    by : (k : ℕ) → live_where c (λ m. m == n) t.actions ≡ k → (a : Asked) × Awaits c t.actions a × (a.number ≡ n)
    by zero none =
        let found = counted_some (λ (b : Asked). b.number == n) (without_rows (awaiting t.actions)) (omega arith) in
        (found.0, inr found.1, eqb-true found.0.number n found.2)
    by (suc k) some = rows (omega arith)

live_by : (c : Config) (t : Trace) (ts : List Trace) (n : ℕ) (answer : Option Answer) → t.answer ≡ answer → nat_lt 0 (live_in c (λ m. m == n) t answer) ≡ true → IsLive c (t ∷ ts) n
live_by c t ts n (Some answer) e l = absurd (omega (arith, some_above 0 l))
live_by c t ts n None e l =
    let a = awaited_while c t n (of_sites c t.actions) (some_above (live_among c (λ m. m == n) t.actions) l) in
    (a.0, record { running = e; awaits = a.1; number_is = a.2 })

-- a number under which some request is awaited is live
pub live_when : (client : Client) (next : ℕ) (ts : List Trace) (n : ℕ) → Holds client next ts → nat_lt 0 (live client.config (λ m. m == n) ts) ≡ true → IsLive client.config ts n
live_when client next [] n h l = absurd (omega (arith, some_above 0 l))
live_when client next (t ∷ ts) n h l = live_by client.config t ts n t.answer refl l
