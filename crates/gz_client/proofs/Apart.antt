-- The requests that a running call awaits have numbers of their own, and those that it keeps come in the same order.
use Rattle.std.proofs.Common.{◌≡◌, ◌==◌, ℕ, zero, suc, ◌+◌, ◌<◌, ◌≤◌, Bool, true, false, cond, List, [], ◌∷◌, map, Option, Some, None, refl, sym, ap, ◌∙◌, subst, inl, inr, arith}
use Rattle.std.specs.Prelude.{nat_lt, not}
use Rattle.std.specs.List.{All, count_by}
use Rattle.std.proofs.lemmas.Bool.{cases_Bool, cases_lt, false≢true, eqb-true, and_parts}
use Rattle.std.proofs.lemmas.List.Elements.{All-nil, All-cons}
use Rattle.gz_config.specs.declared.Config.{Config}
use Rattle.gz_core.specs.Counts.{count_sites}
use Rattle.gz_core.specs.Awaiting.{awaiting, without_rows, AreInTurn}
use Rattle.gz_core.specs.History.{Asked, Action, Caller, Trace, is_row_request}
use Rattle.gz_core.proofs.Awaited.{RisesFrom, rises_filter, rises_above, awaiting_rises, one_of_number, filter_contains}
use Rattle.gz_core.proofs.Counting.{count_found}
use Rattle.gz_data.specs.Requests.{awaited_blob}
use Rattle.gz_data.specs.declared.requests.AwaitedBlob.{AwaitedBlob}
use Rattle.gz_round.specs.Numbering.{awaits_number, live_where}
use Rattle.gz_round.specs.Sites.{site_now}
use Rattle.gz_round.proofs.Awaits.{awaits_to}
use Rattle.gz_round.proofs.Lists.{count_same}
use Rattle.gz_client.specs.Lowest.{IsKeptAt, AreRising, AreApart}
use Rattle.gz_client.specs.Running.{StandsFor}
use Rattle.gz_client.specs.Traces.{Holds, HoldsRun, IsLiveAtAmong, IsLiveAtIn, IsLiveAtWhile, live_among}
use Rattle.gz_client.specs.declared.client.Client.{Client}
use Rattle.gz_client.specs.declared.running.Running.{Running}
use Rattle.gz_client.proofs.Counted.{count_cons_most, count_cons_fails, counted_some}
use Rattle.gz_client.proofs.Listed.{row_listed}
use Rattle.gz_client.proofs.Live.{none_counted, kept_counts, blobs_are}
use Rattle.gz_client.proofs.LiveRequests.{awaited_under, awaited_while, of_sites}
use Rattle.gz_client.proofs.Puts.{blob_not_row}

-- ---- requests for blobs

above_all : (n low : ℕ) (rs : List Asked) → n < low → RisesFrom low rs → All (λ (b : AwaitedBlob). n < b.number) (map awaited_blob rs)
above_all n low [] l h = All-nil (λ (b : AwaitedBlob). n < b.number)
above_all n low (a ∷ rs) l h =
    All-cons (λ (b : AwaitedBlob). n < b.number) (awaited_blob a) (map awaited_blob rs) (omega (arith, l, h.0)) (above_all n (a.number + 1) rs (omega (arith, l, h.0)) h.1)

blobs_rise : (low : ℕ) (rs : List Asked) → RisesFrom low rs → AreRising (map awaited_blob rs)
blobs_rise low [] h = tt
blobs_rise low (a ∷ rs) h = (above_all a.number (a.number + 1) rs (omega arith) h.1, blobs_rise (a.number + 1) rs h.1)

none_of_number : (n low : ℕ) (rs : List Asked) → n < low → RisesFrom low rs → count_by (λ (a : Asked). a.number == n) rs ≡ 0
none_of_number n low rs l h =
    elim (cases_lt 0 (count_by (λ (a : Asked). a.number == n) rs)) [
      | inl some ↦
          (let found = counted_some (λ (a : Asked). a.number == n) rs some in
          absurd (omega (arith, l, rises_above low rs found.0 h found.1, eqb-true found.0.number n found.2)))
      | inr none ↦ omega arith
    ]

-- a number is there once
one_in_list : (n low : ℕ) (rs : List Asked) → RisesFrom low rs → count_by (λ (a : Asked). a.number == n) rs ≤ 1
one_in_list n low [] h = omega arith
one_in_list n low (a ∷ rs) h =
    elim (cases_Bool (a.number == n)) [
      | inl same ↦
          (let none = none_of_number n (a.number + 1) rs (omega (arith, eqb-true a.number n same)) h.1 in
          omega (arith, count_cons_most (λ (b : Asked). b.number == n) a rs, none))
      | inr other ↦ omega (arith, count_cons_fails (λ (b : Asked). b.number == n) a rs other, one_in_list n (a.number + 1) rs h.1)
    ]

-- ---- requests for rows

no_site : (n : ℕ) (p : ℕ → Bool) → ((s : ℕ) → s < n → p s ≡ false) → count_sites n p ≡ 0
no_site n p h = count_same n p (λ s. false) h ∙ none_counted n

-- a test that passes at one site at most
one_site : (n : ℕ) (p : ℕ → Bool) → ((s u : ℕ) → s < n → u < n → p s ≡ true → p u ≡ true → s ≡ u) → count_sites n p ≤ 1
one_site zero p h = omega arith
one_site (suc n) p h =
    elim (p n) as (λ b. p n ≡ b → cond b (suc (count_sites n p)) (count_sites n p) ≤ 1) [
      | true ↦ λ e. omega (
        arith,
        no_site n p (λ s l. elim (cases_Bool (p s)) [
          | inl t ↦ absurd (omega (arith, l, h s n (omega arith) (omega arith) t e))
          | inr f ↦ f
        ]),
      )
      | false ↦ λ e. one_site n p (λ s u l k. h s u (omega arith) (omega arith))
    ] refl

one_row : (c : Config) (n : ℕ) (ms : List Action) → AreInTurn ms → live_where c (λ m. m == n) ms ≤ 1
one_row c n ms turn = one_site c.n (λ s. awaits_number (λ m. m == n) (site_now ms s).awaits) (λ s u l k e f.
    let a = awaited_under (site_now ms s).awaits n e in
    let b = awaited_under (site_now ms u).awaits n f in
    let same : a.0 ≡ b.0 = one_of_number 0 (awaiting ms) a.0 b.0 (awaiting_rises ms turn) (row_listed ms s a.0 turn a.1) (row_listed ms u b.0 turn b.1) (a.2 ∙ sym b.2) in
    sym (of_sites c ms s a.0 a.1) ∙ (ap (λ (r : Asked). r.site) same ∙ of_sites c ms u b.0 b.1))

-- ---- of both

-- no number is of a row and of a blob
not_both : (c : Config) (n : ℕ) (ms : List Action) → AreInTurn ms → 0 < live_where c (λ m. m == n) ms → 0 < count_by (λ (a : Asked). a.number == n) (without_rows (awaiting ms)) → ⊥
not_both c n ms turn row blob =
    let site = count_found c.n (λ s. awaits_number (λ m. m == n) (site_now ms s).awaits) row in
    let a = awaited_under (site_now ms site.0).awaits n site.2 in
    let b = counted_some (λ (r : Asked). r.number == n) (without_rows (awaiting ms)) blob in
    let there = filter_contains (λ (r : Asked). not (is_row_request r.op)) (awaiting ms) b.0 b.1 in
    let same : a.0 ≡ b.0 = one_of_number 0 (awaiting ms) a.0 b.0 (awaiting_rises ms turn) (row_listed ms site.0 a.0 turn a.1) there (a.2 ∙ sym (eqb-true b.0.number n b.2)) in
    false≢true (sym (blob_not_row (awaiting ms) b.0 b.1) ∙ (ap (λ (r : Asked). is_row_request r.op) (sym same) ∙ (and_parts (is_row_request a.0.op) (a.0.site == site.0) (awaits_to ms site.0 a.0 a.1)).0))

one_among : (c : Config) (n : ℕ) (ms : List Action) → AreInTurn ms → live_among c (λ m. m == n) ms ≤ 1
one_among c n ms turn =
    let blobs : ℕ = count_by (λ (a : Asked). a.number == n) (without_rows (awaiting ms)) in
    let rise = rises_filter (λ (a : Asked). not (is_row_request a.op)) 0 (awaiting ms) (awaiting_rises ms turn) in
    elim (cases_lt 0 (live_where c (λ m. m == n) ms)) [
      | inl row ↦ elim (cases_lt 0 blobs) [
        | inl blob ↦ absurd (not_both c n ms turn row blob)
        | inr none ↦ omega (arith, one_row c n ms turn)
      ]
      | inr none ↦ omega (arith, one_in_list n 0 (without_rows (awaiting ms)) rise)
    ]

pub stands_apart : (c : Config) (w : Caller) (past : List Trace) (running : Running) (ms : List Action) → AreInTurn ms → StandsFor c w past running ms → AreApart running
stands_apart c w past running ms turn h = record {
  rising = subst AreRising (sym (blobs_are c w past running ms h)) (blobs_rise 0 (without_rows (awaiting ms)) (rises_filter (λ (a : Asked). not (is_row_request a.op)) 0 (awaiting ms) (awaiting_rises ms turn)));
  one = λ n. omega (arith, kept_counts c w past (λ m. m == n) running ms h, one_among c n ms turn);
}

-- ---- the i-th lowest

kept_at : (c : Config) (t : Trace) (past : List Trace) (running : Running) (i : ℕ) (o : Option ℕ) → StandsFor c t.caller past running t.actions → IsKeptAt running i o → IsLiveAtAmong c t.actions i o
kept_at c t past running i None h k = omega (arith, kept_counts c t.caller past (λ m. true) running t.actions h, k)
kept_at c t past running i (Some n) h k = (
  awaited_while c t n (of_sites c t.actions) (omega (arith, kept_counts c t.caller past (λ m. m == n) running t.actions h, k.0)),
  sym (kept_counts c t.caller past (λ m. nat_lt m n) running t.actions h) ∙ k.1,
)

-- what a running call keeps as the i-th lowest number is the i-th lowest that is awaited
pub live_at_told : (client : Client) (running : Running) (i next : ℕ) (o : Option ℕ) (ts : List Trace) → client.running ≡ Some running → (AreApart running → IsKeptAt running i o) → Holds client next ts → IsLiveAtIn client.config ts i o
live_at_told client running i next o [] e kept h = absurd (subst (λ r. HoldsRun client.config next r []) e h.run_is)
live_at_told client running i next o (t ∷ ts) e kept h =
    let k : HoldsRun client.config next (Some running) (t ∷ ts) = subst (λ r. HoldsRun client.config next r (t ∷ ts)) e h.run_is in
    let apart = stands_apart client.config t.caller ts running t.actions h.told.0.in_turn k.1 in
    subst (IsLiveAtWhile client.config t i o) (sym k.0) (kept_at client.config t ts running i o k.1 (kept apart))
