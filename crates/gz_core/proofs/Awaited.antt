-- The requests that a call awaits: their numbers rise, so each is there once.
use Rattle.std.proofs.Common.{◌≡◌, ℕ, zero, suc, ◌+◌, ◌<◌, ◌≤◌, Bool, true, false, cond, List, [], ◌∷◌, ◌++◌, length, get_or, refl, sym, ap, subst, ◌∙◌, inl, inr, arith}
use Rattle.std.specs.Prelude.{◌⊎◌, ◌==◌, not}
use Rattle.std.specs.List.{All, Contains, filter, count_by}
use Rattle.std.proofs.lemmas.Bool.{cases_Bool, eqb-true, eq-eqb}
use Rattle.std.proofs.lemmas.List.Elements.{All-contains, Contains-push_cases, Contains-append_left, Contains-push}
use Rattle.std.proofs.lemmas.List.Sums.{sum_by-cons}
use Rattle.gz_core.specs.History.{Asked, Action, Sent, Handed, GaveUp, Rested, GaveIn, is_row_request}
use Rattle.gz_core.specs.Awaiting.{without, without_rows, awaited_after, awaiting, IsAwaited, IsSentInTurn, AreInTurn}

-- ---- what a list contains, cell by cell

module _ {X : Type 0} where
  pub contains_head : (x : X) (xs : List X) → Contains (x ∷ xs) x
  contains_head x xs = (0, omega arith, refl)

  pub contains_tail : (x : X) (xs : List X) (y : X) → Contains xs y → Contains (x ∷ xs) y
  contains_tail x xs y h = (suc h.0, omega arith, h.2)

  contains_at : (x : X) (xs : List X) (y : X) (k : ℕ) → k < length (x ∷ xs) → get_or (x ∷ xs) k y ≡ y → (x ≡ y) ⊎ Contains xs y
  contains_at x xs y zero l e = inl e
  contains_at x xs y (suc k) l e = inr (k, omega arith, e)

  pub contains_cases : (x : X) (xs : List X) (y : X) → Contains (x ∷ xs) y → (x ≡ y) ⊎ Contains xs y
  contains_cases x xs y h = contains_at x xs y h.0 h.1 h.2

  pub contains_none : (y : X) → Contains [] y → ⊥
  contains_none y h = absurd (omega arith)

  kept : (b : Bool) (x : X) (ys : List X) (y : X) → Contains ys y → Contains (cond b (x ∷ ys) ys) y
  kept true x ys y h = contains_tail x ys y h
  kept false x ys y h = h

  -- what passes is kept
  pub contains_filter : (p : X → Bool) (xs : List X) (y : X) → Contains xs y → p y ≡ true → Contains (filter p xs) y
  contains_filter p [] y h e = absurd (contains_none y h)
  contains_filter p (x ∷ xs) y h e = elim (contains_cases x xs y h) [
    | inl same ↦ let t : p x ≡ true = ap p same ∙ e in rw t (subst (λ z. Contains (x ∷ filter p xs) z) same (contains_head x (filter p xs)))
    | inr there ↦ kept (p x) x (filter p xs) y (contains_filter p xs y there e)
  ]

  from_kept : (b : Bool) (x : X) (ys xs : List X) (y : X) → (Contains ys y → Contains xs y) → Contains (cond b (x ∷ ys) ys) y → Contains (x ∷ xs) y
  from_kept true x ys xs y f h = elim (contains_cases x ys y h) [
    | inl same ↦ subst (λ z. Contains (x ∷ xs) z) same (contains_head x xs)
    | inr there ↦ contains_tail x xs y (f there)
  ]
  from_kept false x ys xs y f h = contains_tail x xs y (f h)

  -- what is kept was there
  pub filter_contains : (p : X → Bool) (xs : List X) (y : X) → Contains (filter p xs) y → Contains xs y
  filter_contains p [] y h = h
  filter_contains p (x ∷ xs) y h = from_kept (p x) x (filter p xs) xs y (filter_contains p xs y) h

-- ---- numbers that rise

abbrev pub RisesFrom : ℕ → List Asked → Type 0
RisesFrom low [] = Unit {0}
RisesFrom low (a ∷ rs) = (low ≤ a.number) × RisesFrom (a.number + 1) rs

pub rises_push : (low : ℕ) (rs : List Asked) (a : Asked) → RisesFrom low rs → ((b : Asked) → Contains rs b → b.number < a.number) → low ≤ a.number → RisesFrom low (rs ++ a ∷ [])
rises_push low [] a h below l = (l, tt)
rises_push low (b ∷ bs) a h below l =
    (h.0, rises_push (b.number + 1) bs a h.1 (λ c i. below c (contains_tail b bs c i)) (omega (arith, below b (contains_head b bs))))

rises_lower : (low high : ℕ) (rs : List Asked) → low ≤ high → RisesFrom high rs → RisesFrom low rs
rises_lower low high [] l h = tt
rises_lower low high (a ∷ rs) l h = (omega (arith, h.0), h.1)

rises_kept : (b : Bool) (low : ℕ) (a : Asked) (rs : List Asked) → low ≤ a.number → RisesFrom (a.number + 1) rs → RisesFrom low (cond b (a ∷ rs) rs)
rises_kept true low a rs l h = (l, h)
rises_kept false low a rs l h = rises_lower low (a.number + 1) rs (omega arith) h

pub rises_filter : (p : Asked → Bool) (low : ℕ) (rs : List Asked) → RisesFrom low rs → RisesFrom low (filter p rs)
rises_filter p low [] h = tt
rises_filter p low (a ∷ rs) h = rises_kept (p a) low a (filter p rs) h.0 (rises_filter p (a.number + 1) rs h.1)

pub rises_above : (low : ℕ) (rs : List Asked) (b : Asked) → RisesFrom low rs → Contains rs b → low ≤ b.number
rises_above low [] b h i = absurd (contains_none b i)
rises_above low (a ∷ rs) b h i = elim (contains_cases a rs b i) [
  | inl same ↦ subst (λ (c : Asked). low ≤ c.number) same h.0
  | inr there ↦ let above = rises_above (a.number + 1) rs b h.1 there in omega (arith, h.0, above)
]

-- two of one number are the same request
pub one_of_number : (low : ℕ) (rs : List Asked) (a b : Asked) → RisesFrom low rs → Contains rs a → Contains rs b → a.number ≡ b.number → a ≡ b
one_of_number low [] a b h i j e = absurd (contains_none a i)
one_of_number low (x ∷ xs) a b h i j e =
    elim (contains_cases x xs a i) [
      | inl first ↦ elim (contains_cases x xs b j) [
        | inl second ↦ sym first ∙ second
        | inr there ↦ absurd (omega (arith, rises_above (x.number + 1) xs b h.1 there, ap (λ (c : Asked). c.number) first, e))
      ]
      | inr later ↦ elim (contains_cases x xs b j) [
        | inl second ↦ absurd (omega (arith, rises_above (x.number + 1) xs a h.1 later, ap (λ (c : Asked). c.number) second, e))
        | inr there ↦ one_of_number (x.number + 1) xs a b h.1 later there e
      ]
    ]

-- ---- one request goes

apart_test : (m n : ℕ) → n < m → not (m == n) ≡ true
apart_test m n l = elim (cases_Bool (m == n)) [ inl e ↦ absurd (omega (arith, eqb-true m n e)) | inr e ↦ ap not e ]

apart_below : (m n : ℕ) → m < n → not (m == n) ≡ true
apart_below m n l = elim (cases_Bool (m == n)) [ inl e ↦ absurd (omega (arith, eqb-true m n e)) | inr e ↦ ap not e ]

without_none : (n low : ℕ) (rs : List Asked) → n < low → RisesFrom low rs → without n rs ≡ rs
without_none n low [] l h = refl
without_none n low (a ∷ rs) l h =
    let t : not (a.number == n) ≡ true = apart_test a.number n (omega (arith, h.0)) in
    rw t (ap (λ bs. a ∷ bs) (without_none n (a.number + 1) rs (omega (arith, h.0)) h.1))

pub count_without : (p : Asked → Bool) (low : ℕ) (rs : List Asked) (a : Asked) → RisesFrom low rs → Contains rs a → count_by p (without a.number rs) + cond (p a) 1 0 ≡ count_by p rs
count_without p low [] a h i = absurd (contains_none a i)
count_without p low (x ∷ xs) a h i =
    let count : Asked → ℕ = λ b. cond (p b) 1 0 in
    elim (contains_cases x xs a i) [
      | inl same ↦
          let t : not (x.number == a.number) ≡ false = ap not (eq-eqb x.number a.number (ap (λ (c : Asked). c.number) same)) in
          let gone = without_none a.number (x.number + 1) xs (omega (arith, ap (λ (c : Asked). c.number) same)) h.1 in
          rw t (omega (arith, ap (count_by p) gone, sum_by-cons count x xs, ap count same))
      | inr there ↦
          let above = rises_above (x.number + 1) xs a h.1 there in
          let t : not (x.number == a.number) ≡ true = apart_below x.number a.number (omega (arith, above)) in
          rw t (omega (arith, count_without p (x.number + 1) xs a h.1 there, sum_by-cons count x (without a.number xs), sum_by-cons count x xs))
    ]

-- ---- the list over what happened to a call

sent_rises : (b : Bool) (rs : List Asked) (a : Asked) → RisesFrom 0 rs → All (λ (c : Asked). c.number < a.number) rs → RisesFrom 0 (cond b (rs ++ a ∷ []) rs)
sent_rises true rs a h above = rises_push 0 rs a h (λ c i. All-contains (λ (d : Asked). d.number < a.number) rs c above i) (omega arith)
sent_rises false rs a h above = h

pub awaiting_rises : (ms : List Action) → AreInTurn ms → RisesFrom 0 (awaiting ms)
awaiting_rises [] h = tt
awaiting_rises (Sent a ∷ ms) h = sent_rises a.awaited (awaiting ms) a (awaiting_rises ms h.1) h.0.above
awaiting_rises (Handed a reply ∷ ms) h = rises_filter (λ (c : Asked). not (c.number == a.number)) 0 (awaiting ms) (awaiting_rises ms h.1)
awaiting_rises (GaveUp a ∷ ms) h = rises_filter (λ (c : Asked). not (c.number == a.number)) 0 (awaiting ms) (awaiting_rises ms h.1)
awaiting_rises (Rested ∷ ms) h = rises_filter (λ (c : Asked). not (is_row_request c.op)) 0 (awaiting ms) (awaiting_rises ms h.1)
awaiting_rises (GaveIn ∷ ms) h = rises_filter (λ (c : Asked). not (is_row_request c.op)) 0 (awaiting ms) (awaiting_rises ms h.1)

-- a request that another one's end leaves awaited
pub stays_awaited : (ms : List Action) (a b : Asked) → AreInTurn ms → IsAwaited ms a → IsAwaited ms b → (a ≡ b → ⊥) → Contains (without a.number (awaiting ms)) b
stays_awaited ms a b turn i j apart =
    let other : not (b.number == a.number) ≡ true = elim (cases_Bool (b.number == a.number)) [
      | inl e ↦ absurd (apart (one_of_number 0 (awaiting ms) a b (awaiting_rises ms turn) i j (sym (eqb-true b.number a.number e))))
      | inr e ↦ ap not e
    ] in
    contains_filter (λ (c : Asked). not (c.number == a.number)) (awaiting ms) b j other
