-- Lists of calls, one after the other: what is in them, and what stands before what.
use Rattle.std.proofs.Common.{◌≡◌, ℕ, zero, suc, ◌<◌, ◌≤◌, ◌⊎◌, inl, inr, List, [], ◌∷◌, ◌++◌, Some, Bool, true, false, cond, refl, ap, sym, ◌∙◌, subst, arith}
use Rattle.std.proofs.lemmas.Bool.{cases_Bool, cases_eq}
use Rattle.std.specs.Prelude.{slice_get}
use Rattle.std.specs.List.{filter}
use Rattle.gz_core.specs.Names.{Name, same_name}
use Rattle.gz_core.proofs.Ballots.{name_means, name_from}
use Rattle.gz_history.specs.declared.record.CallRec.{CallRec}
use Rattle.gz_ledger.specs.Histories.{IsIn}
use Rattle.gz_laws.specs.Serial.{StandsBefore, blocks}

pub below_next : (i m : ℕ) → i ≤ suc m → (i ≡ suc m → ⊥) → i ≤ m
below_next i m le ne = grind arith

-- ---- what is in a list

module _ {A : Type 0} where
  pub in_left : (x : A) (xs ys : List A) → IsIn x xs → IsIn x (xs ++ ys)
  in_left x [] ys h = absurd h
  in_left x (y ∷ xs) ys (inl e) = inl e
  in_left x (y ∷ xs) ys (inr h) = inr (in_left x xs ys h)

  pub in_right : (x : A) (xs ys : List A) → IsIn x ys → IsIn x (xs ++ ys)
  in_right x [] ys h = h
  in_right x (y ∷ xs) ys h = inr (in_right x xs ys h)

  pub in_cases : (x : A) (xs ys : List A) → IsIn x (xs ++ ys) → IsIn x xs ⊎ IsIn x ys
  in_cases x [] ys h = inr h
  in_cases x (y ∷ xs) ys (inl e) = inl (inl e)
  in_cases x (y ∷ xs) ys (inr h) = elim (in_cases x xs ys h) [ inl e ↦ inl (inr e) | inr e ↦ inr e ]

  pub in_at : (xs : List A) (i : ℕ) (x : A) → slice_get xs i ≡ Some x → IsIn x xs
  in_at [] i x h = cc
  in_at (y ∷ xs) zero x h = inl cc
  in_at (y ∷ xs) (suc i) x h = inr (in_at xs i x h)

  pub at_of_in : (xs : List A) (x : A) → IsIn x xs → (i : ℕ) × (slice_get xs i ≡ Some x)
  at_of_in [] x h = absurd h
  at_of_in (y ∷ xs) x (inl e) = (0, ap Some (sym e))
  at_of_in (y ∷ xs) x (inr h) = let k = at_of_in xs x h in (suc k.0, k.1)

  in_kept : (t : Bool) (y : A) (ys : List A) (x : A) → IsIn x (cond t (y ∷ ys) ys) → ((t ≡ true) × (x ≡ y)) ⊎ IsIn x ys
  in_kept true y ys x (inl e) = inl (refl, e)
  in_kept true y ys x (inr h) = inr h
  in_kept false y ys x h = inr h

  pub filter_in : (p : A → Bool) (xs : List A) (x : A) → IsIn x (filter p xs) → IsIn x xs × (p x ≡ true)
  filter_in p [] x h = absurd h
  filter_in p (y ∷ ys) x h = elim (in_kept (p y) y (filter p ys) x h) [
    | inl e ↦ (inl e.1, ap p e.1 ∙ e.0)
    | inr e ↦ (let k = filter_in p ys x e in (inr k.0, k.1))
  ]

  pub in_filter : (p : A → Bool) (xs : List A) (x : A) → IsIn x xs → p x ≡ true → IsIn x (filter p xs)
  in_filter p [] x h t = absurd h
  in_filter p (y ∷ ys) x (inl e) t = let here : p y ≡ true = ap p (sym e) ∙ t in rw here (inl e)
  in_filter p (y ∷ ys) x (inr h) t = elim (cases_Bool (p y)) [ inl e ↦ rw e (inr (in_filter p ys x h t)) | inr e ↦ rw e (in_filter p ys x h t) ]

  pub in_blocks : (f : ℕ → List A) (n : ℕ) (x : A) → IsIn x (blocks f n) → (k : ℕ) × (k ≤ n) × IsIn x (f k)
  in_blocks f zero x h = (0, omega arith, h)
  in_blocks f (suc n) x h = elim (in_cases x (blocks f n) (f (suc n)) h) [
    | inl e ↦ (let k = in_blocks f n x e in let low = k.1 in (k.0, omega (arith, low), k.2))
    | inr e ↦ (suc n, omega arith, e)
  ]

  pub blocks_in : (f : ℕ → List A) (n k : ℕ) (x : A) → k ≤ n → IsIn x (f k) → IsIn x (blocks f n)
  blocks_in f zero k x low h = let same : k ≡ 0 = omega (arith, low) in subst (λ (i : ℕ). IsIn x (f i)) same h
  blocks_in f (suc n) k x low h = elim (cases_eq k (suc n)) [
    | inl e ↦ in_right x (blocks f n) (f (suc n)) (subst (λ (i : ℕ). IsIn x (f i)) e h)
    | inr ne ↦ in_left x (blocks f n) (f (suc n)) (blocks_in f n k x (below_next k n low ne) h)
  ]

-- ---- what stands before what

pub before_left : (xs ys : List CallRec) (a b : CallRec) → StandsBefore xs a b → StandsBefore (xs ++ ys) a b
before_left [] ys a b h = absurd h
before_left (x ∷ xs) ys a b (inl h) = inl (h.0, in_left b xs ys h.1)
before_left (x ∷ xs) ys a b (inr h) = inr (before_left xs ys a b h)

pub before_right : (xs ys : List CallRec) (a b : CallRec) → StandsBefore ys a b → StandsBefore (xs ++ ys) a b
before_right [] ys a b h = h
before_right (x ∷ xs) ys a b h = inr (before_right xs ys a b h)

pub before_across : (xs ys : List CallRec) (a b : CallRec) → IsIn a xs → IsIn b ys → StandsBefore (xs ++ ys) a b
before_across [] ys a b h k = absurd h
before_across (x ∷ xs) ys a b (inl e) k = inl (sym e, in_right b xs ys k)
before_across (x ∷ xs) ys a b (inr h) k = inr (before_across xs ys a b h k)

-- two calls of two lists: both of the first, both of the second, or one of each
pub data Befores (xs ys : List CallRec) (a b : CallRec) : Type 0 where
  lefts : StandsBefore xs a b → Befores xs ys a b
  rights : StandsBefore ys a b → Befores xs ys a b
  each : IsIn a xs → IsIn b ys → Befores xs ys a b

more_befores : (x : CallRec) (xs ys : List CallRec) (a b : CallRec) → Befores xs ys a b → Befores (x ∷ xs) ys a b
more_befores x xs ys a b (lefts h) = lefts (inr h)
more_befores x xs ys a b (rights h) = rights h
more_befores x xs ys a b (each h k) = each (inr h) k

pub before_cases : (xs ys : List CallRec) (a b : CallRec) → StandsBefore (xs ++ ys) a b → Befores xs ys a b
before_cases [] ys a b h = rights h
before_cases (x ∷ xs) ys a b (inl h) = elim (in_cases b xs ys h.1) [ inl e ↦ lefts (inl (h.0, e)) | inr e ↦ each (inl (sym h.0)) e ]
before_cases (x ∷ xs) ys a b (inr h) = more_befores x xs ys a b (before_cases xs ys a b h)

kept_before : (p : CallRec → Bool) (t : Bool) (x : CallRec) (xs : List CallRec) (a b : CallRec) → ((c d : CallRec) → StandsBefore (filter p xs) c d → StandsBefore xs c d) → StandsBefore (cond t (x ∷ filter p xs) (filter p xs)) a b → StandsBefore (x ∷ xs) a b
kept_before p true x xs a b more (inl h) = inl (h.0, (filter_in p xs b h.1).0)
kept_before p true x xs a b more (inr h) = inr (more a b h)
kept_before p false x xs a b more h = inr (more a b h)

pub filter_before : (p : CallRec → Bool) (xs : List CallRec) (a b : CallRec) → StandsBefore (filter p xs) a b → StandsBefore xs a b
filter_before p [] a b h = h
filter_before p (x ∷ xs) a b h = kept_before p (p x) x xs a b (filter_before p xs) h

pub blocks_before : (f : ℕ → List CallRec) (n k l : ℕ) (a b : CallRec) → k < l → l ≤ n → IsIn a (f k) → IsIn b (f l) → StandsBefore (blocks f n) a b
blocks_before f zero k l a b lt le h g = absurd (omega (arith, lt, le))
blocks_before f (suc n) k l a b lt le h g = elim (cases_eq l (suc n)) [
  | inl e ↦ (let low : k ≤ n = omega (arith, lt, e) in before_across (blocks f n) (f (suc n)) a b (blocks_in f n k a low h) (subst (λ (i : ℕ). IsIn b (f i)) e g))
  | inr ne ↦ before_left (blocks f n) (f (suc n)) a b (blocks_before f n k l a b lt (below_next l n le ne) h g)
]

pub blocks_within : (f : ℕ → List CallRec) (n k : ℕ) (a b : CallRec) → k ≤ n → StandsBefore (f k) a b → StandsBefore (blocks f n) a b
blocks_within f zero k a b le h = let same : k ≡ 0 = omega (arith, le) in subst (λ (i : ℕ). StandsBefore (f i) a b) same h
blocks_within f (suc n) k a b le h = elim (cases_eq k (suc n)) [
  | inl e ↦ before_right (blocks f n) (f (suc n)) a b (subst (λ (i : ℕ). StandsBefore (f i) a b) e h)
  | inr ne ↦ before_left (blocks f n) (f (suc n)) a b (blocks_within f n k a b (below_next k n le ne) h)
]

-- two calls stand in one block, or in two, one after the other
pub data InBlocks (f : ℕ → List CallRec) (n : ℕ) (a b : CallRec) : Type 0 where
  one_block : (k : ℕ) → k ≤ n → StandsBefore (f k) a b → InBlocks f n a b
  two_blocks : (k l : ℕ) → k < l → l ≤ n → IsIn a (f k) → IsIn b (f l) → InBlocks f n a b

more_blocks : (f : ℕ → List CallRec) (n : ℕ) (a b : CallRec) → InBlocks f n a b → InBlocks f (suc n) a b
more_blocks f n a b (one_block k le h) = one_block k (omega (arith, le)) h
more_blocks f n a b (two_blocks k l lt le h g) = two_blocks k l lt (omega (arith, le)) h g

block_cases : (f : ℕ → List CallRec) (n : ℕ) (a b : CallRec) → (StandsBefore (blocks f n) a b → InBlocks f n a b) → Befores (blocks f n) (f (suc n)) a b → InBlocks f (suc n) a b
block_cases f n a b below (lefts h) = more_blocks f n a b (below h)
block_cases f n a b below (rights h) = one_block (suc n) (omega arith) h
block_cases f n a b below (each h g) = let k = in_blocks f n a h in let low = k.1 in two_blocks k.0 (suc n) (omega (arith, low)) (omega arith) k.2 g

pub blocks_cases : (f : ℕ → List CallRec) (n : ℕ) (a b : CallRec) → StandsBefore (blocks f n) a b → InBlocks f n a b
blocks_cases f zero a b h = one_block 0 (omega arith) h
blocks_cases f (suc n) a b h = block_cases f n a b (blocks_cases f n a b) (before_cases (blocks f n) (f (suc n)) a b h)

-- ---- names that differ

-- no two calls have one name
abbrev pub AreNamedApart : List CallRec → Type 0
AreNamedApart xs = (a b : CallRec) → StandsBefore xs a b → a.name ≡ b.name → ⊥

pub before_at : (xs : List CallRec) (a b : CallRec) → StandsBefore xs a b → (i : ℕ) × (j : ℕ) × (i < j) × (slice_get xs i ≡ Some a) × (slice_get xs j ≡ Some b)
before_at [] a b h = absurd h
before_at (x ∷ xs) a b (inl h) = let k = at_of_in xs b h.1 in (0, suc k.0, omega arith, ap Some h.0, k.1)
before_at (x ∷ xs) a b (inr h) = let k = before_at xs a b h in let lt = k.2 in (suc k.0, suc k.1, omega (arith, lt), k.3, k.4)

no_more_named : (xs : List CallRec) (y : CallRec) (x : Name) → y.name ≡ x → ((b : CallRec) → IsIn b xs → y.name ≡ b.name → ⊥) → filter (λ (a : CallRec). same_name a.name x) xs ≡ []
no_more_named [] y x e apart = refl
no_more_named (z ∷ zs) y x e apart =
    let other : same_name z.name x ≡ false = elim (cases_Bool (same_name z.name x)) [
      | inl t ↦ absurd (apart z (inl refl) (e ∙ sym (name_means z.name x t)))
      | inr t ↦ t
    ] in
    rw other (no_more_named zs y x e (λ b h. apart b (inr h)))

-- so one name is that of one call
pub one_has_name : (xs : List CallRec) (a : CallRec) (x : Name) → AreNamedApart xs → IsIn a xs → a.name ≡ x → filter (λ (d : CallRec). same_name d.name x) xs ≡ a ∷ []
one_has_name [] a x apart h e = absurd h
one_has_name (y ∷ ys) a x apart (inl is) e =
    let name : y.name ≡ x = ap (λ (d : CallRec). d.name) (sym is) ∙ e in
    let here : same_name y.name x ≡ true = name_from y.name x name in
    rw (here, no_more_named ys y x name (λ b h. apart y b (inl (refl, h)))) (ap (λ (d : CallRec). d ∷ []) (sym is))
one_has_name (y ∷ ys) a x apart (inr h) e =
    let other : same_name y.name x ≡ false = elim (cases_Bool (same_name y.name x)) [
      | inl t ↦ absurd (apart y a (inl (refl, h)) (name_means y.name x t ∙ sym e))
      | inr t ↦ t
    ] in
    rw other (one_has_name ys a x (λ b d k. apart b d (inr k)) h e)
