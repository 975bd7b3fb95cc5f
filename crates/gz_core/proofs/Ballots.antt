-- Ballots and names: their order and when two are the same.
use Rattle.std.proofs.Common.{◌≡◌, true, false, ◌==◌, inl, inr, ◌⊎◌, ap, ◌∙◌, subst, arith}
use Rattle.std.proofs.lemmas.Bool.{and_parts, eqb-true, cases_Bool, both_ways}
use Rattle.std.proofs.lemmas.Bool.Decides.{nat_tests}
use Rattle.gz_core.specs.Names.{Name, BallotAt, fast, is_below, same_ballot, same_name}

-- equal parts make equal ballots
pub ballots_equal : (a b : BallotAt) → a.round ≡ b.round → a.session ≡ b.session → a ≡ b
ballots_equal a b p q =
    ap (λ k. let r : BallotAt = record { round = k; session = a.session } in r) p ∙ ap (λ k. let r : BallotAt = record { round = b.round; session = k } in r) q

-- equal parts make equal names
pub names_equal : (a b : Name) → a.session ≡ b.session → a.seq ≡ b.seq → a ≡ b
names_equal a b p q =
    ap (λ k. let r : Name = record { session = k; seq = a.seq } in r) p ∙ ap (λ k. let r : Name = record { session = b.session; seq = k } in r) q

-- the test on ballots shows that they are equal
pub same_means : (a b : BallotAt) → same_ballot a b ≡ true → a ≡ b
same_means a b h =
    let both : ((a.round == b.round) ≡ true) × ((a.session == b.session) ≡ true) = and_parts (a.round == b.round) (a.session == b.session) h in
    ballots_equal a b (eqb-true a.round b.round both.0) (eqb-true a.session b.session both.1)

-- a ballot is the same as itself
pub same_refl : (a : BallotAt) → same_ballot a a ≡ true
same_refl a = grind (arith, nat_tests)

-- equal ballots pass the test
pub same_from : (a b : BallotAt) → a ≡ b → same_ballot a b ≡ true
same_from a b e = subst (λ (c : BallotAt). same_ballot a c ≡ true) e (same_refl a)

-- the test on names shows that they are equal
pub name_means : (x y : Name) → same_name x y ≡ true → x ≡ y
name_means x y h =
    let both : ((x.session == y.session) ≡ true) × ((x.seq == y.seq) ≡ true) = and_parts (x.session == y.session) (x.seq == y.seq) h in
    names_equal x y (eqb-true x.session y.session both.0) (eqb-true x.seq y.seq both.1)

-- a name is the same as itself
pub name_refl : (x : Name) → same_name x x ≡ true
name_refl x = grind (arith, nat_tests)

-- equal names pass the test
pub name_from : (x y : Name) → x ≡ y → same_name x y ≡ true
name_from x y e = subst (λ (z : Name). same_name x z ≡ true) e (name_refl x)

-- two names are the same one or they are not
pub name_cases : (x y : Name) → (x ≡ y) ⊎ (x ≡ y → ⊥)
name_cases x y =
    elim (cases_Bool (same_name x y)) [ inl e ↦ inl (name_means x y e) | inr e ↦ inr (λ (h : x ≡ y). both_ways (same_name x y) e (name_from x y h)) ]

-- of two ballots one stands before the other, or they are the same one
pub below_cases : (a b : BallotAt) → (is_below a b ≡ true) ⊎ ((a ≡ b) ⊎ (is_below b a ≡ true))
below_cases a b =
    elim (cases_Bool (is_below a b)) [
      | inl e ↦ inl e
      | inr e ↦ elim (cases_Bool (is_below b a)) [
        | inl f ↦ inr (inr f)
        | inr f ↦ inr (inl (ballots_equal a b (grind (arith, nat_tests)) (grind (arith, nat_tests))))
      ]
    ]

-- ballots stand in one order
pub below_trans : (a b c : BallotAt) → is_below a b ≡ true → is_below b c ≡ true → is_below a c ≡ true
below_trans a b c h k = grind (arith, nat_tests)

-- no ballot stands before itself
pub below_never : (a : BallotAt) → is_below a a ≡ false
below_never a = grind (arith, nat_tests)

-- not both of two ballots stand before the other
pub below_not : (a b : BallotAt) → is_below a b ≡ true → is_below b a ≡ false
below_not a b h = grind (arith, nat_tests)

-- nothing stands before the fast ballot
pub below_fast : (a : BallotAt) → is_below a fast ≡ false
below_fast a = grind (arith, nat_tests)

-- at or above is transitive
pub not_below_trans : (a b c : BallotAt) → is_below a b ≡ false → is_below b c ≡ false → is_below a c ≡ false
not_below_trans a b c h k = grind (arith, nat_tests)

-- a ballot at or above one that stands above a third stands above the third
pub below_at : (a b c : BallotAt) → is_below a b ≡ true → is_below c b ≡ false → is_below a c ≡ true
below_at a b c h k = grind (arith, nat_tests)

-- a ballot below one that is at or below a third stands below the third
pub at_below : (a b c : BallotAt) → is_below b a ≡ false → is_below b c ≡ true → is_below a c ≡ true
at_below a b c h k = grind (arith, nat_tests)

-- a ballot that is neither before nor after another is that one
pub same_from_order : (a b : BallotAt) → is_below a b ≡ false → is_below b a ≡ false → a ≡ b
same_from_order a b h k = ballots_equal a b (grind (arith, nat_tests)) (grind (arith, nat_tests))
