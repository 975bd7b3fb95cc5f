-- Lists of sites.
use Rattle.std.specs.Prelude.{ℕ, ◌≡◌, ◌<◌, Bool, true, false, ◌||◌, ◌==◌, nat_lt, List, [], ◌∷◌, Option, Some, None}

-- whether a site is in the list
abbrev pub has_site : List ℕ → ℕ → Bool
has_site [] s = false
has_site (x ∷ xs) s = (x == s) || has_site xs s

-- sites below n, none of them twice
abbrev pub AreSites : ℕ → List ℕ → Type 0
AreSites n [] = Unit {0}
AreSites n (x ∷ xs) = (x < n) × (has_site xs x ≡ false) × AreSites n xs

-- the least site that passes the test, and none exactly where none passes
abbrev pub IsLeastSite : (ℕ → Bool) → Option ℕ → Type 0
IsLeastSite p None = (s : ℕ) → p s ≡ false
IsLeastSite p (Some least) = (p least ≡ true) × ((s : ℕ) → s < least → p s ≡ false)

-- whether a site stands before the least one, where there is one
abbrev pub is_before_least : ℕ → Option ℕ → Bool
is_before_least s None = true
is_before_least s (Some least) = nat_lt s least
