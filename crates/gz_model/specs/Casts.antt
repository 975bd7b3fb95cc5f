-- The votes that were cast, and the values that they choose. (Lamport 2006, "Fast Paxos".)
use Rattle.std.specs.Prelude.{ℕ, ◌≡◌, Bool, true, false, ◌||◌, ◌&&◌, ◌==◌, nat_lt, nat_le, List, [], ◌∷◌, Option, Some, None}
use Rattle.std.specs.Str.{bytes_eq}
use Rattle.gz_core.specs.Names.{Name, BallotAt, same_ballot, same_name}
use Rattle.gz_core.specs.Configurations.{need}
use Rattle.gz_core.specs.Counts.{count_sites}
use Rattle.gz_config.specs.declared.Config.{Config}
use Rattle.gz_model.specs.declared.casts.Cast.{Cast}
use Rattle.gz_model.specs.Choosing.{IsChosenBy}

-- whether a vote was cast at this version of the object
abbrev pub is_at : Cast → List ℕ → ℕ → Bool
is_at cast key v = (cast.version == v) && bytes_eq cast.key key

-- whether it is this vote: of this ballot and for this value
abbrev pub is_vote : Cast → List ℕ → ℕ → BallotAt → Name → Bool
is_vote cast key v b x = is_at cast key v && same_ballot cast.ballot b && same_name cast.name x

-- whether the site has cast this vote
abbrev pub has_cast : List Cast → List ℕ → ℕ → BallotAt → Name → ℕ → Bool
has_cast [] key v b x s = false
has_cast (cast ∷ casts) key v b x s = ((cast.site == s) && is_vote cast key v b x) || has_cast casts key v b x s

-- whether a quorum of the ballot's kind has cast this vote
abbrev pub has_enough : Config → List Cast → List ℕ → ℕ → BallotAt → Name → Bool
has_enough cfg casts key v b x = nat_le (need cfg.qc cfg.qf b) (count_sites cfg.n (has_cast casts key v b x))

-- a value is chosen where in some ballot a quorum of the ballot's kind has cast votes for it
abbrev pub IsChosen : Config → List Cast → List ℕ → ℕ → Name → Type 0
IsChosen cfg casts key v x = IsChosenBy cfg.n cfg.qc cfg.qf (has_cast casts key v) x

-- names in their order: by session, and then by number
abbrev pub is_name_below : Name → Name → Bool
is_name_below x y = nat_lt x.session y.session || ((x.session == y.session) && nat_lt x.seq y.seq)

-- whether a name stands before the least one, where there is one
abbrev pub is_before_name : Name → Option Name → Bool
is_before_name x None = true
is_before_name x (Some least) = is_name_below x least

-- the least of the names that meet a condition, and none exactly where none does
abbrev pub IsLeastName : (Name → Type 0) → Option Name → Type 0
IsLeastName P None = (x : Name) → P x → ⊥
IsLeastName P (Some least) = P least × ((x : Name) → P x → is_name_below x least ≡ false)
