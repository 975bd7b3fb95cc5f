-- The audit list of votes: every vote that a site was seen to cast, each once.
use Rattle.std.specs.Prelude.{ℕ, Bool, List, [], ◌∷◌, ◌++◌, Option, None, fold, if◌then◌else◌, is_some, option_map}
use Rattle.std.specs.List.{list_any, filter_map}
use Rattle.std.specs.Ordering.{nat_cmp, ordering_then, is_eq}
use Rattle.std.specs.Cmp.Lexicographic.{slice_cmp}
use Rattle.std.specs.Map.{lookup}
use Rattle.std.specs.declared.cmp.Ordering.{Ordering}
use Rattle.gz_core.specs.Names.{Name, BallotAt}
use Rattle.gz_core.specs.Rows.{RowAt}
use Rattle.gz_core.specs.Values.{name_of}
use Rattle.gz_core.specs.declared.rows.Vote.{Vote}
use Rattle.gz_core.specs.declared.rows.Column.{Column}
use Rattle.gz_core.specs.declared.rows.Column.TheVariants.{Open, Decided}
use Rattle.gz_model.specs.declared.casts.Cast.{Cast}

-- the order of ballots and of names: by their first part, then by their second
abbrev pub ballot_cmp : BallotAt → BallotAt → Ordering
ballot_cmp a b = ordering_then (nat_cmp a.round b.round) (nat_cmp a.session b.session)

abbrev pub name_cmp : Name → Name → Ordering
name_cmp a b = ordering_then (nat_cmp a.session b.session) (nat_cmp a.seq b.seq)

-- the order of votes: by name, site, version, ballot and key
abbrev pub cast_cmp : Cast → Cast → Ordering
cast_cmp a b =
    ordering_then (name_cmp a.name b.name) (ordering_then (nat_cmp a.site b.site)
    (ordering_then (nat_cmp a.version b.version) (ordering_then (ballot_cmp a.ballot b.ballot) (slice_cmp nat_cmp a.key b.key))))

-- whether two votes are the same one
abbrev pub same_cast : Cast → Cast → Bool
same_cast a b = is_eq (cast_cmp a b)

-- whether the list has the vote
abbrev pub is_listed : List Cast → Cast → Bool
is_listed casts c = list_any (same_cast c) casts

-- the list with a vote at its end, unless it has it
abbrev pub with_cast : List Cast → Cast → List Cast
with_cast casts c = if is_listed casts c then casts else casts ++ c ∷ []

-- the list with each of these votes
abbrev pub with_casts : List Cast → List Cast → List Cast
with_casts casts fresh = fold with_cast casts fresh

-- the votes with one more, unless the list has it
abbrev pub with_unlisted : List Cast → List Cast → Cast → List Cast
with_unlisted casts fresh c = if is_listed casts c then fresh else fresh ++ c ∷ []

-- what the index holds of a vote: that it is listed, or only known
abbrev pub listed_in : List (Cast × Bool) → Cast → Option Bool
listed_in entries c = lookup (same_cast c) entries

-- whether the index holds a vote
abbrev pub is_known : List (Cast × Bool) → Cast → Bool
is_known entries c = is_some (listed_in entries c)

-- the vote of a site
abbrev pub cast_at : ℕ → List ℕ → ℕ → Vote → Cast
cast_at site key version vote = record { site = site; key = key; version = version; ballot = vote.ballot; name = name_of vote.value }

-- the vote of a site in one column of its row, where one stands
abbrev pub cast_of : ℕ → List ℕ → ℕ → Column → Option Cast
cast_of site key version (Open promise vote) = option_map (cast_at site key version) vote
cast_of site key version (Decided value) = None

-- the votes that stand in a row of a site
abbrev pub casts_of : ℕ → List ℕ → RowAt → List Cast
casts_of site key row = filter_map (λ (c : ℕ × Column). cast_of site key c.0 c.1) row.columns
