-- The names of calls that were read.
use Rattle.std.specs.Prelude.{Bool, List}
use Rattle.std.specs.List.{list_any}
use Rattle.std.specs.Ordering.{nat_cmp, ordering_then, is_eq}
use Rattle.std.specs.declared.cmp.Ordering.{Ordering}
use Rattle.gz_core.specs.Names.{Name}
use Rattle.gz_history.specs.declared.record.CallRec.{CallRec}

-- names are ordered by their sessions, and within one by their numbers
abbrev pub name_cmp : Name → Name → Ordering
name_cmp x y = ordering_then (nat_cmp x.session y.session) (nat_cmp x.seq y.seq)

-- two names are one
abbrev pub same_name : Name → Name → Bool
same_name x y = is_eq (name_cmp x y)

-- a name stands in a list
abbrev pub is_among : List Name → Name → Bool
is_among names name = list_any (same_name name) names

-- a call of this name was read
abbrev pub is_named : Name → List CallRec → Bool
is_named name calls = list_any (λ c. same_name c.name name) calls
