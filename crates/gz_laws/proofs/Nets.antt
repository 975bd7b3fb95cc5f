-- The requests of a world after an event: those from before it, and those that were sent at it.
use Rattle.std.proofs.Common.{◌≡◌, ℕ, ◌-◌, ◌⊎◌, inl, inr, List, ◌++◌, Some, refl, sym, subst}
use Rattle.std.specs.Prelude.{slice_get, slice_set}
use Rattle.gz_core.specs.Names.{Name}
use Rattle.gz_core.specs.declared.requests.Out.{Out}
use Rattle.gz_world.specs.States.{RequestAt, numbered, with_handed, with_given_up, sent_request, sent_requests}
use Rattle.gz_laws.proofs.RunTools.{IsAlike, set_cases, two_cases, fresh_request}

-- the same request, but for the tick at which it was handed a reply or given up
pub record IsKeptAs (r q : RequestAt) : Type 0 where
  pub alike : IsAlike r q
  pub tick : q.tick ≡ r.tick

pub kept_itself : (r : RequestAt) → IsKeptAs r r
kept_itself r = record { alike = record { name = refl; site = refl; op = refl; replies = refl }; tick = refl }

pub kept_handed : (tick which : ℕ) (r : RequestAt) → IsKeptAs r (with_handed tick which r)
kept_handed tick which r = record { alike = record { name = refl; site = refl; op = refl; replies = refl }; tick = refl }

pub kept_given_up : (tick : ℕ) (r : RequestAt) → IsKeptAs r (with_given_up tick r)
kept_given_up tick r = record { alike = record { name = refl; site = refl; op = refl; replies = refl }; tick = refl }

-- a request that was there, or was just sent
abbrev pub IsKeptOrSent : List RequestAt → Name → ℕ → List Out → RequestAt → Type 0
IsKeptOrSent old name tick outs q = ((k : ℕ) × ((r : RequestAt) × ((numbered old k ≡ Some r) × IsKeptAs r q))) ⊎ ((j : ℕ) × ((o : Out) × ((slice_get outs j ≡ Some o) × (sent_request name tick o ≡ q))))

abbrev pub AreKeptOrSent : List RequestAt → List RequestAt → Name → ℕ → List Out → Type 0
AreKeptOrSent old new name tick outs = (m : ℕ) (q : RequestAt) → numbered new m ≡ Some q → IsKeptOrSent old name tick outs q

pub begin_cases : (old new : List RequestAt) (name : Name) (tick : ℕ) (outs : List Out) → new ≡ old ++ sent_requests name tick outs → AreKeptOrSent old new name tick outs
begin_cases old new name tick outs net = λ m q at. elim (two_cases old (sent_requests name tick outs) m q (subst (λ xs. numbered xs m ≡ Some q) net at)) [
  | inl e ↦ inl (m, (q, (e, kept_itself q)))
  | inr e ↦ (let k = fresh_request name tick outs e.0 q e.1 in inr (e.0, (k.0, (k.1.0, k.1.1))))
]

pub turn_cases : (old new : List RequestAt) (n : ℕ) (r marked : RequestAt) (name : Name) (tick : ℕ) (outs : List Out) → numbered old n ≡ Some r → IsKeptAs r marked → new ≡ slice_set old (n - 1) marked ++ sent_requests name tick outs → AreKeptOrSent old new name tick outs
turn_cases old new n r marked name tick outs there same net = λ m q at.
    elim (two_cases (slice_set old (n - 1) marked) (sent_requests name tick outs) m q (subst (λ xs. numbered xs m ≡ Some q) net at)) [
      | inl e ↦ elim (set_cases old n m r marked q there e) [
        | inl f ↦ inl (n, (r, (there, subst (IsKeptAs r) (sym f) same)))
        | inr f ↦ inl (m, (q, (f, kept_itself q)))
      ]
      | inr e ↦ (let k = fresh_request name tick outs e.0 q e.1 in inr (e.0, (k.0, (k.1.0, k.1.1))))
    ]
