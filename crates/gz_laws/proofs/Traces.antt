-- What holds of each trace, when the traces of one session change.
use Rattle.std.proofs.Common.{◌≡◌, ◌≢◌, ℕ, ◌+◌, ◌<◌, ◌⊎◌, inl, inr, List, [], ◌∷◌, length, ap, sym, ◌∙◌, subst, arith}
use Rattle.std.proofs.lemmas.Bool.{cases_eq}
use Rattle.gz_config.specs.declared.Config.{Config}
use Rattle.gz_core.specs.Names.{Name}
use Rattle.gz_core.specs.History.{Trace}
use Rattle.gz_client.specs.Traces.{AllKeepRules}
use Rattle.gz_laws.specs.Each.{EachTrace}
use Rattle.gz_world.specs.States.{State}
use Rattle.gz_world.specs.Steps.{SessionMoves}
use Rattle.gz_laws.proofs.Listing.{traces_here, traces_there}

pub each_on : (P Q : Trace → Type 0) (ts : List Trace) → ((t : Trace) → P t → Q t) → EachTrace P ts → EachTrace Q ts
each_on P Q [] f h = tt
each_on P Q (t ∷ ts) f h = (f t h.0, each_on P Q ts f h.1)

-- of calls before the one of this name
each_before : (P Q : Trace → Type 0) (c : Config) (session : ℕ) (name : Name) (ts : List Trace) → AllKeepRules c session ts → (name.session ≢ session) ⊎ (length ts < name.seq) → ((t : Trace) → (name ≡ t.caller.name → ⊥) → P t → Q t) → EachTrace P ts → EachTrace Q ts
each_before P Q c session name [] told apart f h = tt
each_before P Q c session name (t ∷ ts) told apart f h = (
  f t (λ e.
      let n : name ≡ record { session = session; seq = length ts + 1 } = e ∙ told.1 in
      let q : name.seq ≡ length ts + 1 = ap (λ (x : Name). x.seq) n in
      elim apart [ inl ne ↦ ne (ap (λ (x : Name). x.session) n) | inr l ↦ omega (arith, l, q) ]) h.0,
  each_before P Q c session name ts told.2 (elim apart [ inl ne ↦ inl ne | inr l ↦ inr (omega (arith, l)) ]) f h.1,
)

-- the traces of the session whose newest call moves, and of the others
pub each_moved : (P Q : Trace → Type 0) (old new : State) (session : ℕ) (t : Trace) (ts : List Trace) → SessionMoves old session (t ∷ ts) new → ((n : ℕ) → AllKeepRules old.cfg n (old.traces n)) → ((u : Trace) → (t.caller.name ≡ u.caller.name → ⊥) → P u → Q u)
    → Q t → EachTrace P ts → ((n : ℕ) → EachTrace P (old.traces n)) → (n : ℕ) → EachTrace Q (new.traces n)
each_moved P Q old new session t ts moves told f here before all n =
    let name = t.caller.name in
    let seq : name.seq ≡ length ts + 1 = ap (λ (x : Name). x.seq) moves.told.1 in
    let place : name.session ≡ session = ap (λ (x : Name). x.session) moves.told.1 in
    elim (cases_eq n session) [
      | inl e ↦ subst (EachTrace Q) (sym (ap new.traces e ∙ traces_here old new session (t ∷ ts) moves))
          (here, each_before P Q old.cfg session name ts moves.told.2 (inr (omega (arith, seq))) f before)
      | inr ne ↦ subst (EachTrace Q) (sym (traces_there old new session n (t ∷ ts) moves ne))
          (each_before P Q old.cfg n name (old.traces n) (told n) (inl (λ e. ne (sym e ∙ place))) f (all n))
    ]
