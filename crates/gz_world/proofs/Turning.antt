-- A client's turn keeps the parts of the world in fit.
use Rattle.std.proofs.Common.{◌≡◌, ◌≢◌, ℕ, zero, suc, ◌+◌, ◌*◌, ◌<◌, ◌≤◌, inl, inr, List, [], ◌∷◌, ◌++◌, Some, None, true, false, length, refl, ap, sym, ◌∙◌, subst, arith}
use Rattle.std.proofs.lemmas.Bool.Decides.{nat_tests}
use Rattle.std.specs.Prelude.{Option, ◌==◌, slice_get, slice_set, option_map, unwrap_or, if◌then◌else◌}
use Rattle.gz_core.specs.Names.{Name}
use Rattle.gz_config.specs.declared.Config.{Config}
use Rattle.gz_core.specs.declared.requests.Op.{Op}
use Rattle.gz_core.specs.declared.requests.Op.TheVariants as ops
use Rattle.gz_core.specs.declared.requests.Out.{Out}
use Rattle.gz_core.specs.History.{Trace}
use Rattle.gz_history.specs.declared.record.CallRec.{CallRec}
use Rattle.gz_world.specs.States.{RequestAt, with_traces, sent_requests, sent_request}
use Rattle.gz_world.specs.Bridge.{crashed_in}
use Rattle.gz_world.specs.Weights.{op_weight, outs_weight}
use Rattle.gz_world.specs.Fits.{IsLast, StandsFor, IsAddressed}
use Rattle.gz_world.specs.Steps.{answered}
use Rattle.gz_world.specs.declared.world.Member.{Member}
use Rattle.std.proofs.lemmas.Bool.{cases_eq}
use Rattle.std.proofs.lemmas.List.Sums.{sum_by-cons}
use Rattle.gz_world.proofs.Members.{numbered_suc}
use Rattle.gz_world.proofs.Places.{get_set_same, get_set_other, get_append, get_of_two, get_mapped}

-- the records keep their names
abbrev pub NamesStay : List CallRec → List CallRec → Type 0
NamesStay old new = (i : ℕ) (c : CallRec) → slice_get old i ≡ Some c → (d : CallRec) × ((slice_get new i ≡ Some d) × (d.name ≡ c.name))

pub names_same : (calls : List CallRec) → NamesStay calls calls
names_same calls i c h = (c, (h, refl))

pub names_append : (calls more : List CallRec) → NamesStay calls (calls ++ more)
names_append calls more i c h = (c, (get_append calls more i c h, refl))

answered_name : (tick : ℕ) (o : _) (c : CallRec) → (answered tick o c).name ≡ c.name
answered_name tick None c = refl
answered_name tick (Some a) c = refl

pub names_answered : (calls : List CallRec) (last : ℕ) (c : CallRec) (tick : ℕ) (o : _) → slice_get calls last ≡ Some c → NamesStay calls (slice_set calls last (answered tick o c))
names_answered calls last c tick o at i d h =
    elim (cases_eq i last) [
      | inl e ↦
          let h' : slice_get calls last ≡ Some d = subst (λ k. slice_get calls k ≡ Some d) e h in
          let same : Some c ≡ Some d = sym at ∙ h' in
          let cd : c ≡ d = cc in
          (answered tick o c, (subst (λ k. slice_get (slice_set calls last (answered tick o c)) k ≡ Some (answered tick o c)) (sym e) (get_set_same calls last c (answered tick o c) at), answered_name tick o c ∙ ap (λ (k : CallRec). k.name) cd))
      | inr ne ↦ (d, (get_set_other calls last i (answered tick o c) ne ∙ h, refl))
    ]

last_more : (old new : List CallRec) (o : Option ℕ) (ts : List Trace) → NamesStay old new → IsLast old o ts → IsLast new o ts
last_more old new None ts stay h = h
last_more old new (Some i) ts stay h =
    let k = stay i h.0 h.1.1.1.0 in
    (k.0, (h.1.0, (h.1.1.0, (k.1.0, (h.1.1.1.1.0, k.1.1 ∙ h.1.1.1.1.1)))))

-- a client that stands for its traces goes on so while the world grows
pub stands_more : (cfg : Config) (first more : ℕ) (old new : List CallRec) (session : ℕ) (m : Member) (ts : List Trace) → first ≤ more → NamesStay old new → StandsFor cfg first old session m ts → StandsFor cfg more new session m ts
stands_more cfg first more old new session m ts le stay h = let b = h.below in record {
  next = h.next;
  below = omega (arith, b);
  holds = h.holds;
  config_is = h.config_is;
  session_is = h.session_is;
  last_is = last_more old new m.last ts stay h.last_is;
}

-- traces with those of one session changed
pub traces_same : (traces : ℕ → List Trace) (session : ℕ) (ts : List Trace) → with_traces traces session ts session ≡ ts
traces_same traces session ts = let t : (session == session) ≡ true = grind (arith, nat_tests) in ap (λ b. if b then ts else traces session) t

pub traces_other : (traces : ℕ → List Trace) (session n : ℕ) (ts : List Trace) → n ≢ session → with_traces traces session ts n ≡ traces n
traces_other traces session n ts ne = let t : (n == session) ≡ false = grind (arith, nat_tests) in ap (λ b. if b then ts else traces n) t

-- requests that are placed
abbrev pub ArePlaced : ℕ → ℕ → List RequestAt → Type 0
ArePlaced n sessions rs = (i : ℕ) (r : RequestAt) → slice_get rs i ≡ Some r → IsAddressed n sessions r

pub placed_append : (n sessions : ℕ) (xs ys : List RequestAt) → ArePlaced n sessions xs → ArePlaced n sessions ys → ArePlaced n sessions (xs ++ ys)
placed_append n sessions xs ys p q i r h = elim (get_of_two xs ys i r h) [ inl e ↦ p i r e | inr e ↦ q e.0 r e.1.1 ]

placed_at : (n sessions : ℕ) (xs : List RequestAt) (at : ℕ) (y : RequestAt) → ArePlaced n sessions xs → IsAddressed n sessions y → (r : RequestAt) → slice_get (slice_set xs at y) at ≡ Some r → IsAddressed n sessions r
placed_at n sessions [] at y p q r h = cc
placed_at n sessions (x ∷ xs) zero y p q r h = let e : y ≡ r = cc in subst (IsAddressed n sessions) e q
placed_at n sessions (x ∷ xs) (suc at) y p q r h = placed_at n sessions xs at y (λ i r h. p (suc i) r h) q r h

pub placed_set : (n sessions : ℕ) (xs : List RequestAt) (at : ℕ) (y : RequestAt) → ArePlaced n sessions xs → IsAddressed n sessions y → ArePlaced n sessions (slice_set xs at y)
placed_set n sessions xs at y p q i r h =
    elim (cases_eq i at) [
      | inl e ↦ placed_at n sessions xs at y p q r (subst (λ k. slice_get (slice_set xs at y) k ≡ Some r) e h)
      | inr ne ↦ p i r (sym (get_set_other xs at i y ne) ∙ h)
    ]

pub placed_sent : (n sessions : ℕ) (name : Name) (tick : ℕ) (outs : List Out) → 1 ≤ name.session → name.session ≤ sessions → ((j : ℕ) (o : Out) → slice_get outs j ≡ Some o → o.site < n) → ArePlaced n sessions (sent_requests name tick outs)
placed_sent n sessions name tick outs opened session sites i r h =
    let k = get_mapped (sent_request name tick) outs i r h in
    subst (IsAddressed n sessions) k.1.1 (record { opened = opened; session = session; site = sites i k.0 k.1.0 })

-- each request weighs 64 at least
op_heavy : (op : Op) → 64 ≤ op_weight op
op_heavy (ops.WriteRow key expect step row) = omega arith
op_heavy (ops.PutBlob blob bytes) = omega arith
op_heavy op = omega arith

pub outs_heavy : (outs : List Out) → 64 * length outs ≤ outs_weight outs
outs_heavy [] = omega arith
outs_heavy (o ∷ os) = let h = outs_heavy os in let k = op_heavy o.op in let e : outs_weight (o ∷ os) ≡ op_weight o.op + outs_weight os = sum_by-cons (λ (q : Out). op_weight q.op) o os in omega (arith, h, k, e)

-- a session that does not crash
crashed_there : (xs : List Member) (at : ℕ) (m y : Member) → slice_get xs at ≡ Some m → y.crashed ≡ m.crashed → (i : ℕ) → option_map (λ (k : Member). k.crashed) (slice_get (slice_set xs at y) i) ≡ option_map (λ (k : Member). k.crashed) (slice_get xs i)
crashed_there xs at m y here same i =
    elim (cases_eq i at) [
      | inl e ↦ subst (λ k. option_map (λ (k : Member). k.crashed) (slice_get (slice_set xs at y) k) ≡ option_map (λ (k : Member). k.crashed) (slice_get xs k)) (sym e)
          (ap (option_map (λ (k : Member). k.crashed)) (get_set_same xs at m y here) ∙ ap Some same ∙ sym (ap (option_map (λ (k : Member). k.crashed)) here))
      | inr ne ↦ ap (option_map (λ (k : Member). k.crashed)) (get_set_other xs at i y ne)
    ]

pub crashed_stays : (xs : List Member) (at : ℕ) (m y : Member) → slice_get xs at ≡ Some m → y.crashed ≡ m.crashed → (n : ℕ) → crashed_in (slice_set xs at y) n ≡ crashed_in xs n
crashed_stays xs at m y here same zero = refl
crashed_stays xs at m y here same (suc n) =
    ap (λ o. unwrap_or (option_map (λ (k : Member). k.crashed) o) false) (numbered_suc (slice_set xs at y) n) ∙ ap (λ o. unwrap_or o false) (crashed_there xs at m y here same n) ∙ sym (ap (λ o. unwrap_or (option_map (λ (k : Member). k.crashed) o) false) (numbered_suc xs n))
