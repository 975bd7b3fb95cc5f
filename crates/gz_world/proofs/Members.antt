-- What the world knows of a session by its number.
use Rattle.std.proofs.Common.{◌≡◌, ℕ, zero, suc, ◌+◌, ◌-◌, ◌<◌, ◌≤◌, ◌⊎◌, inl, inr, List, [], ◌∷◌, Some, None, Bool, true, false, length, map, refl, ap, sym, ◌∙◌, subst, arith}
use Rattle.std.proofs.lemmas.Bool.Decides.{nat_tests}
use Rattle.std.proofs.lemmas.Option.{slice_get-map}
use Rattle.gz_world.specs.Steps.{last_name, name_at}
use Rattle.std.specs.Prelude.{Option, IsSome, option_map, ◌==◌, if◌then◌else◌, ◌↔◌, IsTrue, is_none, slice_get}
use Rattle.std.specs.Option.{ForSome, option_map_or}
use Rattle.gz_core.specs.declared.calls.Answer.{Answer}
use Rattle.gz_config.specs.declared.Config.{Config}
use Rattle.gz_core.specs.History.{Trace}
use Rattle.gz_client.specs.Traces.{Holds, AllKeepRules, IsRunning}
use Rattle.gz_history.specs.declared.record.CallRec.{CallRec}
use Rattle.gz_world.specs.States.{request_of, numbered}
use Rattle.gz_world.specs.Refusals.{is_running, is_live}
use Rattle.gz_world.specs.Fits.{IsLast, StandsFor, FitsBy, Fits}
use Rattle.gz_world.specs.declared.world.Member.{Member}
use Rattle.gz_world.specs.declared.world.World.{World}
use Rattle.gz_world.proofs.Places.{get_below}

-- an element with a number that is not 0
pub numbered_suc : {A : Type 0} (xs : List A) (n : ℕ) → numbered xs (suc n) ≡ slice_get xs n
numbered_suc xs n =
    let t : (suc n == 0) ≡ false = grind (arith, nat_tests) in
    let e : suc n - 1 ≡ n = omega arith in
    ap (λ b. if b then None else slice_get xs (suc n - 1)) t ∙ ap (slice_get xs) e

-- an element with a number stands at the place before
pub numbered_place : {A : Type 0} (xs : List A) (n : ℕ) (x : A) → numbered xs n ≡ Some x → (1 ≤ n) × (slice_get xs (n - 1) ≡ Some x)
numbered_place xs zero x h = cc
numbered_place xs (suc n) x h = let e : suc n - 1 ≡ n = omega arith in (omega arith, ap (slice_get xs) e ∙ sym (numbered_suc xs n) ∙ h)

pub place_numbered : {A : Type 0} (xs : List A) (n : ℕ) (x : A) → 1 ≤ n → slice_get xs (n - 1) ≡ Some x → numbered xs n ≡ Some x
place_numbered xs zero x l h = absurd (omega arith)
place_numbered xs (suc n) x l h = let e : suc n - 1 ≡ n = omega arith in numbered_suc xs n ∙ sym (ap (slice_get xs) e) ∙ h

none_past : {A : Type 0} (xs : List A) (i : ℕ) → None ≡ slice_get xs i → (i + 1 ≡ 0) ⊎ (length xs < i + 1)
none_past [] i h = inr (omega arith)
none_past (x ∷ xs) zero h = cc
none_past (x ∷ xs) (suc i) h = elim (none_past xs i h) [ inl e ↦ absurd (omega (arith, e)) | inr l ↦ inr (omega (arith, l)) ]

-- a number that has an element is not 0
pub positive_by : {A : Type 0} (xs : List A) (n : ℕ) → IsSome (numbered xs n) → 1 ≤ n
positive_by xs zero h = cc
positive_by xs (suc n) h = omega arith

-- and its place is within the list
within : {A : Type 0} (xs : List A) (i : ℕ) → IsSome (slice_get xs i) → i < length xs
within [] i h = cc
within (x ∷ xs) zero h = omega arith
within (x ∷ xs) (suc i) h = let k = within xs i h in omega (arith, k)

pub within_by : {A : Type 0} (xs : List A) (n : ℕ) → IsSome (numbered xs n) → n - 1 < length xs
within_by xs zero h = cc
within_by xs (suc n) h = let e : suc n - 1 ≡ n = omega arith in subst (λ k. k < length xs) (sym e) (within xs n (subst IsSome (numbered_suc xs n) h))

-- what a number finds, in the list that a map makes
pub mapped_there : {A B : Type 0} (f : A → B) (xs : List A) (n : ℕ) (x : A) → Some x ≡ numbered xs n → Some (f x) ≡ numbered (map f xs) n
mapped_there f xs zero x h = cc
mapped_there f xs (suc n) x h = sym (numbered_suc (map f xs) n ∙ slice_get-map f xs n ∙ ap (option_map f) (sym (numbered_suc xs n) ∙ sym h))

pub mapped_none : {A B : Type 0} (f : A → B) (xs : List A) (n : ℕ) → None ≡ numbered xs n → None ≡ numbered (map f xs) n
mapped_none f xs zero h = refl
mapped_none f xs (suc n) h = sym (numbered_suc (map f xs) n ∙ slice_get-map f xs n ∙ ap (option_map f) (sym (numbered_suc xs n) ∙ sym h))

-- where there is none, the number is 0 or above the length
pub numbered_none : {A : Type 0} (xs : List A) (n : ℕ) → None ≡ numbered xs n → (n ≡ 0) ⊎ (length xs < n)
numbered_none xs zero h = inl refl
numbered_none xs (suc n) h = elim (none_past xs n (h ∙ numbered_suc xs n)) [ inl z ↦ absurd (omega (arith, z)) | inr l ↦ inr (omega (arith, l)) ]

-- the client of a session stands for its traces
pub member_stands : {S : Type 0} {events : ℕ} (w : World S) (traces : ℕ → List Trace) (n : ℕ) (m : Member) → FitsBy events traces w → numbered w.clients.items n ≡ Some m → StandsFor w.cfg (length (map request_of w.net.items) + 1) w.calls.items n m (traces n)
member_stands w traces n m fits h =
    let p = numbered_place w.clients.items n m h in
    let l = p.0 in
    let e : n - 1 + 1 ≡ n = omega (arith, l) in
    subst (λ k. StandsFor w.cfg (length (map request_of w.net.items) + 1) w.calls.items k m (traces k)) e (fits.clients (n - 1) m p.1)

-- a session that isn't there has no traces
pub no_traces : {S : Type 0} {events : ℕ} (w : World S) (traces : ℕ → List Trace) (n : ℕ) → FitsBy events traces w → None ≡ numbered w.clients.items n → traces n ≡ []
no_traces w traces n fits h = elim (numbered_none w.clients.items n h) [ inl e ↦ ap traces e ∙ fits.zeroth | inr l ↦ fits.unopened n l ]

runs_by : (b : Bool) (o : Option Answer) → (IsTrue b ↔ (o ≡ None)) → b ≡ is_none o
runs_by true None h = refl
runs_by false None h = let k : false ≡ true = h.1 refl in cc
runs_by true (Some a) h = let k : Some a ≡ None = h.0 refl in cc
runs_by false (Some a) h = refl

runs_of : (b : Bool) (ts : List Trace) → (IsTrue b ↔ IsRunning ts) → b ≡ is_running ts
runs_of true [] h = absurd (h.0 refl)
runs_of false [] h = refl
runs_of b (t ∷ ts) h = runs_by b t.answer h

-- whether a session's call runs
pub busy_there : {S : Type 0} (w : World S) (traces : ℕ → List Trace) (n : ℕ) (m : Member) (b : Bool) → Fits traces w → numbered w.clients.items n ≡ Some m → ((next : ℕ) (ts : List Trace) → Holds m.client next ts → (IsTrue b ↔ IsRunning ts)) → b ≡ is_running (traces n)
busy_there w traces n m b fits h runs = let s = member_stands w traces n m fits h in runs_of b (traces n) (runs s.next (traces n) s.holds)

pub busy_none : {S : Type 0} (w : World S) (traces : ℕ → List Trace) (n : ℕ) → Fits traces w → None ≡ numbered w.clients.items n → false ≡ is_running (traces n)
busy_none w traces n fits h = sym (ap is_running (no_traces w traces n fits h))

-- whether a request is live
pub live_there : {S : Type 0} (w : World S) (traces : ℕ → List Trace) (n : ℕ) (m : Member) (k : ℕ) (b : Bool) → Fits traces w → numbered w.clients.items n ≡ Some m → ((next : ℕ) (ts : List Trace) → Holds m.client next ts → b ≡ is_live m.client.config ts k) → b ≡ is_live w.cfg (traces n) k
live_there w traces n m k b fits h lives = let s = member_stands w traces n m fits h in lives s.next (traces n) s.holds ∙ ap (λ c. is_live c (traces n) k) s.config_is

pub live_none : {S : Type 0} (w : World S) (traces : ℕ → List Trace) (n k : ℕ) → Fits traces w → None ≡ numbered w.clients.items n → false ≡ is_live w.cfg (traces n) k
live_none w traces n k fits h = sym (ap (λ ts. is_live w.cfg ts k) (no_traces w traces n fits h))

-- the number of the last call of a session counts its calls
abbrev pub seq_of : List CallRec → Option ℕ → ℕ
seq_of calls last = option_map_or (λ i. option_map_or (λ (c : CallRec). c.name.seq) (slice_get calls i) 0) last 0

pub last_there : (calls : List CallRec) (o : Option ℕ) (ts : List Trace) → IsLast calls o ts → ForSome o (λ i. i < length calls)
last_there calls None ts h = λ x e. cc
last_there calls (Some i) ts h = λ x e. let q : i ≡ x = cc in subst (λ k. k < length calls) q (get_below calls i h.0 h.1.1.1.0)

seq_counts : (c : Config) (session : ℕ) (calls : List CallRec) (o : Option ℕ) (ts : List Trace) → IsLast calls o ts → AllKeepRules c session ts → seq_of calls o ≡ length ts
seq_counts c session calls None ts h told = sym (ap length h)
seq_counts c session calls (Some i) ts h told =
    let told' : AllKeepRules c session (h.1.0 ∷ h.1.1.0) = subst (AllKeepRules c session) h.1.1.1.1.0 told in
    let len : length ts ≡ length h.1.1.0 + 1 = ap length h.1.1.1.1.0 ∙ omega arith in
    ap (λ o. option_map_or (λ (c : CallRec). c.name.seq) o 0) h.1.1.1.0 ∙ ap (λ n. n.seq) h.1.1.1.1.1 ∙ ap (λ n. n.seq) told'.1 ∙ sym len

-- the number of the last call, by what the client stands for
pub seq_stands : (cfg : Config) (first : ℕ) (calls : List CallRec) (session : ℕ) (m : Member) (ts : List Trace) → StandsFor cfg first calls session m ts → seq_of calls m.last ≡ length ts
seq_stands cfg first calls session m ts s = seq_counts m.client.config m.client.session calls m.last ts s.last_is s.holds.told

-- the same of the client at a place
pub next_seq : {S : Type 0} (w : World S) (traces : ℕ → List Trace) (session : ℕ) (m : Member) → Fits traces w → 1 ≤ session → slice_get w.clients.items (session - 1) ≡ Some m → (seq_of w.calls.items m.last ≡ length (traces session)) × ForSome m.last (λ i. i < length w.calls.items)
next_seq w traces session m fits opened there =
    let s = member_stands w traces session m fits (place_numbered w.clients.items session m opened there) in
    (seq_stands w.cfg (length (map request_of w.net.items) + 1) w.calls.items session m (traces session) s, last_there w.calls.items m.last (traces session) s.last_is)

-- the name of the last call of a session is that of its newest trace
pub names_last : (calls : List CallRec) (o : Option ℕ) (ts : List Trace) → IsLast calls o ts → name_at calls o ≡ last_name ts
names_last calls None ts h = sym (ap last_name h)
names_last calls (Some i) ts h = ap (option_map (λ (c : CallRec). c.name)) h.1.1.1.0 ∙ ap Some h.1.1.1.1.1 ∙ sym (ap last_name h.1.1.1.1.0)
