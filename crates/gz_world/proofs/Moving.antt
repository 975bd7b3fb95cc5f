-- Deliveries, and changes of the list of sessions: what they do to the state, and that the world still fits.
use Rattle.std.proofs.Common.{◌≡◌, ◌≢◌, ℕ, zero, suc, ◌+◌, ◌-◌, ◌≤◌, inl, inr, List, [], ◌∷◌, ◌++◌, Some, None, true, false, length, map, refl, ap, sym, ◌∙◌, subst, arith, length-append, length-set}
use Rattle.std.specs.Prelude.{Option, ◌==◌, slice_get, slice_set, option_map, option_and_then, unwrap_or, if◌then◌else◌}
use Rattle.std.proofs.lemmas.Bool.{cases_eq}
use Rattle.std.proofs.lemmas.Bool.Decides.{nat_tests}
use Rattle.gz_core.specs.Configurations.{IsConfig}
use Rattle.gz_config.specs.declared.Config.{Config}
use Rattle.gz_core.specs.History.{Trace}
use Rattle.gz_client.specs.Traces.{Holds}
use Rattle.gz_site.specs.Told.{Told}
use Rattle.gz_site.specs.Many.{told_at}
use Rattle.gz_world.specs.States.{request_of, with_reply}
use Rattle.gz_world.specs.Bridge.{crashed_in, state_of}
use Rattle.gz_world.specs.Fits.{StandsFor, FitsBy, Fits}
use Rattle.gz_world.specs.Steps.{SitesStay, FrameStays, SameState, OpensSession, Crashes, Delivers}
use Rattle.gz_world.specs.Turns.{IsSmall, IsSameWorld}
use Rattle.gz_world.specs.Deliveries.{IsSameTold, WasDelivered, ListsUntouched, WasOpened, WasCrashed}
use Rattle.gz_world.specs.declared.events.Effect.{Effect}
use Rattle.gz_world.specs.declared.world.Member.{Member}
use Rattle.gz_world.specs.declared.world.World.{World}
use Rattle.gz_world.proofs.Places.{get_set_same, get_set_other, get_of_two, get_one}
use Rattle.gz_world.proofs.Members.{numbered_place, numbered_suc}
use Rattle.gz_world.proofs.Turning.{ArePlaced, placed_set}

-- what is kept of the sessions, after something that leaves them alone
pub record IsKeptOf {S : Type 0} (old new : World S) : Type 0 where
  pub cfg : new.cfg ≡ old.cfg
  pub sites : length new.sites.items ≡ length old.sites.items
  pub clients : new.clients.items ≡ old.clients.items
  pub calls : new.calls.items ≡ old.calls.items
  pub requests : ArePlaced old.cfg.n (length old.clients.items) (map request_of new.net.items)
  pub count : length (map request_of new.net.items) ≡ length (map request_of old.net.items)
  pub held : old.held ≤ new.held

pub fits_kept : {S : Type 0} (old new : World S) (traces : ℕ → List Trace) (events : ℕ) → Fits traces old → length old.journal.items ≤ events → events ≤ 4000000 → IsKeptOf old new → FitsBy events traces new
fits_kept old new traces events fits le bounded k =
    let n : new.cfg.n ≡ old.cfg.n = ap (λ (c : Config). c.n) k.cfg in
    let members : length new.clients.items ≡ length old.clients.items = ap length k.clients in
    let sites = k.sites in
    let count = k.count in
    let held = k.held in
    let enough = fits.sites in
    let weighed = fits.weighs in
    let opened = fits.opened in
    let few = fits.few in
    record {
      config = subst IsConfig (sym k.cfg) fits.config;
      sites = omega (arith, n, sites, enough);
      requests = subst (λ q. ArePlaced q (length new.clients.items) (map request_of new.net.items)) (sym n) (subst (λ q. ArePlaced old.cfg.n q (map request_of new.net.items)) (sym members) k.requests);
      clients = λ i m h.
          subst (λ q. StandsFor new.cfg q new.calls.items (i + 1) m (traces (i + 1))) (ap (λ q. q + 1) (sym count))
          (subst (λ q. StandsFor new.cfg (length (map request_of old.net.items) + 1) q (i + 1) m (traces (i + 1))) (sym k.calls)
          (subst (λ q. StandsFor q (length (map request_of old.net.items) + 1) old.calls.items (i + 1) m (traces (i + 1))) (sym k.cfg)
          (fits.clients i m (subst (λ xs. slice_get xs i ≡ Some m) k.clients h))));
      unopened = λ s l. fits.unopened s (omega (arith, l, members));
      zeroth = fits.zeroth;
      few = λ s. let f = few s in omega (arith, f, le);
      weighs = omega (arith, count, held, weighed);
      opened = omega (arith, members, opened, le);
      bounded = bounded;
    }

-- nothing was done
kept_same : {S : Type 0} (told : S → Option Told) (old new : World S) (traces : ℕ → List Trace) → Fits traces old → IsSameTold told old new → IsKeptOf old new
kept_same told old new traces fits same = let h = same.held in record {
  cfg = same.cfg;
  sites = same.len;
  clients = same.clients;
  calls = same.calls;
  requests = subst (ArePlaced old.cfg.n (length old.clients.items)) (sym same.net) fits.requests;
  count = ap length same.net;
  held = omega (arith, h);
}

pub fits_same : {S : Type 0} (told : S → Option Told) (old new : World S) (traces : ℕ → List Trace) (events : ℕ) → Fits traces old → length old.journal.items ≤ events → events ≤ 4000000 → IsSameTold told old new → FitsBy events traces new
fits_same told old new traces events fits le bounded same = fits_kept old new traces events fits le bounded (kept_same told old new traces fits same)

pub state_same : {S : Type 0} (told : S → Option Told) (old new : World S) (traces : ℕ → List Trace) → IsSameTold told old new → SameState (state_of told traces old) (state_of told traces new)
state_same told old new traces same = record {
  sites = record { sites = same.told_is; casts = same.casts };
  sessions = record { sessions = ap length same.clients; crashed = λ k. ap (λ xs. crashed_in xs k) same.clients; traces = λ k. refl; calls = same.calls };
  frame = record { cfg = same.cfg; journal = ap (λ v. v.items) same.journal };
  net = same.net;
  held = same.held;
}

-- a turn that failed
pub same_told : {S : Type 0} (told : S → Option Told) (old new : World S) → IsSameWorld old new → IsSameTold told old new
same_told told old new same = record {
  cfg = same.rest.cfg;
  journal = same.rest.journal;
  clients = same.clients;
  calls = same.calls;
  len = ap (λ v. length v.items) same.rest.sites;
  told_is = λ i. ap (λ v. told_at told v.items i) same.rest.sites;
  casts = ap (λ c. c.list.items) same.rest.casts;
  net = same.net;
  held = same.held;
}

-- a request was performed
pub delivered_moves : {S : Type 0} (told : S → Option Told) (old new : World S) (traces : ℕ → List Trace) (n : ℕ) (effect : Effect) → Fits traces old → IsSmall old → WasDelivered told old new n effect
    → FitsBy (length old.journal.items + 1) traces new × Delivers (state_of told traces old) n effect (state_of told traces new)
delivered_moves told old new traces n effect fits small d =
    let r = d.0 in
    let reply = d.1.0 in
    let b = d.1.1 in
    let place = numbered_place (map request_of old.net.items) n r b.request in
    let placed = fits.requests (n - 1) r place.1 in
    let marked = with_reply (length old.journal.items + 1) reply r in
    let events = small.events in
    let light = small.held in
    let held = b.held in
    let kept : IsKeptOf old new = record {
      cfg = b.rest.cfg;
      sites = b.len;
      clients = ap (λ v. v.items) b.rest.clients;
      calls = ap (λ v. v.items) b.rest.calls;
      requests = subst (ArePlaced old.cfg.n (length old.clients.items)) (sym b.net)
          (placed_set old.cfg.n (length old.clients.items) (map request_of old.net.items) (n - 1) marked fits.requests (record { opened = placed.opened; session = placed.session; site = placed.site }));
      count = ap length b.net ∙ length-set (map request_of old.net.items) (n - 1) marked;
      held = omega (arith, held, light);
    } in (
      fits_kept old new traces (length old.journal.items + 1) fits (omega arith) (omega (arith, events)) kept,
      (
        r,
        (
          reply,
          record {
            request = b.request;
            kind = b.kind;
            site = b.site;
            others = λ i ne. ap (option_and_then told) (b.others i ne);
            net = b.net;
            casts = b.casts;
            held = b.held;
            sessions = record { sessions = ap length kept.clients; crashed = λ k. ap (λ xs. crashed_in xs k) kept.clients; traces = λ k. refl; calls = kept.calls };
            frame = record { cfg = kept.cfg; journal = ap (λ v. v.items) b.rest.journal };
            effect_is = b.effect_is;
          },
        ),
      ),
    )

-- a change of the list of sessions leaves the rest alone
lists_sites : {S : Type 0} (told : S → Option Told) (old new : World S) (traces : ℕ → List Trace) → ListsUntouched old new → SitesStay (state_of told traces old) (state_of told traces new)
lists_sites told old new traces rest = record { sites = λ i. ap (λ v. told_at told v.items i) rest.sites; casts = ap (λ c. c.list.items) rest.casts }

lists_frame : {S : Type 0} (told : S → Option Told) (old new : World S) (traces : ℕ → List Trace) → ListsUntouched old new → FrameStays (state_of told traces old) (state_of told traces new)
lists_frame told old new traces rest = record { cfg = rest.cfg; journal = ap (λ v. v.items) rest.journal }

-- the sessions after a change of their list
fits_lists : {S : Type 0} (old new : World S) (traces : ℕ → List Trace) → Fits traces old → IsSmall old → ListsUntouched old new → length old.clients.items ≤ length new.clients.items → length new.clients.items ≤ length old.clients.items + 1
    → ((i : ℕ) (m : Member) → slice_get new.clients.items i ≡ Some m → StandsFor old.cfg (length (map request_of old.net.items) + 1) old.calls.items (i + 1) m (traces (i + 1)))
    → FitsBy (length old.journal.items + 1) traces new
fits_lists old new traces fits small rest more one stand =
    let n : new.cfg.n ≡ old.cfg.n = ap (λ (c : Config). c.n) rest.cfg in
    let sites : length new.sites.items ≡ length old.sites.items = ap (λ v. length v.items) rest.sites in
    let net : map request_of new.net.items ≡ map request_of old.net.items = ap (λ v. map request_of v.items) rest.net in
    let count : length (map request_of new.net.items) ≡ length (map request_of old.net.items) = ap length net in
    let held = rest.held in
    let enough = fits.sites in
    let weighed = fits.weighs in
    let opened = fits.opened in
    let few = fits.few in
    let events = small.events in
    record {
      config = subst IsConfig (sym rest.cfg) fits.config;
      sites = omega (arith, n, sites, enough);
      requests = λ i r h.
          let p = fits.requests i r (subst (λ xs. slice_get xs i ≡ Some r) net h) in
          let s = p.session in
          let at = p.site in
          record { opened = p.opened; session = omega (arith, s, more); site = omega (arith, at, n) };
      clients = λ i m h.
          subst (λ q. StandsFor new.cfg q new.calls.items (i + 1) m (traces (i + 1))) (ap (λ q. q + 1) (sym count))
          (subst (λ q. StandsFor new.cfg (length (map request_of old.net.items) + 1) q (i + 1) m (traces (i + 1))) (sym (ap (λ v. v.items) rest.calls))
          (subst (λ q. StandsFor q (length (map request_of old.net.items) + 1) old.calls.items (i + 1) m (traces (i + 1))) (sym rest.cfg) (stand i m h)));
      unopened = λ s l. fits.unopened s (omega (arith, l, more));
      zeroth = fits.zeroth;
      few = λ s. let f = few s in omega (arith, f);
      weighs = omega (arith, count, held, weighed);
      opened = omega (arith, one, opened);
      bounded = omega (arith, events);
    }

-- whether sessions have crashed, after one more was opened
crashed_more : (xs : List Member) (y : Member) → y.crashed ≡ false → (i : ℕ) → unwrap_or (option_map (λ (k : Member). k.crashed) (slice_get (xs ++ y ∷ []) i)) false ≡ unwrap_or (option_map (λ (k : Member). k.crashed) (slice_get xs i)) false
crashed_more [] y h zero = h
crashed_more [] y h (suc i) = refl
crashed_more (x ∷ xs) y h zero = refl
crashed_more (x ∷ xs) y h (suc i) = crashed_more xs y h i

crashed_opened : (xs : List Member) (y : Member) → y.crashed ≡ false → (n : ℕ) → crashed_in (xs ++ y ∷ []) n ≡ crashed_in xs n
crashed_opened xs y h zero = refl
crashed_opened xs y h (suc n) =
    ap (λ o. unwrap_or (option_map (λ (k : Member). k.crashed) o) false) (numbered_suc (xs ++ y ∷ []) n) ∙ crashed_more xs y h n ∙ sym (ap (λ o. unwrap_or (option_map (λ (k : Member). k.crashed) o) false) (numbered_suc xs n))

-- a session was opened
pub opened_moves : {S : Type 0} (told : S → Option Told) (old new : World S) (traces : ℕ → List Trace) (effect : Effect) → Fits traces old → IsSmall old → WasOpened old new effect
    → FitsBy (length old.journal.items + 1) traces new × OpensSession (state_of told traces old) effect (state_of told traces new)
opened_moves told old new traces effect fits small o =
    let client = o.0 in
    let b = o.1 in
    let member : Member = record { client = client; crashed = false; last = None } in
    let members : length new.clients.items ≡ length old.clients.items + 1 = ap length b.clients ∙ length-append old.clients.items (member ∷ []) in
    let empty : traces (length old.clients.items + 1) ≡ [] = fits.unopened (length old.clients.items + 1) (omega arith) in
    let fresh : StandsFor old.cfg (length (map request_of old.net.items) + 1) old.calls.items (length old.clients.items + 1) member (traces (length old.clients.items + 1)) = record {
      next = 0;
      below = omega arith;
      holds = subst (Holds client 0) (sym empty) (b.holds 0);
      config_is = b.config;
      session_is = b.session;
      last_is = empty;
    } in
    let stand : (i : ℕ) (m : Member) → slice_get new.clients.items i ≡ Some m → StandsFor old.cfg (length (map request_of old.net.items) + 1) old.calls.items (i + 1) m (traces (i + 1)) =
    λ i m h. elim (get_of_two old.clients.items (member ∷ []) i m (subst (λ xs. slice_get xs i ≡ Some m) b.clients h)) [
      | inl e ↦ fits.clients i m e
      | inr e ↦
          let q = get_one member m e.0 e.1.1 in
          let at = e.1.0 in
          let z = q.0 in
          let place : i ≡ length old.clients.items = omega (arith, at, z) in
          subst (λ k. StandsFor old.cfg (length (map request_of old.net.items) + 1) old.calls.items (k + 1) m (traces (k + 1))) (sym place)
          (subst (λ k. StandsFor old.cfg (length (map request_of old.net.items) + 1) old.calls.items (length old.clients.items + 1) k (traces (length old.clients.items + 1))) q.1 fresh)
    ] in (
      fits_lists old new traces fits small b.rest (omega (arith, members)) (omega (arith, members)) stand,
      record {
        sessions = members;
        crashed = λ k. ap (λ xs. crashed_in xs k) b.clients ∙ crashed_opened old.clients.items member refl k;
        traces = λ k. refl;
        calls = ap (λ v. v.items) b.rest.calls;
        sites = lists_sites told old new traces b.rest;
        frame = lists_frame told old new traces b.rest;
        net = ap (λ v. map request_of v.items) b.rest.net;
        held = b.rest.held;
        effect_is = b.effect_is;
      },
    )

-- whether sessions have crashed, after one did
crashed_one : (xs : List Member) (at : ℕ) (m y : Member) → slice_get xs at ≡ Some m → y.crashed ≡ true → (i : ℕ) → option_map (λ (k : Member). k.crashed) (slice_get (slice_set xs at y) i) ≡ (if i == at then Some true else option_map (λ (k : Member). k.crashed) (slice_get xs i))
crashed_one xs at m y here gone i =
    elim (cases_eq i at) [
      | inl e ↦
          let t : (i == at) ≡ true = grind (arith, nat_tests) in
          subst (λ k. option_map (λ (k : Member). k.crashed) (slice_get (slice_set xs at y) k) ≡ Some true) (sym e) (ap (option_map (λ (k : Member). k.crashed)) (get_set_same xs at m y here) ∙ ap Some gone)
          ∙ sym (ap (λ b. if b then Some true else option_map (λ (k : Member). k.crashed) (slice_get xs i)) t)
      | inr ne ↦
          let t : (i == at) ≡ false = grind (arith, nat_tests) in
          ap (option_map (λ (k : Member). k.crashed)) (get_set_other xs at i y ne) ∙ sym (ap (λ b. if b then Some true else option_map (λ (k : Member). k.crashed) (slice_get xs i)) t)
    ]

crash_test : (xs : List Member) (session n : ℕ) → 1 ≤ session → unwrap_or (if n == session - 1 then Some true else option_map (λ (k : Member). k.crashed) (slice_get xs n)) false ≡ (if suc n == session then true else crashed_in xs (suc n))
crash_test xs session n opened =
    elim (cases_eq (suc n) session) [
      | inl e ↦
          let t : (suc n == session) ≡ true = grind (arith, nat_tests) in
          let p : n ≡ session - 1 = omega (arith, e) in
          let u : (n == session - 1) ≡ true = grind (arith, nat_tests) in
          ap (λ b. unwrap_or (if b then Some true else option_map (λ (k : Member). k.crashed) (slice_get xs n)) false) u ∙ sym (ap (λ b. if b then true else crashed_in xs (suc n)) t)
      | inr ne ↦
          let t : (suc n == session) ≡ false = grind (arith, nat_tests) in
          let p : n ≢ session - 1 = λ e. ne (omega (arith, e, opened)) in
          let u : (n == session - 1) ≡ false = grind (arith, nat_tests) in
          ap (λ b. unwrap_or (if b then Some true else option_map (λ (k : Member). k.crashed) (slice_get xs n)) false) u
          ∙ sym (ap (λ o. unwrap_or (option_map (λ (k : Member). k.crashed) o) false) (numbered_suc xs n))
          ∙ sym (ap (λ b. if b then true else crashed_in xs (suc n)) t)
    ]

crashed_by : (xs : List Member) (session : ℕ) (m y : Member) → 1 ≤ session → slice_get xs (session - 1) ≡ Some m → y.crashed ≡ true → (n : ℕ) → crashed_in (slice_set xs (session - 1) y) n ≡ (if n == session then true else crashed_in xs n)
crashed_by xs session m y opened here gone zero = let t : (0 == session) ≡ false = grind (arith, nat_tests) in sym (ap (λ b. if b then true else false) t)
crashed_by xs session m y opened here gone (suc n) =
    ap (λ o. unwrap_or (option_map (λ (k : Member). k.crashed) o) false) (numbered_suc (slice_set xs (session - 1) y) n)
    ∙ ap (λ o. unwrap_or o false) (crashed_one xs (session - 1) m y here gone n)
    ∙ crash_test xs session n opened

-- a session crashed
pub crashed_moves : {S : Type 0} (told : S → Option Told) (old new : World S) (traces : ℕ → List Trace) (session : ℕ) (effect : Effect) → Fits traces old → IsSmall old → WasCrashed old new session effect
    → FitsBy (length old.journal.items + 1) traces new × Crashes (state_of told traces old) session effect (state_of told traces new)
crashed_moves told old new traces session effect fits small o =
    let m = o.0 in
    let b = o.1 in
    let after : Member = record { client = m.client; crashed = true; last = m.last } in
    let members : length new.clients.items ≡ length old.clients.items = ap length b.clients ∙ length-set old.clients.items (session - 1) after in
    let stand : (i : ℕ) (k : Member) → slice_get new.clients.items i ≡ Some k → StandsFor old.cfg (length (map request_of old.net.items) + 1) old.calls.items (i + 1) k (traces (i + 1)) =
    λ i k h.
    let h' : slice_get (slice_set old.clients.items (session - 1) after) i ≡ Some k = subst (λ xs. slice_get xs i ≡ Some k) b.clients h in
    elim (cases_eq i (session - 1)) [
      | inl e ↦
          let there : slice_get (slice_set old.clients.items (session - 1) after) i ≡ Some after = subst (λ j. slice_get (slice_set old.clients.items (session - 1) after) j ≡ Some after) (sym e) (get_set_same old.clients.items (session - 1) m after b.member) in
          let both : Some after ≡ Some k = sym there ∙ h' in
          let same : after ≡ k = cc in
          let s = fits.clients i m (subst (λ j. slice_get old.clients.items j ≡ Some m) (sym e) b.member) in
          let t : StandsFor old.cfg (length (map request_of old.net.items) + 1) old.calls.items (i + 1) after (traces (i + 1)) = record { next = s.next; below = s.below; holds = s.holds; config_is = s.config_is; session_is = s.session_is; last_is = s.last_is } in
          subst (λ q. StandsFor old.cfg (length (map request_of old.net.items) + 1) old.calls.items (i + 1) q (traces (i + 1))) same t
      | inr ne ↦ fits.clients i k (sym (get_set_other old.clients.items (session - 1) i after ne) ∙ h')
    ] in (
      fits_lists old new traces fits small b.rest (omega (arith, members)) (omega (arith, members)) stand,
      record {
        sessions = members;
        crashed = λ k. ap (λ xs. crashed_in xs k) b.clients ∙ crashed_by old.clients.items session m after b.opened b.member refl k;
        traces = λ k. refl;
        calls = ap (λ v. v.items) b.rest.calls;
        sites = lists_sites told old new traces b.rest;
        frame = lists_frame told old new traces b.rest;
        net = ap (λ v. map request_of v.items) b.rest.net;
        held = b.rest.held;
        effect_is = b.effect_is;
      },
    )
