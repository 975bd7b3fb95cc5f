-- What the program does at an event is what the event does to the state, and the world still fits.
use Rattle.std.proofs.Common.{◌≡◌, ◌≢◌, ℕ, ◌+◌, ◌-◌, ◌*◌, ◌^◌, ◌<◌, ◌≤◌, inl, inr, List, [], ◌∷◌, ◌++◌, Some, None, true, length, map, refl, ap, sym, ◌∙◌, subst, arith, length-append, length-set}
use Rattle.std.specs.Prelude.{Option, min, slice_get, slice_set}
use Rattle.std.proofs.lemmas.Bool.{cases_eq}
use Rattle.std.proofs.lemmas.List.{length-map}
use Rattle.gz_core.specs.Names.{Name}
use Rattle.gz_core.specs.Configurations.{IsConfig}
use Rattle.gz_core.specs.declared.calls.Call.{Call}
use Rattle.gz_config.specs.declared.Config.{Config}
use Rattle.gz_core.specs.declared.requests.Out.{Out}
use Rattle.gz_core.specs.declared.requests.Turn.{Turn}
use Rattle.gz_core.specs.declared.values.Value.{Value}
use Rattle.gz_core.specs.History.{Asked, Action, Caller, Trace, begun, turned}
use Rattle.gz_client.specs.Openings.{IsOpening}
use Rattle.gz_client.specs.declared.client.Client.{Client}
use Rattle.gz_client.specs.Sends.{IsTurn}
use Rattle.gz_client.specs.Traces.{Holds, AllKeepRules, IsAwaited}
use Rattle.gz_history.specs.declared.record.CallRec.{CallRec}
use Rattle.gz_site.specs.Told.{Told}
use Rattle.gz_site.specs.Many.{told_at}
use Rattle.gz_world.specs.States.{RequestAt, request_of, with_traces, sent_request, sent_requests, end_at}
use Rattle.gz_world.specs.Bridge.{crashed_in, state_of}
use Rattle.gz_world.specs.Refusals.{is_live}
use Rattle.gz_world.specs.Fits.{IsLast, StandsFor, FitsBy, Fits}
use Rattle.gz_world.specs.Steps.{answered, SitesStay, FrameStays, TurnBy, TakesTurn, BeginsCall}
use Rattle.gz_world.specs.Turns.{IsSmall, IsUntouched, ToldBy, Began}
use Rattle.gz_world.specs.declared.events.Effect.{Effect}
use Rattle.gz_world.specs.declared.world.Member.{Member}
use Rattle.gz_world.specs.declared.world.World.{World}
use Rattle.gz_world.proofs.Places.{get_set_same, get_set_other, get_below, get_last}
use Rattle.gz_world.proofs.Members.{numbered_place, place_numbered, member_stands}
use Rattle.gz_world.proofs.Addressing.{sent_to_sites}
use Rattle.gz_world.proofs.Telling.{live_found}
use Rattle.gz_world.proofs.Turning.{NamesStay, names_append, names_answered, stands_more, traces_same, traces_other, ArePlaced, placed_append, placed_set, placed_sent, outs_heavy, crashed_stays}

-- the facts of a client's turn that keep a world in fit
pub record IsTurnOf {S : Type 0} (old new : World S) (session : ℕ) (m after : Member) (ts : List Trace) : Type 0 where
  pub opened : 1 ≤ session
  pub member : slice_get old.clients.items (session - 1) ≡ Some m
  pub clients : new.clients.items ≡ slice_set old.clients.items (session - 1) after
  pub names : NamesStay old.calls.items new.calls.items
  pub stands : StandsFor old.cfg (length (map request_of new.net.items) + 1) new.calls.items session after ts
  pub requests : ArePlaced old.cfg.n (length old.clients.items) (map request_of new.net.items)
  pub longer : length (map request_of old.net.items) ≤ length (map request_of new.net.items)
  pub weighs : min (64 * length (map request_of new.net.items)) (2 ^ 64 - 1) ≤ new.held
  pub rest : IsUntouched old new
  pub few : length ts ≤ length old.journal.items + 1

-- the client of a session after a turn of one
clients_after : {S : Type 0} (old new : World S) (traces : ℕ → List Trace) (session : ℕ) (m after : Member) (ts : List Trace) → Fits traces old → IsTurnOf old new session m after ts
    → (i : ℕ) (k : Member) → slice_get (slice_set old.clients.items (session - 1) after) i ≡ Some k → StandsFor old.cfg (length (map request_of new.net.items) + 1) new.calls.items (i + 1) k (with_traces traces session ts (i + 1))
clients_after old new traces session m after ts fits turn i k h =
    let o = turn.opened in
    elim (cases_eq i (session - 1)) [
      | inl e ↦
          let place : i + 1 ≡ session = omega (arith, e, o) in
          let there : slice_get (slice_set old.clients.items (session - 1) after) i ≡ Some after = subst (λ j. slice_get (slice_set old.clients.items (session - 1) after) j ≡ Some after) (sym e) (get_set_same old.clients.items (session - 1) m after turn.member) in
          let both : Some after ≡ Some k = sym there ∙ h in
          let same : after ≡ k = cc in
          subst (λ n. StandsFor old.cfg (length (map request_of new.net.items) + 1) new.calls.items n k (with_traces traces session ts n)) (sym place)
          (subst (λ q. StandsFor old.cfg (length (map request_of new.net.items) + 1) new.calls.items session k q) (sym (traces_same traces session ts))
          (subst (λ q. StandsFor old.cfg (length (map request_of new.net.items) + 1) new.calls.items session q ts) same turn.stands))
      | inr ne ↦
          let there : slice_get old.clients.items i ≡ Some k = sym (get_set_other old.clients.items (session - 1) i after ne) ∙ h in
          let apart : i + 1 ≢ session = λ e. ne (omega (arith, e)) in
          let l = turn.longer in
          let more : length (map request_of old.net.items) + 1 ≤ length (map request_of new.net.items) + 1 = omega (arith, l) in
          subst (λ q. StandsFor old.cfg (length (map request_of new.net.items) + 1) new.calls.items (i + 1) k q) (sym (traces_other traces session (i + 1) ts apart))
          (stands_more old.cfg (length (map request_of old.net.items) + 1) (length (map request_of new.net.items) + 1) old.calls.items new.calls.items (i + 1) k (traces (i + 1)) more turn.names (fits.clients i k there))
    ]

-- a world fits after a client's turn
pub fits_turn : {S : Type 0} (old new : World S) (traces : ℕ → List Trace) (session : ℕ) (m after : Member) (ts : List Trace) → Fits traces old → IsSmall old → IsTurnOf old new session m after ts → FitsBy (length old.journal.items + 1) (with_traces traces session ts) new
fits_turn old new traces session m after ts fits small turn =
    let opened = turn.opened in
    let below = get_below old.clients.items (session - 1) m turn.member in
    let cfg : new.cfg ≡ old.cfg = turn.rest.cfg in
    let n : new.cfg.n ≡ old.cfg.n = ap (λ (c : Config). c.n) cfg in
    let sites : length new.sites.items ≡ length old.sites.items = ap (λ v. length v.items) turn.rest.sites in
    let members : length new.clients.items ≡ length old.clients.items = ap length turn.clients ∙ length-set old.clients.items (session - 1) after in
    let enough = fits.sites in
    let few = fits.few in
    let was = fits.opened in
    let events = small.events in
    record {
      config = subst IsConfig (sym cfg) fits.config;
      sites = omega (arith, n, sites, enough);
      requests = subst (λ k. ArePlaced k (length new.clients.items) (map request_of new.net.items)) (sym n) (subst (λ k. ArePlaced old.cfg.n k (map request_of new.net.items)) (sym members) turn.requests);
      clients = λ i k h. subst (λ c. StandsFor c (length (map request_of new.net.items) + 1) new.calls.items (i + 1) k (with_traces traces session ts (i + 1))) (sym cfg)
          (clients_after old new traces session m after ts fits turn i k (subst (λ xs. slice_get xs i ≡ Some k) turn.clients h));
      unopened = λ k l.
          let apart : k ≢ session = λ e. absurd (omega (arith, e, l, members, below, opened)) in
          let far : length old.clients.items < k = omega (arith, l, members) in
          traces_other traces session k ts apart ∙ fits.unopened k far;
      zeroth = let apart : 0 ≢ session = λ e. absurd (omega (arith, e, opened)) in traces_other traces session 0 ts apart ∙ fits.zeroth;
      few = λ k. elim (cases_eq k session) [
        | inl e ↦ subst (λ q. length (with_traces traces session ts q) ≤ length old.journal.items + 1) (sym e) (subst (λ q. length q ≤ length old.journal.items + 1) (sym (traces_same traces session ts)) turn.few)
        | inr ne ↦ subst (λ q. length q ≤ length old.journal.items + 1) (sym (traces_other traces session k ts ne)) (let f = few k in omega (arith, f))
      ];
      weighs = turn.weighs;
      opened = omega (arith, members, was);
      bounded = omega (arith, events);
    }

-- what a turn leaves alone, as the state has it
untouched_sites : {S : Type 0} (told : S → Option Told) (old new : World S) (traces after : ℕ → List Trace) → IsUntouched old new → SitesStay (state_of told traces old) (state_of told after new)
untouched_sites told old new traces after rest = record {
  sites = λ i. ap (λ v. told_at told v.items i) rest.sites;
  casts = ap (λ c. c.list.items) rest.casts;
}

untouched_frame : {S : Type 0} (told : S → Option Told) (old new : World S) (traces after : ℕ → List Trace) → IsUntouched old new → FrameStays (state_of told traces old) (state_of told after new)
untouched_frame told old new traces after rest = record { cfg = rest.cfg; journal = ap (λ v. v.items) rest.journal }

-- the number of sent requests
length-sent : (name : Name) (tick : ℕ) (outs : List Out) → length (sent_requests name tick outs) ≡ length outs
length-sent name tick outs = length-map outs (sent_request name tick)

-- the length of the requests after a turn
length_after : (olds news : List RequestAt) (at : ℕ) (marked : RequestAt) (name : Name) (tick : ℕ) (outs : List Out) → news ≡ slice_set olds at marked ++ sent_requests name tick outs → length news ≡ length olds + length outs
length_after olds news at marked name tick outs e =
    ap length e ∙ length-append (slice_set olds at marked) (sent_requests name tick outs) ∙ ap (λ k. k + length (sent_requests name tick outs)) (length-set olds at marked) ∙ ap (λ k. length olds + k) (length-sent name tick outs)

answered_name : (tick : ℕ) (o : _) (c : CallRec) → (answered tick o c).name ≡ c.name
answered_name tick None c = refl
answered_name tick (Some a) c = refl

-- the record of the last call of a session has the name of its newest trace
name_of_last : (calls : List CallRec) (o : Option ℕ) (last : ℕ) (c : CallRec) (t : Trace) (earlier : List Trace) → o ≡ Some last → slice_get calls last ≡ Some c → IsLast calls o (t ∷ earlier) → c.name ≡ t.caller.name
name_of_last calls o last c t earlier is there h =
    let k : IsLast calls (Some last) (t ∷ earlier) = subst (λ p. IsLast calls p (t ∷ earlier)) is h in
    let p : Some c ≡ Some k.0 = sym there ∙ k.1.1.1.0 in
    let q : c ≡ k.0 = cc in
    let u : t ∷ earlier ≡ k.1.0 ∷ k.1.1.0 = k.1.1.1.1.0 in
    let v : t ≡ k.1.0 = cc in
    ap (λ (d : CallRec). d.name) q ∙ k.1.1.1.1.1 ∙ ap (λ (d : Trace). d.caller.name) (sym v)

-- the running call of a session learns of a request
pub told_turn : {S : Type 0} (told : S → Option Told) (old new : World S) (traces : ℕ → List Trace) (n : ℕ) (r marked : RequestAt) (action : Asked → Action) (m : Member) (last : ℕ) (c : CallRec) (client : Client) (turn : Turn) (effect : Effect)
    → Fits traces old → IsSmall old → marked.name ≡ r.name → marked.site ≡ r.site → is_live old.cfg (traces r.name.session) n ≡ true → ToldBy old new n r marked action m last c client turn effect
    → (by : TurnBy) × ((after : ℕ → List Trace) × (FitsBy (length old.journal.items + 1) after new × TakesTurn (state_of told traces old) n r action by marked effect (state_of told after new)))
told_turn told old new traces n r marked action m last c client turn effect fits small name_same site_same live b =
    let session = r.name.session in
    let first = length (map request_of old.net.items) + 1 in
    let tick = length old.journal.items + 1 in
    let place = numbered_place (map request_of old.net.items) n r b.request in
    let placed = fits.requests (n - 1) r place.1 in
    let opened = placed.opened in
    let s = member_stands old traces session m fits (place_numbered old.clients.items session m opened b.member) in
    let live' : is_live m.client.config (traces session) n ≡ true = ap (λ k. is_live k (traces session) n) s.config_is ∙ live in
    let f = live_found m.client s.next (traces session) n s.holds live' in
    let t = f.0 in
    let earlier = f.1.0 in
    let a = f.1.1.0 in
    let is : traces session ≡ t ∷ earlier = f.1.1.1.0 in
    let holds : Holds m.client s.next (t ∷ earlier) = subst (Holds m.client s.next) is s.holds in
    let x = b.extends s.next t earlier a holds f.1.1.1.1 s.below in
    let closing = x.0 in
    let ts : List Trace = turned first turn (action a) closing t ∷ earlier in
    let after : Member = record { client = client; crashed = m.crashed; last = Some last } in
    let config : client.config ≡ old.cfg = b.same.config_is ∙ s.config_is in
    let number : client.session ≡ session = b.same.session_is ∙ s.session_is in
    let told_by : AllKeepRules old.cfg session ts = subst (λ k. AllKeepRules old.cfg k ts) number (subst (λ k. AllKeepRules k client.session ts) config x.2.told) in
    let named : t.caller.name ≡ record { session = session; seq = length earlier + 1 } = told_by.1 in
    let name : c.name ≡ t.caller.name = name_of_last old.calls.items m.last last c t earlier b.last_is b.record_is (subst (IsLast old.calls.items m.last) is s.last_is) in
    let own : c.name.session ≡ session = ap (λ (k : Name). k.session) (name ∙ named) in
    let sent = sent_to_sites old.cfg t.caller earlier first turn.send closing (action a ∷ t.actions) fits.config x.1 told_by.0.allowed told_by.0.blobs in
    let grown : length (map request_of new.net.items) ≡ length (map request_of old.net.items) + length turn.send = length_after (map request_of old.net.items) (map request_of new.net.items) (n - 1) marked c.name tick turn.send b.net in
    let heavy = outs_heavy turn.send in
    let weighed = fits.weighs in
    let held = b.held in
    let within = placed.session in
    let count : length (traces session) ≡ length earlier + 1 = ap length is ∙ omega arith in
    let few = fits.few session in
    let of : IsTurnOf old new session m after ts = record {
      opened = opened;
      member = b.member;
      clients = b.clients;
      names = subst (NamesStay old.calls.items) (sym b.calls) (names_answered old.calls.items last c tick turn.answer b.record_is);
      stands = record {
        next = first + length turn.send;
        below = omega (arith, grown);
        holds = x.2;
        config_is = config;
        session_is = number;
        last_is = (answered tick turn.answer c, (turned first turn (action a) closing t, (earlier, (subst (λ xs. slice_get xs last ≡ Some (answered tick turn.answer c)) (sym b.calls) (get_set_same old.calls.items last c (answered tick turn.answer c) b.record_is), (refl {a = ts}, answered_name tick turn.answer c ∙ name)))));
      };
      requests = subst (ArePlaced old.cfg.n (length old.clients.items)) (sym b.net)
          (placed_append old.cfg.n (length old.clients.items) (slice_set (map request_of old.net.items) (n - 1) marked) (sent_requests c.name tick turn.send)
          (placed_set old.cfg.n (length old.clients.items) (map request_of old.net.items) (n - 1) marked fits.requests
          (record { opened = subst (λ (k : Name). 1 ≤ k.session) (sym name_same) placed.opened; session = subst (λ (k : Name). k.session ≤ length old.clients.items) (sym name_same) placed.session; site = subst (λ k. k < old.cfg.n) (sym site_same) placed.site }))
          (placed_sent old.cfg.n (length old.clients.items) c.name tick turn.send (omega (arith, own, opened)) (omega (arith, own, within)) sent));
      longer = omega (arith, grown);
      weighs = omega (arith, grown, heavy, weighed, held);
      rest = b.rest;
      few = omega (arith, count, few);
    } in (
      record { trace = t; earlier = earlier; asked = a; turn = turn; closing = closing },
      (
        with_traces traces session ts,
        (
          fits_turn old new traces session m after ts fits small of,
          record {
            request = b.request;
            traces = is;
            awaited = subst (λ k. IsAwaited k t a n) s.config_is f.1.1.1.1;
            closing = x.1;
            sends = subst (λ k. IsTurn k (action a ∷ t.actions) first turn closing) s.config_is x.3;
            moves = record {
              sessions = ap length b.clients ∙ length-set old.clients.items (session - 1) after;
              crashed = λ k. ap (λ xs. crashed_in xs k) b.clients ∙ crashed_stays old.clients.items (session - 1) m after b.member refl k;
              traces = λ k. refl {a = with_traces traces session ts k};
              told = told_by;
            };
            calls = (last, (c, (b.record_is, (name, b.calls))));
            net = subst (λ k. map request_of new.net.items ≡ slice_set (map request_of old.net.items) (n - 1) marked ++ sent_requests k tick turn.send) name b.net;
            held = b.held;
            sites = untouched_sites told old new traces (with_traces traces session ts) b.rest;
            frame = untouched_frame told old new traces (with_traces traces session ts) b.rest;
            effect_is = b.effect_is;
          },
        ),
      ),
    )

-- a session begins a call
pub begun_turn : {S : Type 0} (told : S → Option Told) (old new : World S) (traces : ℕ → List Trace) (session : ℕ) (call : Call) (effect : Effect) → Fits traces old → IsSmall old → Began old new session call effect
    → (after : ℕ → List Trace) × (FitsBy (length old.journal.items + 1) after new × BeginsCall (state_of told traces old) session call effect (state_of told after new))
begun_turn told old new traces session call effect fits small began =
    let m = began.0 in
    let client = began.1.0 in
    let turn = began.1.1.0 in
    let name = began.1.1.1.0 in
    let b = began.1.1.1.1 in
    let first = length (map request_of old.net.items) + 1 in
    let tick = length old.journal.items + 1 in
    let ts = traces session in
    let s = member_stands old traces session m fits (place_numbered old.clients.items session m b.opened b.member) in
    let after : Member = record { client = client; crashed = m.crashed; last = Some (length old.calls.items) } in
    let begins = b.holds s.next ts s.holds s.below in
    let own : Option Value = begins.0 in
    let caller : Caller = record { name = record { session = session; seq = length ts + 1 }; call = call; own = own } in
    let more : List Trace = begun session call own first turn ts ∷ ts in
    let holds : Holds client (first + length turn.send) more = subst (λ k. Holds client (first + length turn.send) (begun k call own first turn ts ∷ ts)) s.session_is begins.1.0 in
    let opens : IsOpening old.cfg caller turn.send = subst (λ k. IsOpening old.cfg (begun k call own first turn ts).caller turn.send) s.session_is (subst (λ k. IsOpening k (begun m.client.session call own first turn ts).caller turn.send) s.config_is begins.1.1) in
    let config : client.config ≡ old.cfg = b.same.config_is ∙ s.config_is in
    let number : client.session ≡ session = b.same.session_is ∙ s.session_is in
    let told_by : AllKeepRules old.cfg session more = subst (λ k. AllKeepRules old.cfg k more) number (subst (λ k. AllKeepRules k client.session more) config holds.told) in
    let named : name ≡ record { session = session; seq = length ts + 1 } = b.name_is traces fits in
    let mine : name.session ≡ session = ap (λ (k : Name). k.session) named in
    let sent = sent_to_sites old.cfg caller ts first turn.send [] [] fits.config (inl (inl refl)) told_by.0.allowed told_by.0.blobs in
    let outs = sent_requests name tick turn.send in
    let grown : length (map request_of new.net.items) ≡ length (map request_of old.net.items) + length turn.send = ap length b.net ∙ length-append (map request_of old.net.items) outs ∙ ap (λ k. length (map request_of old.net.items) + k) (length-sent name tick turn.send) in
    let heavy = outs_heavy turn.send in
    let weighed = fits.weighs in
    let held = b.held in
    let opened = b.opened in
    let below = get_below old.clients.items (session - 1) m b.member in
    let few = fits.few session in
    let rec : CallRec = record { name = name; call = call; begin = tick; end = end_at tick turn.answer; answer = turn.answer } in
    let of : IsTurnOf old new session m after more = record {
      opened = b.opened;
      member = b.member;
      clients = b.clients;
      names = subst (NamesStay old.calls.items) (sym b.calls) (names_append old.calls.items (rec ∷ []));
      stands = record {
        next = first + length turn.send;
        below = omega (arith, grown);
        holds = holds;
        config_is = config;
        session_is = number;
        last_is = (rec, (begun session call own first turn ts, (ts, (subst (λ xs. slice_get xs (length old.calls.items) ≡ Some rec) (sym b.calls) (get_last old.calls.items rec), (refl {a = more}, named)))));
      };
      requests = subst (ArePlaced old.cfg.n (length old.clients.items)) (sym b.net)
          (placed_append old.cfg.n (length old.clients.items) (map request_of old.net.items) outs fits.requests
          (placed_sent old.cfg.n (length old.clients.items) name tick turn.send (omega (arith, mine, opened)) (omega (arith, mine, below, opened)) sent));
      longer = omega (arith, grown);
      weighs = omega (arith, grown, heavy, weighed, held);
      rest = b.rest;
      few = omega (arith, few);
    } in (
      with_traces traces session more,
      (
        fits_turn old new traces session m after more fits small of,
        (
          own,
          (
            turn,
            record {
              within = b.within;
              opens = opens;
              moves = record {
                sessions = ap length b.clients ∙ length-set old.clients.items (session - 1) after;
                crashed = λ k. ap (λ xs. crashed_in xs k) b.clients ∙ crashed_stays old.clients.items (session - 1) m after b.member refl k;
                traces = λ k. refl {a = with_traces traces session more k};
                told = told_by;
              };
              calls = subst (λ (k : Name). new.calls.items ≡ old.calls.items ++ record { name = k; call = call; begin = tick; end = end_at tick turn.answer; answer = turn.answer } ∷ []) named b.calls;
              net = subst (λ (k : Name). map request_of new.net.items ≡ map request_of old.net.items ++ sent_requests k tick turn.send) named b.net;
              held = b.held;
              sites = untouched_sites told old new traces (with_traces traces session more) b.rest;
              frame = untouched_frame told old new traces (with_traces traces session more) b.rest;
              effect_is = b.effect_is;
            },
          ),
        ),
      ),
    )
