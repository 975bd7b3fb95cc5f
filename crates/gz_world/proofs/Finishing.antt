-- The parts of a client's turn, as the program makes them one after another, are one turn.
use Rattle.std.proofs.Common.{◌≡◌, ℕ, ◌+◌, ◌-◌, ◌≤◌, List, [], ◌∷◌, ◌++◌, Some, length, map, refl, sym, ap, ◌∙◌, subst}
use Rattle.std.specs.Prelude.{Vec, option_map, slice_get, slice_set}
use Rattle.std.proofs.lemmas.Option.{slice_get-map}
use Rattle.std.specs.declared.alloc.Global.{Global}
use Rattle.gz_core.specs.Names.{Name}
use Rattle.gz_core.specs.declared.calls.Call.{Call}
use Rattle.gz_core.specs.declared.requests.Turn.{Turn}
use Rattle.gz_core.specs.History.{Asked, Action, Trace}
use Rattle.gz_client.specs.Changes.{changed}
use Rattle.gz_client.specs.declared.client.Client.{Client}
use Rattle.gz_client.specs.declared.running.Change.{Change}
use Rattle.gz_client.specs.Traces.{Begins, Extends, IsSameClient}
use Rattle.gz_history.specs.declared.record.CallRec.{CallRec}
use Rattle.gz_world.specs.States.{RequestAt, request_of, numbered, sent_requests, end_at}
use Rattle.gz_world.specs.Weights.{capped, call_bytes, outs_weight}
use Rattle.gz_world.specs.Fits.{Fits}
use Rattle.gz_world.specs.Steps.{answered}
use Rattle.gz_world.specs.Turns.{IsSameWorld, CanBeNotified, MovesIn, effect_of, Started, WentOn, BeganBy, ToldBy}
use Rattle.gz_world.specs.declared.events.Effect.{Effect}
use Rattle.gz_world.specs.declared.requests.Request.{Request}
use Rattle.gz_world.specs.declared.world.Member.{Member}
use Rattle.gz_world.specs.declared.world.World.{World}
use Rattle.gz_round.specs.Starting.{IsWithin}
use Rattle.gz_world.proofs.Members.{place_numbered}
use Rattle.gz_world.proofs.Places.{get_there}

-- the room for a turn was made, and then its request was marked
pub record IsMarked {S : Type 0} (room mid : World S) (n : ℕ) (marked : RequestAt) : Type 0 where
  pub cfg : mid.cfg ≡ room.cfg
  pub sites : mid.sites ≡ room.sites
  pub journal : mid.journal ≡ room.journal
  pub casts : mid.casts ≡ room.casts
  pub clients : mid.clients ≡ room.clients
  pub calls : mid.calls ≡ room.calls
  pub held : mid.held ≡ room.held
  pub net : map request_of mid.net.items ≡ slice_set (map request_of room.net.items) (n - 1) marked

-- a client's turn left the clients as they were, and then room was made
same_then : {S : Type 0} (old room : World S) (clients : Vec Member Global) → clients.items ≡ old.clients.items → IsSameWorld (record old { clients = clients }) room → IsSameWorld old room
same_then old room clients kept same = record {
  rest = record { cfg = same.rest.cfg; sites = same.rest.sites; journal = same.rest.journal; casts = same.rest.casts };
  clients = same.clients ∙ kept;
  calls = same.calls;
  net = same.net;
  held = same.held;
}

told_parts : {S : Type 0} (old room mid new : World S) (n : ℕ) (r marked : RequestAt) (action : Asked → Action) (m : Member) (last : ℕ) (c : CallRec) (client : Client) (turn : Turn) (first tick : ℕ) (effect : Effect)
    → IsSameWorld old room → IsMarked room mid n marked → first ≡ length (map request_of old.net.items) + 1 → tick ≡ length old.journal.items + 1
    → numbered (map request_of old.net.items) n ≡ Some r → slice_get old.clients.items (r.name.session - 1) ≡ Some m → m.last ≡ Some last → slice_get old.calls.items last ≡ Some c
    → Extends m.client client n first action turn → IsSameClient m.client client
    → WentOn mid new r.name.session tick m last c client turn → effect ≡ effect_of first r.name.session turn
    → ToldBy old new n r marked action m last c client turn effect
told_parts old room mid new n r marked action m last c client turn first tick effect same mark first_is tick_is request member last_is record_is extends same_client went effect_is =
    let clients : mid.clients.items ≡ old.clients.items = ap (λ v. v.items) mark.clients ∙ same.clients in
    let calls : mid.calls.items ≡ old.calls.items = ap (λ v. v.items) mark.calls ∙ same.calls in
    let journal : mid.journal ≡ old.journal = mark.journal ∙ same.rest.journal in
    let net : map request_of mid.net.items ≡ slice_set (map request_of old.net.items) (n - 1) marked = mark.net ∙ ap (λ xs. slice_set xs (n - 1) marked) same.net in
    record {
      request = request;
      member = member;
      last_is = last_is;
      record_is = record_is;
      extends = subst (λ k. Extends m.client client n k action turn) first_is extends;
      same = same_client;
      clients = went.clients ∙ ap (λ xs. slice_set xs (r.name.session - 1) (let k : Member = record { client = client; crashed = m.crashed; last = Some last } in k)) clients;
      calls = went.calls ∙ ap (λ xs. slice_set xs last (answered tick turn.answer c)) calls ∙ ap (λ t. slice_set old.calls.items last (answered t turn.answer c)) tick_is;
      net = went.net ∙ ap (λ xs. xs ++ sent_requests c.name (length mid.journal.items + 1) turn.send) net ∙ ap (λ v. slice_set (map request_of old.net.items) (n - 1) marked ++ sent_requests c.name (length v.items + 1) turn.send) journal;
      held = went.held ∙ ap (λ h. capped (h + outs_weight turn.send)) (mark.held ∙ same.held);
      rest = record {
        cfg = went.rest.cfg ∙ mark.cfg ∙ same.rest.cfg;
        sites = went.rest.sites ∙ mark.sites ∙ same.rest.sites;
        journal = went.rest.journal ∙ journal;
        casts = went.rest.casts ∙ mark.casts ∙ same.rest.casts;
      };
      effect_is = effect_is ∙ ap (λ k. effect_of k r.name.session turn) first_is;
    }

-- from what each part of the program does as a client learns of a request: its turn, then the room for what it sends, then the
-- mark on the request, and then the rest
pub told_whole : {S : Type 0} (old room new : World S) (clients : Vec Member Global) (net : Vec Request Global) (n session first tick : ℕ) (request : Request) (mark : ℕ → RequestAt → RequestAt) (action : ℕ → Asked → Action) (change : Change) (turn : Turn) (effect : Effect)
    → 1 ≤ n → slice_get old.net.items (n - 1) ≡ Some request → session ≡ request.name.session → CanBeNotified old n request
    → first ≡ length (map request_of old.net.items) + 1 → tick ≡ length old.journal.items + 1
    → MovesIn old.clients.items session n first action change turn → clients.items ≡ old.clients.items
    → IsSameWorld (record old { clients = clients }) room
    → ((r : RequestAt) → slice_get (map request_of room.net.items) (n - 1) ≡ Some r → map request_of net.items ≡ slice_set (map request_of room.net.items) (n - 1) (mark tick r))
    → ((m : Member) (last : ℕ) (c : CallRec) → slice_get room.clients.items (session - 1) ≡ Some m → m.last ≡ Some last → slice_get room.calls.items last ≡ Some c → WentOn (record room { net = net }) new session tick m last c (changed m.client change) turn)
    → effect ≡ effect_of first session turn
    → (m : Member) × ((last : ℕ) × ((c : CallRec) × ((client : Client) × ((turn : Turn) × ToldBy old new n (request_of request) (mark (length old.journal.items + 1) (request_of request)) (action m.client.config.n) m last c client turn effect))))
told_whole old room new clients net n session first tick request mark action change turn effect positive here own told first_is tick_is moves kept room_made marked went effect_is =
    let r : RequestAt = request_of request in
    let m = moves.0 in
    let client = changed m.client change in
    let there = subst (λ s. slice_get old.clients.items (s - 1) ≡ Some m) own moves.1.0 in
    let call = told.running m there in
    let rec = get_there old.calls.items call.last call.within in
    let same = same_then old room clients kept room_made in
    let at : slice_get (map request_of old.net.items) (n - 1) ≡ Some r = slice_get-map request_of old.net.items (n - 1) ∙ ap (option_map request_of) here in
    let mid : slice_get (map request_of room.net.items) (n - 1) ≡ Some r = subst (λ xs. slice_get xs (n - 1) ≡ Some r) (sym same.net) at in
    let rest = went m call.last rec.0 (subst (λ xs. slice_get xs (session - 1) ≡ Some m) (sym same.clients) moves.1.0) call.is (subst (λ xs. slice_get xs call.last ≡ Some rec.0) (sym same.calls) rec.1) in
    let whole = told_parts old room (record room { net = net }) new n r (mark (length old.journal.items + 1) r) (action m.client.config.n) m call.last rec.0 client turn first tick effect
    same
    (record {
      cfg = refl;
      sites = refl;
      journal = refl;
      casts = refl;
      clients = refl;
      calls = refl;
      held = refl;
      net = subst (λ t. map request_of net.items ≡ slice_set (map request_of room.net.items) (n - 1) (mark t r)) tick_is (marked r mid);
    })
    first_is tick_is (place_numbered (map request_of old.net.items) n r positive at) there call.is rec.1 moves.1.1.extends moves.1.1.same
    (subst (λ s. WentOn (record room { net = net }) new s tick m call.last rec.0 client turn) own rest) (effect_is ∙ ap (λ s. effect_of first s turn) own) in
    (m, (call.last, (rec.0, (client, (turn, whole)))))

-- the same of a call that begins
pub began_parts : {S : Type 0} (old room new : World S) (session : ℕ) (call kept : Call) (m : Member) (client : Client) (turn : Turn) (name : Name) (first tick : ℕ) (effect : Effect)
    → IsSameWorld old room → first ≡ length (map request_of old.net.items) + 1 → tick ≡ length old.journal.items + 1 → 1 ≤ session → IsWithin call → kept ≡ call
    → slice_get old.clients.items (session - 1) ≡ Some m
    → Begins m.client client first call turn → IsSameClient m.client client
    → ((traces : ℕ → List Trace) → Fits traces old → name ≡ record { session = session; seq = length (traces session) + 1 })
    → Started room new session name tick kept m client turn → effect ≡ effect_of first session turn
    → BeganBy old new session call m client turn name effect
began_parts old room new session call kept m client turn name first tick effect same first_is tick_is opened within kept_is member holds same_client name_is started effect_is = record {
  opened = opened;
  within = within;
  member = member;
  holds = subst (λ k. Begins m.client client k call turn) first_is holds;
  same = same_client;
  name_is = name_is;
  clients = started.clients ∙ ap (λ xs. slice_set xs (session - 1) (let k : Member = record { client = client; crashed = m.crashed; last = Some (length room.calls.items) } in k)) same.clients
      ∙ ap (λ xs. slice_set old.clients.items (session - 1) (let k : Member = record { client = client; crashed = m.crashed; last = Some (length xs) } in k)) same.calls;
  calls = started.calls ∙ ap (λ xs. xs ++ (let k : CallRec = record { name = name; call = kept; begin = tick; end = end_at tick turn.answer; answer = turn.answer } in k) ∷ []) same.calls
      ∙ ap (λ t. old.calls.items ++ (let k : CallRec = record { name = name; call = kept; begin = t; end = end_at t turn.answer; answer = turn.answer } in k) ∷ []) tick_is
      ∙ ap (λ q. old.calls.items ++ (let k : CallRec = record { name = name; call = q; begin = length old.journal.items + 1; end = end_at (length old.journal.items + 1) turn.answer; answer = turn.answer } in k) ∷ []) kept_is;
  net = started.net ∙ ap (λ xs. xs ++ sent_requests name (length room.journal.items + 1) turn.send) same.net ∙ ap (λ v. map request_of old.net.items ++ sent_requests name (length v.items + 1) turn.send) same.rest.journal;
  held = started.held ∙ ap (λ h. capped (h + call_bytes kept + outs_weight turn.send)) same.held ∙ ap (λ q. capped (old.held + call_bytes q + outs_weight turn.send)) kept_is;
  rest = record {
    cfg = started.rest.cfg ∙ same.rest.cfg;
    sites = started.rest.sites ∙ same.rest.sites;
    journal = started.rest.journal ∙ same.rest.journal;
    casts = started.rest.casts ∙ same.rest.casts;
  };
  effect_is = effect_is ∙ ap (λ k. effect_of k session turn) first_is;
}
