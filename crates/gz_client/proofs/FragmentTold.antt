-- What a client learns of a request for a fragment that its running call reads.
use Rattle.std.proofs.Common.{◌≡◌, ◌==◌, ℕ, ◌+◌, ◌<◌, Bool, true, false, cond, List, [], ◌∷◌, map, length, get_or, Option, Some, None, is_some, option_map, refl, sym, ap, ◌∙◌, subst, inl, inr, arith}
use Rattle.std.specs.Prelude.{nat_lt, not, position, slice_get}
use Rattle.std.specs.List.{All, Contains, position_or_len}
use Rattle.std.proofs.lemmas.Bool.{cases_lt, cond-true, eqb-true, false≢true, eq-eqb, lt-ltb}
use Rattle.std.proofs.lemmas.List.Elements.{All-contains}
use Rattle.std.proofs.lemmas.List.Quantifiers.{position-Some}
use Rattle.std.proofs.lemmas.List.Sums.{fails_before_first}
use Rattle.std.proofs.lemmas.Option.{get_or_from_slice_get, none-some, slice_get-get_or, slice_get_within}
use Rattle.gz_config.specs.declared.Config.{Config}
use Rattle.gz_core.specs.Awaiting.{awaiting, without, without_rows, AreInTurn}
use Rattle.gz_core.specs.Blobs.{BlobAt}
use Rattle.gz_core.specs.Calls.{key_of}
use Rattle.gz_core.specs.Puts.{PutData}
use Rattle.gz_core.specs.declared.calls.Answer.{Answer}
use Rattle.gz_core.specs.declared.calls.Answer.TheVariants.{Bytes, Incomplete}
use Rattle.gz_core.specs.declared.fates.Fate.{Fate}
use Rattle.gz_core.specs.declared.requests.Op.{Op}
use Rattle.gz_core.specs.declared.requests.Op.TheVariants.{GetBlob}
use Rattle.gz_core.specs.declared.requests.Reply.{Reply}
use Rattle.gz_core.specs.declared.requests.Reply.TheVariants.{Row, NoRow, Written, Changed, Failed, Stored, Blob, NoBlob, Dropped}
use Rattle.gz_core.specs.declared.requests.Turn.{Turn}
use Rattle.gz_core.specs.declared.values.Value.TheVariants.{Put as PutOf}
use Rattle.gz_core.specs.History.{Asked, Action, Handed, Caller, Trace, is_row_request}
use Rattle.gz_core.proofs.Awaited.{awaiting_rises, contains_cases, contains_head, contains_none, contains_tail, filter_contains, one_of_number}
use Rattle.gz_data.specs.Blobs.{BlobNow, Outcome, Answered, Abandoned, AreAskedOnce, is_op_about, blob_now, blob_at, fate_by, wholes}
use Rattle.gz_data.specs.Gathered.{GatheredAt, CameAt, IsGathered, IsLacking, IsWaitedFor, Gathers, IsOver, IsAnswerOf, gathered_after, noted, with_came}
use Rattle.gz_data.specs.Hearing.{HearsOf}
use Rattle.gz_data.specs.Requests.{awaited_blob, index_in, is_numbered, without_number}
use Rattle.gz_data.specs.Whole.{Piece, IsRebuilt}
use Rattle.gz_data.specs.declared.gathering.Heard.{Heard}
use Rattle.gz_data.specs.declared.gathering.Heard.TheVariants.{Goes, Ends}
use Rattle.gz_data.specs.declared.requests.AwaitedBlob.{AwaitedBlob}
use Rattle.gz_data.proofs.Fresh.{awaited_is_new}
use Rattle.gz_data.proofs.Gathers.{gathers_given_up, gathers_noted}
use Rattle.gz_data.proofs.SameBlob.{same_blob-blob_at}
use Rattle.gz_round.specs.Causes.{IsLearnt}
use Rattle.gz_round.specs.Sites.{as_heard, can_stand, is_about_rows, written_by}
use Rattle.gz_round.proofs.Beside.{beside_blob, learnt_beside}
use Rattle.gz_client.specs.Causes.{HasCause, IsOpen}
use Rattle.gz_client.specs.Changes.{CanChange, CanKeepIf, changed, kept_in}
use Rattle.gz_client.specs.Running.{GathersValue, ReadsOf}
use Rattle.gz_client.specs.Traces.{CanLearn, Extends, Holds, IsAwaited, told_of}
use Rattle.gz_client.specs.Turning.{CanHearIf, GoesOrEnds, HearsAt, HearsIf, StandsOrEnds, TurnsBy, KeepsBlobRules, outcome_of}
use Rattle.gz_client.specs.declared.client.Client.{Client}
use Rattle.gz_client.specs.declared.running.Change.{Change}
use Rattle.gz_client.specs.declared.running.Change.TheVariants.{Runs, Keeps}
use Rattle.gz_client.specs.declared.running.Running.{Running}
use Rattle.gz_client.specs.declared.running.Running.TheVariants.{Storing, Asking, Placed, Gathering}
use Rattle.gz_client.proofs.Extending.{extended, told_round, turns_quietly}
use Rattle.gz_client.proofs.Fetching.{none_there}
use Rattle.gz_client.proofs.Holding.{run_held}
use Rattle.gz_client.proofs.Puts.{blobs_without, filter_fewer, filter_swap}
use Rattle.gz_client.proofs.Rules.{can_store}
use Rattle.gz_client.proofs.Standing.{few_whole}
use Rattle.gz_client.proofs.Telling.{blob_awaited, tells_rows, told_blob}

-- ---- the place of a request

module _ {X Y : Type 0} where
  map_contains : (f : X → Y) (xs : List X) (x : X) → Contains xs x → Contains (map f xs) (f x)
  map_contains f [] x h = absurd (contains_none x h)
  map_contains f (y ∷ xs) x h = elim (contains_cases y xs x h) [
    | inl same ↦ subst (λ (z : X). Contains (f y ∷ map f xs) (f z)) same (contains_head (f y) (map f xs))
    | inr later ↦ contains_tail (f y) (map f xs) (f x) (map_contains f xs x later)
  ]

  contains_map : (f : X → Y) (xs : List X) (y : Y) → Contains (map f xs) y → (x : X) × Contains xs x × (f x ≡ y)
  contains_map f [] y h = absurd (contains_none y h)
  contains_map f (x ∷ xs) y h = elim (contains_cases (f x) (map f xs) y h) [
    | inl same ↦ (x, contains_head x xs, same)
    | inr later ↦ (let k = contains_map f xs y later in (k.0, contains_tail x xs k.0 k.1, k.2))
  ]

-- what passes a test has a first one
first_there : {X : Type 0} (p : X → Bool) (xs : List X) (x : X) → Contains xs x → p x ≡ true → (at : ℕ) × (position p xs ≡ Some at) × (at < length xs)
first_there p xs x h e = elim (cases_lt (position_or_len p xs) (length xs)) [
  | inl l ↦ (position_or_len p xs, cond-true (nat_lt (position_or_len p xs) (length xs)) (Some (position_or_len p xs)) None (lt-ltb (position_or_len p xs) (length xs) l), l)
  | inr l ↦ absurd (false≢true (sym (fails_before_first p xs h.0 x (omega (arith, l, h.1))) ∙ (ap p h.2 ∙ e)))
]

-- the request of a number has its place
placed_at : (n : ℕ) (ms : List Action) (awaited : List AwaitedBlob) (a : Asked) → awaited ≡ map awaited_blob (without_rows (awaiting ms)) → Contains (without_rows (awaiting ms)) a → a.number ≡ n
    → (at : ℕ) × (blob : AwaitedBlob) × (position (is_numbered n) awaited ≡ Some at) × (slice_get awaited at ≡ Some blob)
placed_at n ms awaited a is i e =
    let there : Contains awaited (awaited_blob a) = subst (λ (bs : List AwaitedBlob). Contains bs (awaited_blob a)) (sym is) (map_contains awaited_blob (without_rows (awaiting ms)) a i) in
    let first = first_there (is_numbered n) awaited (awaited_blob a) there (eq-eqb a.number n e) in
    (first.0, get_or awaited first.0 (awaited_blob a), first.1, slice_get-get_or awaited first.0 (awaited_blob a) first.2)

-- and it is kept with its index
kept_there : (n at : ℕ) (ms : List Action) (awaited : List AwaitedBlob) (blob : AwaitedBlob) (a : Asked) → AreInTurn ms → awaited ≡ map awaited_blob (without_rows (awaiting ms)) → Contains (without_rows (awaiting ms)) a → a.number ≡ n
    → position (is_numbered n) awaited ≡ Some at → slice_get awaited at ≡ Some blob → awaited_blob a ≡ blob
kept_there n at ms awaited blob a turn is i e first here =
    let found = position-Some (is_numbered n) awaited at blob first in
    let same : get_or awaited at blob ≡ blob = get_or_from_slice_get awaited at blob blob here in
    let numbered : blob.number ≡ n = eqb-true blob.number n (ap (is_numbered n) (sym same) ∙ found.1) in
    let from = contains_map awaited_blob (without_rows (awaiting ms)) blob (subst (λ (bs : List AwaitedBlob). Contains bs blob) is (at, found.0, same)) in
    let p : Asked → Bool = λ (b : Asked). not (is_row_request b.op) in
    let one : from.0 ≡ a = one_of_number 0 (awaiting ms) from.0 a (awaiting_rises ms turn) (filter_contains p (awaiting ms) from.0 from.1) (filter_contains p (awaiting ms) a i)
    (ap (λ (b : AwaitedBlob). b.number) from.2 ∙ (numbered ∙ sym e)) in
    ap awaited_blob (sym one) ∙ from.2

-- ---- what comes of a fragment

heard_if : (g : GatheredAt) (key : List ℕ) (i : ℕ) (reply : Reply) (t : Bool) → noted g key i reply ≡ noted g key i Failed → noted g key i (cond t reply Failed) ≡ noted g key i reply
heard_if g key i reply true e = refl
heard_if g key i reply false e = sym e

-- a reply says the same of a fragment as the call hears it
heard_same : (n : ℕ) (g : GatheredAt) (key : List ℕ) (i : ℕ) (reply : Reply) → noted g key i (as_heard n None reply) ≡ noted g key i reply
heard_same n g key i (Row etag row) = heard_if g key i (Row etag row) (can_stand n row) refl
heard_same n g key i NoRow = refl
heard_same n g key i (Written etag) = refl
heard_same n g key i Changed = refl
heard_same n g key i Stored = refl
heard_same n g key i (Blob bytes) = refl
heard_same n g key i NoBlob = refl
heard_same n g key i Dropped = refl
heard_same n g key i Failed = refl

told_gathers : (n : ℕ) (key : List ℕ) (ms : List Action) (g : GatheredAt) (i : ℕ) (o : Option Reply) (a : Asked) → IsGathered g → i < g.value.k + g.value.m → a.op ≡ GetBlob (blob_at key g.value i)
    → Gathers key ms g → Gathers key (told_of n o a ∷ ms) (gathered_after g key i (outcome_of o))
told_gathers n key ms g i None a rules l op h = gathers_given_up key ms g i a rules.count l op h
told_gathers n key ms g i (Some reply) a rules l op h =
    let heard : Reply = as_heard n (written_by a.op) reply in
    let same : noted g key i heard ≡ noted g key i reply = ap (λ (p : Op). noted g key i (as_heard n (written_by p) reply)) op ∙ heard_same n g key i reply in
    subst (Gathers key (Handed a heard ∷ ms)) same (gathers_noted key ms g i a heard rules.count l op h)

awaiting_told : (n : ℕ) (o : Option Reply) (a : Asked) (ms : List Action) → awaiting (told_of n o a ∷ ms) ≡ without a.number (awaiting ms)
awaiting_told n None a ms = refl
awaiting_told n (Some reply) a ms = refl

-- ---- a request that is awaited

-- it reads a fragment for which the gathering waits
pub record IsReadOf (key : List ℕ) (g : GatheredAt) (a : Asked) (ms : List Action) : Type 0 where
  pub index : ℕ
  pub op_is : a.op ≡ GetBlob (blob_at key g.value index)
  pub waited : IsWaitedFor g index
  pub new : blob_now ms (blob_at key g.value index) ≡ record { asked = true; outcome = None }

pub read_of : (key : List ℕ) (g : GatheredAt) (a : Asked) (ms : List Action) → AreInTurn ms → AreAskedOnce ms → Gathers key ms g → Contains (without_rows (awaiting ms)) a → ReadsOf key g a → IsReadOf key g a ms
read_of key g a ms turn once h i r =
    let b : BlobAt = blob_at key g.value r.0 in
    let now : blob_now ms b ≡ record { asked = true; outcome = None } =
    awaited_is_new ms a b turn once (filter_contains (λ (d : Asked). not (is_row_request d.op)) (awaiting ms) a i) (ap (is_op_about b) r.2 ∙ (same_blob-blob_at key g.value r.0 r.0 ∙ eq-eqb r.0 r.0 refl)) in
    record {
      index = r.0;
      op_is = r.2;
      waited = record { within = r.1; none = h.fates r.0 r.1 ∙ ap (λ (k : BlobNow). Some (option_map (fate_by key g.value r.0) k.outcome)) now };
      new = now;
    }

-- ---- the gathering goes on

still_reads : (key : List ℕ) (g : GatheredAt) (a : Asked) (ms : List Action) → ((b : Asked) → Contains (without_rows (awaiting ms)) b → ReadsOf key g b)
    → (b : Asked) → Contains (without_rows (without a.number (awaiting ms))) b → ReadsOf key g b
still_reads key g a ms reads b i =
    let p : Asked → Bool = λ (d : Asked). not (is_row_request d.op) in
    let q : Asked → Bool = λ (d : Asked). not (d.number == a.number) in
    reads b (filter_contains q (without_rows (awaiting ms)) b (subst (λ (rs : List Asked). Contains rs b) (filter_swap p q (awaiting ms)) i))

pub gathers_more : (c : Config) (w : Caller) (past : List Trace) (key : List ℕ) (g : GatheredAt) (came : CameAt) (awaited : List AwaitedBlob) (o : Option Reply) (a : Asked) (ms : List Action) (r : IsReadOf key g a ms)
    → Contains (without_rows (awaiting ms)) a → GathersValue c w past key g awaited ms → HearsOf g key r.index (outcome_of o) (Goes came)
    → GathersValue c w past key (with_came g came) (without_number a.number awaited) (told_of c.n o a ∷ ms)
gathers_more c w past key g came awaited o a ms r i h heard =
    let m : Action = told_of c.n o a in
    let blob : is_about_rows m ≡ false = told_blob c.n o a (awaiting ms) i in
    let is = awaiting_told c.n o a ms in
    record {
      rows = tells_rows c w past m ms blob h.rows;
      learnt = learnt_beside c w ms (m ∷ ms) g.version (PutOf g.value) (beside_blob m ms blob) h.learnt;
      key_is = h.key_is;
      rules = heard.0.rules;
      gathers = subst (Gathers key (m ∷ ms)) (sym heard.1) (told_gathers c.n key ms g r.index o a h.rules r.waited.within r.op_is h.gathers);
      awaited_is = blobs_without a.number (awaiting ms) awaited h.awaited_is ∙ ap (λ (rs : List Asked). map awaited_blob (without_rows rs)) (sym is);
      few = omega (arith, h.few, filter_fewer (λ (b : AwaitedBlob). not (b.number == a.number)) awaited);
      reads = λ (b : Asked) (j : Contains (without_rows (awaiting (m ∷ ms))) b).
          still_reads key g a ms h.reads b (subst (λ (rs : List Asked). Contains (without_rows rs) b) is j);
      lacks = λ (over : IsOver (with_came g came)). heard.2 (subst IsOver heard.1 over);
    }

-- ---- or it ends

-- none is awaited, where something came of each fragment
over_rests : (key : List ℕ) (g : GatheredAt) (ms : List Action) → AreInTurn ms → AreAskedOnce ms → Gathers key ms g → All (λ (fate : Option Fate). is_some fate ≡ true) g.fates
    → ((b : Asked) → Contains (without_rows (awaiting ms)) b → ReadsOf key g b) → without_rows (awaiting ms) ≡ []
over_rests key g ms turn once h all reads = none_there (without_rows (awaiting ms)) (λ b j.
    let r = read_of key g b ms turn once h j (reads b j) in
    false≢true (All-contains (λ (fate : Option Fate). is_some fate ≡ true) g.fates None all (r.index, slice_get_within g.fates r.index None r.waited.none, get_or_from_slice_get g.fates r.index None None r.waited.none)))

-- what a gathering was over by, where fewer came whole than make the object
over_all : (g : GatheredAt) → IsOver g → length g.pieces < g.value.k → All (λ (fate : Option Fate). is_some fate ≡ true) g.fates
over_all g (inl whole) few = absurd (omega (arith, whole, few))
over_all g (inr all) few = all

pub answer_cause : (c : Config) (w : Caller) (key : List ℕ) (g : GatheredAt) (ms : List Action) (answer : Answer) → IsOpen c w ms → IsLearnt c w ms g.version (PutOf g.value) → key ≡ key_of w.call
    → AreInTurn ms → AreAskedOnce ms → Gathers key ms g → IsOver g → ((b : Asked) → Contains (without_rows (awaiting ms)) b → ReadsOf key g b) → IsAnswerOf key ms g answer → HasCause c w ms answer
answer_cause c w key g ms (Bytes v name bytes) open_still learnt same turn once h over reads p =
    let whole = subst (λ (k : List ℕ). IsRebuilt g.value.k g.value.m g.value.length (wholes k g.value ms) bytes) same p.2 in
    (open_still, (g.value, sym p.1, subst (λ (u : ℕ). IsLearnt c w ms u (PutOf g.value)) (sym p.0) learnt, whole))
answer_cause c w key g ms (Incomplete v name fates) open_still learnt same turn once h over reads p =
    let few = subst (λ (ps : List Piece). length ps < g.value.k) (sym h.pieces) p.2.few in
    let lacking = subst (λ (k : List ℕ). IsLacking k g.value ms fates) same p.2 in
    (open_still, (g.value, sym p.1, subst (λ (u : ℕ). IsLearnt c w ms u (PutOf g.value)) (sym p.0) learnt, (lacking, over_rests key g ms turn once h (over_all g over few) reads)))
answer_cause c w key g ms answer open_still learnt same turn once h over reads p = absurd p

after_version : (g : GatheredAt) (key : List ℕ) (i : ℕ) (outcome : Outcome) → (gathered_after g key i outcome).version ≡ g.version
after_version g key i (Answered reply) = refl
after_version g key i Abandoned = refl

after_value : (g : GatheredAt) (key : List ℕ) (i : ℕ) (outcome : Outcome) → (gathered_after g key i outcome).value ≡ g.value
after_value g key i (Answered reply) = refl
after_value g key i Abandoned = refl

pub gathered_cause : (c : Config) (w : Caller) (past : List Trace) (key : List ℕ) (g : GatheredAt) (answer : Answer) (awaited : List AwaitedBlob) (o : Option Reply) (a : Asked) (ms : List Action) (r : IsReadOf key g a ms)
    → Contains (without_rows (awaiting ms)) a → GathersValue c w past key g awaited ms → KeepsBlobRules c w (told_of c.n o a ∷ ms) → HearsOf g key r.index (outcome_of o) (Ends answer)
    → HasCause c w (told_of c.n o a ∷ ms) answer
gathered_cause c w past key g answer awaited o a ms r i h rules heard =
    let m : Action = told_of c.n o a in
    let blob : is_about_rows m ≡ false = told_blob c.n o a (awaiting ms) i in
    let rows = tells_rows c w past m ms blob h.rows in
    let after : GatheredAt = gathered_after g key r.index (outcome_of o) in
    let version = after_version g key r.index (outcome_of o) in
    let value = after_value g key r.index (outcome_of o) in
    let gathers : Gathers key (m ∷ ms) after = told_gathers c.n key ms g r.index o a h.rules r.waited.within r.op_is h.gathers in
    let learnt : IsLearnt c w (m ∷ ms) g.version (PutOf g.value) = learnt_beside c w ms (m ∷ ms) g.version (PutOf g.value) (beside_blob m ms blob) h.learnt in
    let reads : (b : Asked) → Contains (without_rows (awaiting (m ∷ ms))) b → (j : ℕ) × (j < g.value.k + g.value.m) × (b.op ≡ GetBlob (blob_at key g.value j)) =
    λ b j. still_reads key g a ms h.reads b (subst (λ (rs : List Asked). Contains (without_rows rs) b) (awaiting_told c.n o a ms) j) in
    answer_cause c w key after (m ∷ ms) answer (record { going = rows.going; can = can_store c w (m ∷ ms) rows.asked })
    (subst (λ (u : ℕ). IsLearnt c w (m ∷ ms) u (PutOf after.value)) (sym version) (subst (λ (x : PutData). IsLearnt c w (m ∷ ms) g.version (PutOf x)) (sym value) learnt)) h.key_is rules.in_turn rules.once gathers heard.0
    (λ b j. subst (λ (x : PutData). (k : ℕ) × (k < x.k + x.m) × (b.op ≡ GetBlob (blob_at key x k))) (sym value) (reads b j)) (heard.1 (m ∷ ms) gathers)

-- ---- the client

-- what a client that gathers hears of a request that it awaits
record HearsRead (client : Client) (key : List ℕ) (g : GatheredAt) (awaited : List AwaitedBlob) (n : ℕ) (t : Trace) (ts : List Trace) (a : Asked) : Type 0 where
  stands : GathersValue client.config t.caller ts key g awaited t.actions
  blob : Contains (without_rows (awaiting t.actions)) a
  read : IsReadOf key g a t.actions
  at : ℕ
  kept : AwaitedBlob
  first : position (is_numbered n) awaited ≡ Some at
  there : slice_get awaited at ≡ Some kept
  index_is : kept.index ≡ read.index

hears_read : (client : Client) (key : List ℕ) (g : GatheredAt) (awaited : List AwaitedBlob) (n next : ℕ) (t : Trace) (ts : List Trace) (a : Asked) → client.running ≡ Some (Gathering key g awaited)
    → Holds client next (t ∷ ts) → IsAwaited client.config t a n → HearsRead client key g awaited n t ts a
hears_read client key g awaited n next t ts a e h waits =
    let k = run_held client next t ts (Gathering key g awaited) e h in
    let told = h.told in
    let i : Contains (without_rows (awaiting t.actions)) a = blob_awaited client.config t.actions a k.stands.rows.rests waits.awaits in
    let r = read_of key g a t.actions told.0.in_turn told.0.once k.stands.gathers i (k.stands.reads a i) in
    let p = placed_at n t.actions awaited a k.stands.awaited_is i waits.number_is in
    let kept = kept_there n p.0 t.actions awaited p.1 a told.0.in_turn k.stands.awaited_is i waits.number_is p.2 p.3 in
    record { stands = k.stands; blob = i; read = r; at = p.0; kept = p.1; first = p.2; there = p.3; index_is = sym (ap (λ (b : AwaitedBlob). b.index) kept) ∙ ap index_in r.op_is }

-- it may hear of it
can_hear_if : (client : Client) (n first : ℕ) (running : Option Running) → client.running ≡ running → CanLearn client n first → CanHearIf running n
can_hear_if client n first None e k = tt
can_hear_if client n first (Some (Storing run puts)) e k = tt
can_hear_if client n first (Some (Asking run puts)) e k = tt
can_hear_if client n first (Some (Placed version puts)) e k = tt
can_hear_if client n first (Some (Gathering key g awaited)) e k =
    let r = hears_read client key g awaited n k.0 k.1 k.2 k.3 e k.4 k.5 in
    (r.at, r.kept, r.first, r.there, subst (IsWaitedFor g) (sym r.index_is) r.read.waited, few_whole g r.stands.rules r.stands.lacks)

pub can_hear : (client : Client) (n first : ℕ) → CanLearn client n first → CanHearIf client.running n
can_hear client n first k = can_hear_if client n first client.running refl k

hears_of : (client : Client) (key : List ℕ) (g : GatheredAt) (awaited : List AwaitedBlob) (n : ℕ) (outcome : Outcome) (heard : Heard) (t : Trace) (ts : List Trace) (a : Asked)
    (r : HearsRead client key g awaited n t ts a) → HearsAt key g awaited n outcome (Some heard) → HearsOf g key r.read.index outcome heard
hears_of client key g awaited n outcome heard t ts a r hears = subst (λ (i : ℕ). HearsOf g key i outcome heard) r.index_is (hears r.at r.kept r.first r.there)

-- a client that gathers goes on, or its call ends
gathering_told : (client : Client) (key : List ℕ) (g : GatheredAt) (awaited : List AwaitedBlob) (n next first : ℕ) (o : Option Reply) (heard : Heard) (change : Change) (turn : Turn) (t : Trace) (ts : List Trace) (a : Asked)
    → client.running ≡ Some (Gathering key g awaited) → HearsAt key g awaited n (outcome_of o) (Some heard) → GoesOrEnds client n heard change turn → Holds client next (t ∷ ts) → IsAwaited client.config t a n
    → TurnsBy client (changed client change) first turn t.caller ts (told_of client.config.n o a ∷ t.actions)
gathering_told client key g awaited n next first o (Goes came) change turn t ts a e hears goes h waits =
    let c : Config = client.config in
    let ms : List Action = told_of c.n o a ∷ t.actions in
    let r = hears_read client key g awaited n next t ts a e h waits in
    let more : GathersValue c t.caller ts key (with_came g came) (without_number n awaited) ms =
    subst (λ (m : ℕ). GathersValue c t.caller ts key (with_came g came) (without_number m awaited) ms) waits.number_is
    (gathers_more c t.caller ts key g came awaited o a t.actions r.read r.blob r.stands (hears_of client key g awaited n (outcome_of o) (Goes came) t ts a r hears)) in
    subst (λ (u : Turn). TurnsBy client (changed client change) first u t.caller ts ms) (sym goes.1)
    (subst (λ (k : Change). TurnsBy client (changed client k) first (record { send = []; answer = None }) t.caller ts ms) (sym goes.0)
    (turns_quietly client (changed client (Keeps n came)) first None t.caller ts ms refl refl refl (told_round client next c.n o a t ts h)
    (subst (λ (x : Option Running). StandsOrEnds c t.caller ts (option_map (kept_in n came) x) ms None) (sym e) more) (λ row. absurd (false≢true (sym (told_blob c.n o a (awaiting t.actions) r.blob) ∙ row)))))
gathering_told client key g awaited n next first o (Ends answer) change turn t ts a e hears goes h waits =
    let c : Config = client.config in
    let ms : List Action = told_of c.n o a ∷ t.actions in
    let r = hears_read client key g awaited n next t ts a e h waits in
    let rows = tells_rows c t.caller ts (told_of c.n o a) t.actions (told_blob c.n o a (awaiting t.actions) r.blob) r.stands.rows in
    subst (λ (u : Turn). TurnsBy client (changed client change) first u t.caller ts ms) (sym goes.1)
    (subst (λ (k : Change). TurnsBy client (changed client k) first (record { send = []; answer = Some answer }) t.caller ts ms) (sym goes.0)
    (λ rules below. turns_quietly client (changed client (Runs client.calls client.round None)) first (Some answer) t.caller ts ms refl refl refl (told_round client next c.n o a t ts h)
    (rows.allowed, gathered_cause c t.caller ts key g answer awaited o a t.actions r.read r.blob r.stands rules (hears_of client key g awaited n (outcome_of o) (Ends answer) t ts a r hears)) (λ row. absurd (false≢true (sym (told_blob c.n o a (awaiting t.actions) r.blob) ∙ row))) rules below))

hears_told : (client : Client) (n first : ℕ) (o : Option Reply) (heard : Heard) (change : Change) (turn : Turn) (running : Option Running) → client.running ≡ running → HearsIf running n (outcome_of o) (Some heard)
    → GoesOrEnds client n heard change turn → Extends client (changed client change) n first (told_of client.config.n o) turn
hears_told client n first o heard change turn None e hears goes = absurd (none-some heard (sym hears))
hears_told client n first o heard change turn (Some (Storing run puts)) e hears goes = absurd (none-some heard (sym hears))
hears_told client n first o heard change turn (Some (Asking run puts)) e hears goes = absurd (none-some heard (sym hears))
hears_told client n first o heard change turn (Some (Placed version puts)) e hears goes = absurd (none-some heard (sym hears))
hears_told client n first o heard change turn (Some (Gathering key g awaited)) e hears goes =
    extended client (changed client change) n first o turn (λ next t ts a h waits l. gathering_told client key g awaited n next first o heard change turn t ts a e hears goes h waits)

pub heard_told : (client : Client) (n first : ℕ) (o : Option Reply) (heard : Heard) (change : Change) (turn : Turn) → HearsIf client.running n (outcome_of o) (Some heard)
    → GoesOrEnds client n heard change turn → Extends client (changed client change) n first (told_of client.config.n o) turn
heard_told client n first o heard change turn hears goes = hears_told client n first o heard change turn client.running refl hears goes

-- and what came may be kept
can_keep : (client : Client) (n first : ℕ) (outcome : Outcome) (came : CameAt) (running : Option Running) → client.running ≡ running → CanLearn client n first → HearsIf running n outcome (Some (Goes came)) → CanKeepIf running came
can_keep client n first outcome came None e k hears = tt
can_keep client n first outcome came (Some (Storing run puts)) e k hears = tt
can_keep client n first outcome came (Some (Asking run puts)) e k hears = tt
can_keep client n first outcome came (Some (Placed version puts)) e k hears = tt
can_keep client n first outcome came (Some (Gathering key g awaited)) e k hears =
    let r = hears_read client key g awaited n k.0 k.1 k.2 k.3 e k.4 k.5 in
    (hears_of client key g awaited n outcome (Goes came) k.1 k.2 k.3 r hears).0

pub heard_can : (client : Client) (n first : ℕ) (outcome : Outcome) (heard : Heard) (change : Change) (turn : Turn) → CanLearn client n first → HearsIf client.running n outcome (Some heard)
    → GoesOrEnds client n heard change turn → CanChange client change
heard_can client n first outcome (Goes came) change turn k hears goes = subst (CanChange client) (sym goes.0) (can_keep client n first outcome came client.running refl k hears)
heard_can client n first outcome (Ends answer) change turn k hears goes = subst (CanChange client) (sym goes.0) tt
