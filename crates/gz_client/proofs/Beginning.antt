-- A client whose call has begun stands for one more trace.
use Rattle.std.proofs.Common.{◌≡◌, ℕ, suc, ◌+◌, ◌<◌, ◌≤◌, ◌^◌, Bool, true, false, cond, List, [], ◌∷◌, ◌++◌, map, length, Option, Some, None, Result, IfOk, refl, sym, ap, ◌∙◌, subst, inl, arith}
use Rattle.std.specs.Prelude.{not, slice_get, ◌||◌}
use Rattle.std.proofs.lemmas.Bool.{false≢true, cond-false}
use Rattle.std.proofs.lemmas.Option.{same_Some, none-some, slice_get_within, get_or_from_slice_get}
use Rattle.std.proofs.lemmas.Result.{IfOk-weaker}
use Rattle.std.proofs.lemmas.List.{append-nil, append_assoc, map-append}
use Rattle.std.proofs.lemmas.List.Elements.{All-nil, filter-append}
use Rattle.gz_config.specs.declared.Config.{Config}
use Rattle.gz_config.specs.declared.Order.{Order}
use Rattle.gz_config.specs.declared.Order.TheVariants.{Parallel, BlobsFirst}
use Rattle.gz_core.specs.Awaiting.{awaiting, without_rows}
use Rattle.gz_core.specs.Blobs.{BlobAt}
use Rattle.gz_core.specs.Calls.{key_of}
use Rattle.gz_core.specs.Configurations.{IsConfig}
use Rattle.gz_core.specs.Names.{Name}
use Rattle.gz_core.specs.Puts.{PutData}
use Rattle.gz_core.specs.Rows.{empty_row}
use Rattle.gz_core.specs.Values.{name_of}
use Rattle.gz_core.specs.declared.calls.Call.{Call}
use Rattle.gz_core.specs.declared.calls.Call.TheVariants.{Put, Get, GetAt}
use Rattle.gz_core.specs.declared.requests.Op.{Op}
use Rattle.gz_core.specs.declared.requests.Op.TheVariants.{WriteRow, PutBlob}
use Rattle.gz_core.specs.declared.requests.Out.{Out}
use Rattle.gz_core.specs.declared.requests.RowStep.TheVariants.{Promise}
use Rattle.gz_core.specs.declared.requests.Turn.{Turn}
use Rattle.gz_core.specs.declared.values.Value.{Value}
use Rattle.gz_core.specs.declared.values.Value.TheVariants.{Put as PutOf}
use Rattle.gz_core.specs.History.{Asked, Action, Sent, Caller, Trace, is_row_request, asked_of, sent_from, begun}
use Rattle.gz_data.specs.Blobs.{BlobNow, is_put_blob, puts_sent, stored, lost}
use Rattle.gz_data.specs.Own.{IsOwn, IsMade, IsRecordOf}
use Rattle.gz_data.specs.Requests.{awaited_blob, awaited_from, blobs_awaited, put_out, puts_from, AreAdded}
use Rattle.gz_data.proofs.Adding.{puts_length}
use Rattle.gz_data.specs.declared.requests.AwaitedBlob.{AwaitedBlob}
use Rattle.gz_round.specs.declared.outcome.Outcome.TheVariants.{Goes}
use Rattle.gz_round.specs.declared.run.Run.{Run}
use Rattle.gz_round.specs.declared.run.Stage.TheVariants.{Look}
use Rattle.gz_round.specs.Counting.{outs as outs_in, IsGoing}
use Rattle.gz_round.specs.Following.{Ready}
use Rattle.gz_round.specs.Rounds.{top_rounds, rounds_used}
use Rattle.gz_round.specs.Standing.{IsNamed, Runs as RunsOn}
use Rattle.gz_round.specs.Starting.{reads_from}
use Rattle.gz_round.specs.Targets.{target_of}
use Rattle.gz_round.specs.declared.run.Target.{Target}
use Rattle.gz_round.specs.declared.run.Target.TheVariants.{Latest, At}
use Rattle.gz_round.proofs.Beside.{AreBlobOuts, IsBeside, beside_sent, blobs_sent, runs_sent, ready_sent, rounds_beside, going_beside}
use Rattle.gz_round.proofs.Bounds.{turned_below}
use Rattle.gz_round.proofs.Turns.{over_sent}
use Rattle.gz_round.proofs.Phases.{phases_sent}
use Rattle.gz_client.specs.Blobs.{is_put}
use Rattle.gz_client.specs.Changes.{changed}
use Rattle.gz_client.specs.Openings.{IsOpening, OpensBy, OpensPut, AreStored}
use Rattle.gz_client.specs.Running.{AreAbout, PutsStand, StandsFor, ReadsFirst, is_row_or_put}
use Rattle.gz_client.specs.Traces.{Holds, AreBelow, IsBegun, Begins, BeginsAs}
use Rattle.gz_client.specs.Turning.{KeepsBlobRules}
use Rattle.gz_client.specs.declared.client.Client.{Client}
use Rattle.gz_client.specs.declared.running.Change.{Change}
use Rattle.gz_client.specs.declared.running.Change.TheVariants.{Runs}
use Rattle.gz_client.specs.declared.running.Puts.{Puts}
use Rattle.gz_client.specs.declared.running.Running.{Running}
use Rattle.gz_client.specs.declared.running.Running.TheVariants.{Storing, Asking}
use Rattle.gz_client.proofs.Fetching.{below_after, sent_both, rows_unasked, rows_unblobbed}
use Rattle.gz_client.proofs.Fragments.{AreRecordsFrom, keeps_puts}
use Rattle.gz_client.proofs.Holding.{idle_over}
use Rattle.gz_client.proofs.Live.{none_counted}
use Rattle.gz_client.proofs.Puts.{puts_rows_sent, row_not_put}
use Rattle.gz_client.proofs.Rules.{AreRows, keeps_rows}
use Rattle.gz_client.proofs.Sends.{reads_length}
use Rattle.gz_client.proofs.Sent.{about_wider}
use Rattle.gz_client.proofs.Standing.{turned_holds}
use Rattle.gz_client.proofs.StoringFirst.{reads_are_rows}

is_parallel : Order → Bool
is_parallel Parallel = true
is_parallel BlobsFirst = false

-- ---- a session may have used any round

pub trace_of : Caller → ℕ → Trace
trace_of w round = record {
  caller = w;
  actions = Sent (record { number = 0; site = 0; op = WriteRow [] None (Promise 0 (record { round = round; session = 0 })) empty_row; awaited = false }) ∷ [];
  answer = None;
}

pub trace_round : (w : Caller) (round : ℕ) → top_rounds (trace_of w round ∷ []) ≡ round
unfolding trace_of
trace_round w round = omega arith

-- ---- a call that has begun

-- the next call of a session after these
abbrev pub next_caller : Client → Call → Option Value → List Trace → Caller
next_caller client call own ts = record { name = record { session = client.session; seq = length ts + 1 }; call = call; own = own }

pub next_name : (client : Client) (next : ℕ) (name : Name) (ts : List Trace) → name ≡ record { session = client.session; seq = client.calls + 1 } → Holds client next ts → name ≡ record { session = client.session; seq = length ts + 1 }
next_name client next name ts e h = e ∙ ap (λ n. let k : Name = record { session = client.session; seq = n + 1 } in k) h.calls_are

-- what it keeps once it sent its first requests
pub record HasBegun (c : Config) (w : Caller) (past : List Trace) (running : Running) (round first : ℕ) (outs : List Out) : Type 0 where
  pub stands : StandsFor c w past running (sent_from first outs [])
  pub rules : KeepsBlobRules c w (sent_from first outs [])
  pub round_is : round ≡ rounds_used past (sent_from first outs [])
  pub low : round < 2 ^ 31 + (first + length outs)

begun_holds : (client : Client) (call : Call) (own : Option Value) (first : ℕ) (outs : List Out) (next : ℕ) (ts : List Trace) (running : Running) (round : ℕ) → Holds client next ts → client.running ≡ None
    → IsOwn client.config (record { session = client.session; seq = length ts + 1 }) call own → HasBegun client.config (next_caller client call own ts) ts running round first outs
    → Holds (changed client (Runs (client.calls + 1) round (Some running))) (first + length outs) (begun client.session call own first (record { send = outs; answer = None }) ts ∷ ts)
begun_holds client call own first outs next ts running round h idle is_own b =
    let w : Caller = next_caller client call own ts in
    let ms : List Action = sent_from first outs [] in
    turned_holds client.config client.session w ts (Some running) ms None (client.calls + 1) round (first + length outs) (record {
      sizes = h.sizes;
      count = ap (λ n. n + 1) h.calls_are;
      named = refl;
      own = is_own;
      told = h.told;
      over = idle_over client.config next client.running ts idle h.run_is;
      rules = b.rules;
      below = below_after first outs [] (All-nil (λ (a : Asked). a.number < first));
      round_is = b.round_is;
      low = b.low;
    }) b.stands

-- so it begins by these requests
pub begins : (client : Client) (call : Call) (own : Option Value) (first : ℕ) (outs : List Out) (next : ℕ) (ts : List Trace) (running : Running) (round : ℕ) (change : Change) (turn : Turn)
    → change ≡ Runs (client.calls + 1) round (Some running) → turn ≡ record { send = outs; answer = None } → Holds client next ts → client.running ≡ None
    → IsOwn client.config (record { session = client.session; seq = length ts + 1 }) call own → HasBegun client.config (next_caller client call own ts) ts running round first outs
    → IsOpening client.config (next_caller client call own ts) outs → IsBegun client (changed client change) first call own turn ts
begins client call own first outs next ts running round change turn changes turns h idle is_own b opening =
    subst (λ (k : Change). IsBegun client (changed client k) first call own turn ts) (sym changes)
    (subst (λ (t : Turn). IsBegun client (changed client (Runs (client.calls + 1) round (Some running))) first call own t ts) (sym turns)
    (begun_holds client call own first outs next ts running round h idle is_own b, opening))

pub nothing_asked : (c : Config) (w : Caller) → KeepsBlobRules c w []
nothing_asked c w = record { blobs = tt; once = tt; in_turn = tt; first = tt }

-- ---- with its reads alone

runs_low : (c : Config) (w : Caller) (past : List Trace) (run : Run) (first : ℕ) (outs : List Out) → top_rounds past < 2 ^ 31 + first → RunsOn c w past run (sent_from first outs []) → run.round < 2 ^ 31 + (first + length outs)
runs_low c w past run first outs used runs = omega (arith, runs.stands.round_is, turned_below c w past run [] first outs [] Goes (inl refl) (omega arith) runs)

pub rows_begun : (c : Config) (w : Caller) (past : List Trace) (run : Run) (puts : Puts) (first : ℕ) (outs : List Out) → top_rounds past < 2 ^ 31 + first → is_put w.call ≡ false
    → puts.awaited ≡ [] → puts.counts ≡ record { stored = 0; lost = 0 } → outs ≡ reads_from (key_of w.call) 0 c.n → RunsOn c w past run (sent_from first outs [])
    → HasBegun c w past (Asking run puts) run.round first outs
rows_begun c w past run puts first outs used no_put none unset reads runs =
    let rows : AreRows outs = subst AreRows (sym reads) (reads_are_rows (key_of w.call) 0 c.n) in
    let below : AreBelow first [] = All-nil (λ (a : Asked). a.number < first) in
    let start : PutsStand c w puts [] = record {
      awaited_is = none;
      few = omega (arith, ap (λ (bs : List AwaitedBlob). length bs) none);
      counts = record { stored = ap (λ counts. counts.stored) unset; lost = ap (λ counts. counts.lost) unset };
      about = tt;
      all = λ put. absurd (false≢true (sym no_put ∙ put));
      none = λ reads. tt;
    } in
    record {
      stands = record {
        runs = runs;
        phases = phases_sent c w past run.stage first outs [] tt;
        fragments = puts_rows_sent c w puts first outs [] rows start;
        first = λ put. absurd (false≢true (sym no_put ∙ put));
      };
      rules = keeps_rows c w first outs [] rows (λ put. absurd (false≢true (sym no_put ∙ put))) below (nothing_asked c w);
      round_is = runs.stands.round_is;
      low = runs_low c w past run first outs used runs;
    }

-- a call that stores no fragments opens by its reads
pub rows_open : (c : Config) (w : Caller) (outs : List Out) → is_put w.call ≡ false → outs ≡ reads_from (key_of w.call) 0 c.n → IsOpening c w outs
rows_open c w outs no_put reads = by w.call no_put reads
  where
    by : (call : Call) → is_put call ≡ false → outs ≡ reads_from (key_of w.call) 0 c.n → OpensBy c w outs call
    by (Put key bytes) e reads = absurd (false≢true (sym e))
    by call e reads = reads

-- ---- with the requests that store a put's fragments

not_parallel : (c : Config) → c.order ≡ Parallel → c.order ≡ BlobsFirst → ⊥
unfolding is_parallel
not_parallel c e f = false≢true (sym (ap is_parallel f) ∙ ap is_parallel e)

-- what was asked so far is no more than rows
pub record AsksRows (ms : List Action) : Type 0 where
  pub about : AreAbout is_row_request ms
  pub sent : puts_sent ms ≡ 0
  pub stored : stored ms ≡ 0
  pub lost : lost ms ≡ 0

pub asks_nothing : AsksRows []
asks_nothing = record { about = tt; sent = refl; stored = refl; lost = refl }

pub asks_rows : (first : ℕ) (outs : List Out) (ms : List Action) → AreRows outs → AsksRows ms → AsksRows (sent_from first outs ms)
asks_rows first [] ms rows h = h
asks_rows first (out ∷ outs) ms rows h = asks_rows (first + 1) outs (Sent (asked_of first out) ∷ ms) rows.1 (record {
  about = (rows.0, h.about);
  sent = cond-false (is_put_blob out.op) (puts_sent ms + 1) (puts_sent ms) (row_not_put out.op rows.0) ∙ h.sent;
  stored = h.stored;
  lost = h.lost;
})

pub puts_blobs : (name : Name) (key : List ℕ) (i : ℕ) (records : List (List ℕ)) → AreBlobOuts (puts_from name key i records)
puts_blobs name key i [] = tt
puts_blobs name key i (bytes ∷ records) = (refl, puts_blobs name key (i + 1) records)

-- a test that they all pass
puts_about : (p : Op → Bool) → ((b : BlobAt) (bytes : List ℕ) → p (PutBlob b bytes) ≡ true) → (name : Name) (key : List ℕ) (n i : ℕ) (records : List (List ℕ)) (ms : List Action) → AreAbout p ms
    → AreAbout p (sent_from n (puts_from name key i records) ms)
puts_about p passes name key n i [] ms h = h
puts_about p passes name key n i (bytes ∷ records) ms h =
    puts_about p passes name key (n + 1) (i + 1) records (Sent (asked_of n (put_out name key i bytes)) ∷ ms) (passes (record { key = key; name = name; index = i }) bytes, h)

puts_counted : (name : Name) (key : List ℕ) (n i : ℕ) (records : List (List ℕ)) (ms : List Action) → puts_sent (sent_from n (puts_from name key i records) ms) ≡ puts_sent ms + length records
puts_counted name key n i [] ms = omega arith
puts_counted name key n i (bytes ∷ records) ms = omega (arith, puts_counted name key (n + 1) (i + 1) records (Sent (asked_of n (put_out name key i bytes)) ∷ ms))

-- a request for a blob is the last of those that are awaited
blob_awaited : (rs : List Asked) (a : Asked) → is_row_request a.op ≡ false → map awaited_blob (without_rows (rs ++ a ∷ [])) ≡ map awaited_blob (without_rows rs) ++ awaited_blob a ∷ []
blob_awaited rs a e =
    let p : Asked → Bool = λ (b : Asked). not (is_row_request b.op) in
    ap (map awaited_blob) (filter-append p rs (a ∷ []) ∙ ap (λ (t : Bool). without_rows rs ++ cond (not t) (a ∷ []) []) e) ∙ map-append awaited_blob (without_rows rs) (a ∷ [])

puts_awaited : (name : Name) (key : List ℕ) (n i : ℕ) (records : List (List ℕ)) (ms : List Action)
    → blobs_awaited (sent_from n (puts_from name key i records) ms) ≡ blobs_awaited ms ++ awaited_from n i (length records)
puts_awaited name key n i [] ms = sym (append-nil (blobs_awaited ms))
puts_awaited name key n i (bytes ∷ records) ms =
    let a : Asked = asked_of n (put_out name key i bytes) in
    let rest : List AwaitedBlob = awaited_from (n + 1) (i + 1) (length records) in
    puts_awaited name key (n + 1) (i + 1) records (Sent a ∷ ms)
    ∙ (ap (λ (bs : List AwaitedBlob). bs ++ rest) (blob_awaited (awaiting ms) a refl) ∙ append_assoc (blobs_awaited ms) (awaited_blob a ∷ []) rest)

row_passes : (op : Op) → is_row_request op ≡ true → is_row_or_put op ≡ true
row_passes op e = ap (λ (t : Bool). t || is_put_blob op) e

-- the fragments of a put that it just sent
pub puts_stand : (c : Config) (w : Caller) (x : PutData) (n : ℕ) (records : List (List ℕ)) (awaited : List AwaitedBlob) (ms : List Action) → IsConfig c → AsksRows ms → w.own ≡ Some (PutOf x) → length records ≡ c.k + c.m
    → awaited ≡ awaited_from n 0 (length records) → length awaited ≡ length records
    → PutsStand c w (record { awaited = awaited; counts = record { stored = 0; lost = 0 } }) (sent_from n (puts_from w.name (key_of w.call) 0 records) ms)
puts_stand c w x n records awaited ms sizes asks own count is long =
    let key : List ℕ = key_of w.call in
    let outs : List Out = puts_from w.name key 0 records in
    record {
      awaited_is = is ∙ sym (puts_awaited w.name key n 0 records ms ∙ ap (λ (rs : List Asked). map awaited_blob rs ++ awaited_from n 0 (length records)) (rows_unblobbed ms asks.about));
      few = omega (arith, long, count, sizes.pieces, sizes.sites);
      counts = record {
        stored = sym (over_sent (λ (os : List Action). stored os ≡ 0) (λ (a : Asked) (os : List Action) (e : stored os ≡ 0). e) n outs ms asks.stored);
        lost = sym (over_sent (λ (os : List Action). lost os ≡ 0) (λ (a : Asked) (os : List Action) (e : lost os ≡ 0). e) n outs ms asks.lost);
      };
      about = puts_about is_row_or_put (λ b bytes. refl) w.name key n 0 records ms (about_wider is_row_request is_row_or_put row_passes ms asks.about);
      all = λ put. omega (arith, puts_counted w.name key n 0 records ms, asks.sent, count);
      none = λ reads. absurd (none-some (PutOf x) (sym reads ∙ own));
    }

-- a put made these records
pub record HasMade (c : Config) (w : Caller) (x : PutData) (records : List (List ℕ)) : Type 0 where
  pub own : w.own ≡ Some (PutOf x)
  pub count : length records ≡ c.k + c.m
  pub each : (i : ℕ) (bytes : List ℕ) → slice_get records i ≡ Some bytes → IsRecordOf c w.name w.call i bytes

pub made_for : (c : Config) (name : Name) (key object : List ℕ) (x : PutData) (records : List (List ℕ)) → IsMade c name key object x records
    → HasMade c (record { name = name; call = Put key object; own = Some (PutOf x) }) x records
made_for c name key object x records made = record {
  own = refl;
  count = made.count;
  each = λ (i : ℕ) (bytes : List ℕ) (e : slice_get records i ≡ Some bytes).
      subst (IsRecordOf c name (Put key object) i) (get_or_from_slice_get records i bytes [] e) (made.each i (omega (arith, slice_get_within records i bytes e, made.count)));
}

records_from : (c : Config) (w : Caller) (i : ℕ) (records : List (List ℕ)) → ((j : ℕ) (bytes : List ℕ) → slice_get records j ≡ Some bytes → IsRecordOf c w.name w.call (i + j) bytes) → AreRecordsFrom c w i records
records_from c w i [] h = tt
records_from c w i (bytes ∷ records) h = (
  subst (λ n. IsRecordOf c w.name w.call n bytes) (omega arith) (h 0 bytes refl),
  records_from c w (i + 1) records (λ (j : ℕ) (b : List ℕ) (e : slice_get records j ≡ Some b). subst (λ n. IsRecordOf c w.name w.call n b) (omega arith) (h (suc j) b e)),
)

puts_rules : (c : Config) (w : Caller) (x : PutData) (n : ℕ) (records : List (List ℕ)) (ms : List Action) → HasMade c w x records → AsksRows ms → AreBelow n ms → KeepsBlobRules c w ms
    → KeepsBlobRules c w (sent_from n (puts_from w.name (key_of w.call) 0 records) ms)
puts_rules c w x n records ms made asks below rules =
    keeps_puts c w n 0 records ms (records_from c w 0 records (λ (j : ℕ) (bytes : List ℕ) (e : slice_get records j ≡ Some bytes). subst (λ k. IsRecordOf c w.name w.call k bytes) (omega arith) (made.each j bytes e)))
    (λ (b : BlobAt) asked. absurd (false≢true (sym (ap (λ (now : BlobNow). now.asked) (rows_unasked ms b asks.about)) ∙ asked))) below rules

pub stores_records : (c : Config) (w : Caller) (x : PutData) (records : List (List ℕ)) → HasMade c w x records → AreStored c w (puts_from w.name (key_of w.call) 0 records)
stores_records c w x records made = record { records = records; count = made.count; each = made.each; outs_are = refl }

-- a put that sends its reads beside them
pub beside_begun : (c : Config) (w : Caller) (past : List Trace) (run : Run) (x : PutData) (records : List (List ℕ)) (awaited : List AwaitedBlob) (first : ℕ) (reads : List Out) → IsConfig c → c.order ≡ Parallel
    → top_rounds past < 2 ^ 31 + first → HasMade c w x records → reads ≡ reads_from (key_of w.call) 0 c.n → RunsOn c w past run (sent_from first reads [])
    → awaited ≡ awaited_from (first + length reads) 0 (length records) → length awaited ≡ length records
    → HasBegun c w past (Asking run (record { awaited = awaited; counts = record { stored = 0; lost = 0 } })) run.round first (reads ++ puts_from w.name (key_of w.call) 0 records)
beside_begun c w past run x records awaited first reads sizes order used made are runs is long =
    let n : ℕ = first + length reads in
    let key : List ℕ = key_of w.call in
    let outs : List Out = puts_from w.name key 0 records in
    let puts : Puts = record { awaited = awaited; counts = record { stored = 0; lost = 0 } } in
    let ms : List Action = sent_from first reads [] in
    let rows : AreRows reads = subst AreRows (sym are) (reads_are_rows key 0 c.n) in
    let asks : AsksRows ms = asks_rows first reads [] rows asks_nothing in
    let below : AreBelow first [] = All-nil (λ (a : Asked). a.number < first) in
    let both : sent_from first (reads ++ outs) [] ≡ sent_from n outs ms = sent_both first reads outs [] in
    let later : RunsOn c w past run (sent_from n outs ms) = runs_sent c w past run n outs ms (puts_blobs w.name key 0 records) runs in
    let all : RunsOn c w past run (sent_from first (reads ++ outs) []) = subst (RunsOn c w past run) (sym both) later in
    record {
      stands = record {
        runs = all;
        phases = phases_sent c w past run.stage first (reads ++ outs) [] tt;
        fragments = subst (PutsStand c w puts) (sym both) (puts_stand c w x n records awaited ms sizes asks made.own made.count is long);
        first = λ put blobs_first. absurd (not_parallel c order blobs_first);
      };
      rules = subst (KeepsBlobRules c w) (sym both) (puts_rules c w x n records ms made asks (below_after first reads [] below) (keeps_rows c w first reads [] rows (λ put blobs_first. absurd (not_parallel c order blobs_first)) below (nothing_asked c w)));
      round_is = all.stands.round_is;
      low = runs_low c w past run first (reads ++ outs) used all;
    }

going_first : (c : Config) → IsConfig c → IsGoing c []
going_first c sizes =
    let none : outs_in c [] ≡ 0 = none_counted c.n in
    record { few = omega (arith, sizes.again); enough = omega (arith, none, sizes.quorums.classic, sizes.quorums.fast) }

-- a put that stores its fragments first
pub first_begun : (c : Config) (w : Caller) (past : List Trace) (run : Run) (x : PutData) (records : List (List ℕ)) (awaited : List AwaitedBlob) (first : ℕ) → IsConfig c → c.order ≡ BlobsFirst → is_put w.call ≡ true
    → top_rounds past < 2 ^ 31 + first → HasMade c w x records → Ready c w past run [] → run.stage ≡ Look
    → awaited ≡ awaited_from first 0 (length records) → length awaited ≡ length records
    → HasBegun c w past (Storing run (record { awaited = awaited; counts = record { stored = 0; lost = 0 } })) run.round first (puts_from w.name (key_of w.call) 0 records)
first_begun c w past run x records awaited first sizes order put used made ready look is long =
    let key : List ℕ = key_of w.call in
    let outs : List Out = puts_from w.name key 0 records in
    let ms : List Action = sent_from first outs [] in
    let blobs : AreBlobOuts outs = puts_blobs w.name key 0 records in
    let beside : IsBeside [] ms = beside_sent first outs [] blobs in
    let now : Ready c w past run ms = ready_sent c w past run first outs [] blobs ready in
    let fragments = puts_stand c w x first records awaited [] sizes asks_nothing made.own made.count is long in
    let below : AreBelow first [] = All-nil (λ (a : Asked). a.number < first) in
    record {
      stands = record {
        ready = now;
        look = look;
        going = going_beside c [] ms beside (going_first c sizes);
        put = put;
        order = order;
        only = blobs_sent first outs [] blobs tt;
        fragments = fragments;
        unsettled = record { few = omega (arith, fragments.counts.stored, sizes.split); lost = omega (arith, fragments.counts.lost, sizes.spare) };
      };
      rules = puts_rules c w x first records [] made asks_nothing below (nothing_asked c w);
      round_is = now.stands.round_is;
      low = omega (arith, now.stands.round_is, rounds_beside past [] ms beside);
    }

-- ---- a put, in either order

-- what goes out before its fragments is a read of each site at most
pub reads_few : (c : Config) (w : Caller) (past : List Trace) (old new : Run) (first : ℕ) (send : List Out) (order : Order) → IsConfig c → Ready c w past old [] → ReadsFirst c old new first send order → length send ≤ 16
reads_few c w past old new first send Parallel sizes ready reads =
    omega (arith, ap (λ (outs : List Out). length outs) (reads w past ready).1, reads_length (key_of w.call) 0 c.n, sizes.sites)
reads_few c w past old new first send BlobsFirst sizes ready reads = omega (arith, ap (λ (outs : List Out). length outs) reads.0)

abbrev pub put_running : Order → Run → Puts → Running
put_running Parallel run puts = Asking run puts
put_running BlobsFirst run puts = Storing run puts

pub put_begun : (c : Config) (w : Caller) (past : List Trace) (old new : Run) (x : PutData) (records : List (List ℕ)) (awaited : List AwaitedBlob) (first : ℕ) (send sends : List Out) (order : Order) → IsConfig c → c.order ≡ order → is_put w.call ≡ true
    → top_rounds past < 2 ^ 31 + first → HasMade c w x records → Ready c w past old [] → old.stage ≡ Look → ReadsFirst c old new first send order → AreAdded first send sends awaited (puts_from w.name (key_of w.call) 0 records)
    → HasBegun c w past (put_running order new (record { awaited = awaited; counts = record { stored = 0; lost = 0 } })) new.round first sends × OpensPut c w sends order
put_begun c w past old new x records awaited first send sends Parallel sizes order put used made ready look reads added =
    let outs : List Out = puts_from w.name (key_of w.call) 0 records in
    let puts : Puts = record { awaited = awaited; counts = record { stored = 0; lost = 0 } } in
    let opened = reads w past ready in
    let long : length outs ≡ length records = puts_length w.name (key_of w.call) 0 records in
    subst (λ (os : List Out). HasBegun c w past (Asking new puts) new.round first os × OpensPut c w os Parallel) (sym added.sent) (
      beside_begun c w past new x records awaited first send sizes order used made opened.1 opened.0 (added.awaited_is ∙ ap (λ k. awaited_from (first + length send) 0 k) long) (added.count ∙ long),
      (outs, ap (λ (rs : List Out). rs ++ outs) opened.1, stores_records c w x records made),
    )
put_begun c w past old new x records awaited first send sends BlobsFirst sizes order put used made ready look reads added =
    let outs : List Out = puts_from w.name (key_of w.call) 0 records in
    let puts : Puts = record { awaited = awaited; counts = record { stored = 0; lost = 0 } } in
    let long : length outs ≡ length records = puts_length w.name (key_of w.call) 0 records in
    let none : first + length send ≡ first = omega (arith, ap (λ (os : List Out). length os) reads.0) in
    subst (λ (os : List Out). HasBegun c w past (Storing new puts) new.round first os × OpensPut c w os BlobsFirst) (sym (added.sent ∙ ap (λ (rs : List Out). rs ++ outs) reads.0)) (
      subst (λ (run : Run). HasBegun c w past (Storing run puts) run.round first outs) (sym reads.1)
          (first_begun c w past old x records awaited first sizes order put used made ready look (added.awaited_is ∙ (ap (λ k. awaited_from k 0 (length outs)) none ∙ ap (λ k. awaited_from first 0 k) long)) (added.count ∙ long)),
      stores_records c w x records made,
    )

-- a call that asks for this version of an object
abbrev pub call_for : Target → List ℕ → Call
call_for Latest key = Get key
call_for (At version) key = GetAt key version

pub call_key : (target : Target) (key : List ℕ) → key_of (call_for target key) ≡ key
call_key Latest key = refl
call_key (At version) key = refl

pub call_target : (target : Target) (key : List ℕ) → target_of (call_for target key) ≡ target
call_target Latest key = refl
call_target (At version) key = refl

-- a put's value has its name
pub put_named : (c : Config) (name : Name) (key object : List ℕ) (own : Option Value) → IsOwn c name (Put key object) own → IsNamed name own
put_named c name key object own h = λ (x : Value) (e : own ≡ Some x).
    ap name_of (same_Some x (PutOf h.0) (sym e ∙ h.1)) ∙ ap (λ (put : PutData). put.name) h.2.2

-- a call that stores no fragments begins as any such call does
pub begins_any : {E : Type 0} (client : Client) (first : ℕ) (call : Call) (key : List ℕ) (name : Name) (target : Target) (own : Option Value) (result : Result (Change × Turn) E) → key_of call ≡ key → target_of call ≡ target → is_put call ≡ false → IsOwn client.config name call own
    → IfOk result (λ after. (any : Call) → key_of any ≡ key → target_of any ≡ target → is_put any ≡ false → IsOwn client.config name any own → BeginsAs client (changed client after.0) first any own after.1)
    → IfOk result (λ after. Begins client (changed client after.0) first call after.1)
begins_any client first call key name target own result same asks no_put is h =
    IfOk-weaker result (λ after. (any : Call) → key_of any ≡ key → target_of any ≡ target → is_put any ≡ false → IsOwn client.config name any own → BeginsAs client (changed client after.0) first any own after.1)
    (λ after. Begins client (changed client after.0) first call after.1) (λ after b. λ (next : ℕ) (ts : List Trace) k l. (own, b call same asks no_put is next ts k l)) h
