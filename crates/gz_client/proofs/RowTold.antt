-- What a client learns of a request for a site's row.
use Rattle.std.proofs.Common.{◌≡◌, ◌==◌, ℕ, ◌+◌, ◌<◌, ◌^◌, Bool, true, false, cond, List, [], ◌∷◌, ◌++◌, map, length, Option, Some, None, option_map, refl, sym, ap, ◌∙◌, subst, inl, inr, arith}
use Rattle.std.specs.Prelude.{not, ◌||◌, ◌&&◌}
use Rattle.std.specs.List.{Contains, filter, list_any}
use Rattle.std.proofs.lemmas.Bool.{and_parts, cases_Bool, cond-false, false≢true, eq-eqb, eqb-true}
use Rattle.std.proofs.lemmas.List.Elements.{All-contains}
use Rattle.std.proofs.lemmas.Option.{same_Some, slice_get_within}
use Rattle.gz_config.specs.declared.Config.{Config}
use Rattle.gz_core.specs.Awaiting.{awaiting, without, without_rows, IsAwaited, AreInTurn}
use Rattle.gz_core.specs.declared.requests.Op.{Op}
use Rattle.gz_core.specs.declared.requests.Out.{Out}
use Rattle.gz_core.specs.declared.requests.Reply.{Reply}
use Rattle.gz_core.specs.History.{Asked, Action, GaveIn, Caller, Trace, IsClosing, is_row_request, sent_from}
use Rattle.gz_core.proofs.Awaited.{awaiting_rises, contains_head, contains_tail, filter_contains, one_of_number}
use Rattle.gz_data.specs.Blobs.{is_put_blob, is_stored, stored, lost}
use Rattle.gz_data.specs.Requests.{awaited_blob, is_numbered}
use Rattle.gz_round.specs.Awaiting.{IsSiteOf, has_number, is_numbered as is_awaited_numbered}
use Rattle.gz_round.specs.Following.{Ready, Turned}
use Rattle.gz_round.specs.Phases.{GoesFrom, HasPhases}
use Rattle.gz_round.specs.Sites.{as_heard, tells_of_row, written_by, site_now}
use Rattle.gz_round.specs.Standing.{Knows, awaited_of, mark_of}
use Rattle.gz_round.specs.Starting.{AreRowRequests}
use Rattle.gz_round.specs.declared.outcome.Outcome.{Outcome}
use Rattle.gz_round.specs.declared.outcome.Outcome.TheVariants.{Goes}
use Rattle.gz_round.specs.declared.run.Mark.{Mark}
use Rattle.gz_round.specs.declared.run.Run.{Run}
use Rattle.gz_round.proofs.Beside.{runs_ready}
use Rattle.gz_round.proofs.Awaits.{awaits_to}
use Rattle.gz_round.proofs.Phases.{phases_sent, phases_told}
use Rattle.gz_client.specs.Blobs.{HasStoredFirst, has_asked}
use Rattle.gz_client.specs.Running.{AsksForRows, PutsStand}
use Rattle.gz_client.specs.Traces.{AreBelow, CanLearn, Holds, IsAwaited as IsAwaitedBy, told_of}
use Rattle.gz_client.specs.Turning.{HasFollowed, KeepsBlobRules}
use Rattle.gz_client.specs.declared.client.Client.{Client}
use Rattle.gz_client.specs.declared.running.Puts.{Puts}
use Rattle.gz_client.specs.declared.running.Running.TheVariants.{Asking}
use Rattle.gz_client.proofs.Extending.{told_round}
use Rattle.gz_client.proofs.Holding.{run_held}
use Rattle.gz_client.proofs.Listed.{row_listed}
use Rattle.gz_client.proofs.Puts.{blob_not_row, filter_swap, puts_closed, puts_rows_sent, row_not_put}
use Rattle.gz_client.proofs.Rules.{AreRows, asked_awaits, asked_more, asked_sent, first_more, first_sent, keeps_given_in, keeps_rows}
use Rattle.gz_client.proofs.Telling.{numbered_row}

-- ---- the site that a number is of

number_from : (o : Option Asked) (n : ℕ) → is_awaited_numbered (λ m. m == n) (option_map awaited_of o) ≡ true → (a : Asked) × (o ≡ Some a) × (a.number ≡ n)
number_from None n h = absurd (false≢true h)
number_from (Some a) n h = (a, refl, eqb-true a.number n h)

-- the site of an awaited number is the one that its request was sent to
site_awaits : (c : Config) (run : Run) (ms : List Action) (a : Asked) (n at : ℕ) → Knows c run ms → AreInTurn ms → (site_now ms a.site).awaits ≡ Some a → a.number ≡ n → IsSiteOf run.marks n at
    → (at < c.n) × ((site_now ms at).awaits ≡ Some a)
site_awaits c run ms a n at k turn awaits number site =
    let len = k.marks_len in
    let inside : at < c.n = omega (arith, slice_get_within run.marks at site.0 site.1) in
    let same : site.0 ≡ mark_of (site_now ms at) = same_Some site.0 (mark_of (site_now ms at)) (sym site.1 ∙ k.marks at inside) in
    let found = number_from (site_now ms at).awaits n (subst (λ (m : Mark). has_number n m ≡ true) same site.2) in
    let one : found.0 ≡ a = one_of_number 0 (awaiting ms) found.0 a (awaiting_rises ms turn) (row_listed ms at found.0 turn found.1) (row_listed ms a.site a turn awaits) (found.2 ∙ sym number) in
    (inside, subst (λ (b : Asked). (site_now ms at).awaits ≡ Some b) one found.1)

-- a number that is awaited has a site
awaited_site : (c : Config) (run : Run) (ms : List Action) (a : Asked) (n : ℕ) → Knows c run ms → a.site < c.n → (site_now ms a.site).awaits ≡ Some a → a.number ≡ n → IsSiteOf run.marks n a.site
awaited_site c run ms a n k inside awaits number = (
  mark_of (site_now ms a.site),
  k.marks a.site inside,
  subst (λ (o : Option Asked). is_awaited_numbered (λ m. m == n) (option_map awaited_of o) ≡ true) (sym awaits) (eq-eqb a.number n number),
)

-- ---- what the client may learn

-- the site that it is about, and what is kept of it
pub record IsAbout (client : Client) (run : Run) (puts : Puts) (at : ℕ) (t : Trace) (ts : List Trace) (a : Asked) : Type 0 where
  pub inside : at < client.config.n
  pub awaits : (site_now t.actions at).awaits ≡ Some a
  pub ready : Ready client.config t.caller ts run t.actions
  pub asks : AsksForRows client.config t.caller ts run puts t.actions

pub about : (client : Client) (run : Run) (puts : Puts) (n at next : ℕ) (t : Trace) (ts : List Trace) (a : Asked) → client.running ≡ Some (Asking run puts) → list_any (is_numbered n) puts.awaited ≡ false
    → IsSiteOf run.marks n at → Holds client next (t ∷ ts) → IsAwaitedBy client.config t a n → IsAbout client run puts at t ts a
about client run puts n at next t ts a e none site h awaited =
    let k = run_held client next t ts (Asking run puts) e h in
    let told = h.told in
    let row = numbered_row client.config n puts.awaited t.actions a awaited.awaits awaited.number_is k.stands.fragments.awaited_is none in
    let s = site_awaits client.config run t.actions a n at k.stands.runs.stands.knows told.0.in_turn row.1 awaited.number_is site in
    record { inside = s.0; awaits = s.1; ready = runs_ready client.config t.caller ts run t.actions k.stands.runs; asks = k.stands }

pub told_site : (client : Client) (run : Run) (puts : Puts) (n first : ℕ) → client.running ≡ Some (Asking run puts) → list_any (is_numbered n) puts.awaited ≡ false → CanLearn client n first
    → (s : ℕ) × IsSiteOf run.marks n s
told_site client run puts n first e none k =
    let held = run_held client k.0 k.1 k.2 (Asking run puts) e k.4 in
    let row = numbered_row client.config n puts.awaited k.1.actions k.3 k.5.awaits k.5.number_is held.stands.fragments.awaited_is none in
    (k.3.site, awaited_site client.config run k.1.actions k.3 n held.stands.runs.stands.knows row.0 row.1 k.5.number_is)

-- the call can hear of the site
pub record CanHear (run : Run) (at : ℕ) : Type 0 where
  pub rows : at < length run.rows
  pub marks : at < length run.marks
  pub met : run.met + 1 < 2 ^ 32

pub can_hear : (client : Client) (run : Run) (puts : Puts) (n first at : ℕ) → client.running ≡ Some (Asking run puts) → list_any (is_numbered n) puts.awaited ≡ false → IsSiteOf run.marks n at → CanLearn client n first → CanHear run at
can_hear client run puts n first at e none site k =
    let i = about client run puts n at k.0 k.1 k.2 k.3 e none site k.4 k.5 in
    let inside = i.inside in
    let rows_len = i.ready.stands.knows.rows_len in
    let marks_len = i.ready.stands.knows.marks_len in
    let met_is = i.ready.stands.met_is in
    let few = i.asks.runs.going.few in
    let tries = k.4.sizes.tries in
    record { rows = omega arith; marks = omega arith; met = omega arith }

-- the rounds of a call that was told something are those of its client
pub later_round : (client : Client) (later : Run) (n first : ℕ) (o : Option Reply) (k : CanLearn client n first) → Ready client.config k.1.caller k.2 later (told_of client.config.n o k.3 ∷ k.1.actions) → later.round < 2 ^ 31 + first
later_round client later n first o k ready =
    let used = ready.stands.round_is in
    let same = told_round client k.0 client.config.n o k.3 k.1 k.2 k.4 in
    omega (arith, k.4.round_low, k.6)

-- ---- the fragments of a call that is told of a row

filter_whole : {X : Type 0} (p : X → Bool) (xs : List X) → ((x : X) → Contains xs x → p x ≡ true) → filter p xs ≡ xs
filter_whole p [] h = refl
filter_whole p (x ∷ xs) h =
    ap (λ (t : Bool). cond t (x ∷ filter p xs) (filter p xs)) (h x (contains_head x xs)) ∙ ap (λ (ys : List _). x ∷ ys) (filter_whole p xs (λ y i. h y (contains_tail x xs y i)))

not_false : (b : Bool) → b ≡ false → not b ≡ true
not_false b e = rw e refl

-- a number of a row is none of a blob's
row_leaves : (ms : List Action) (a : Asked) → AreInTurn ms → IsAwaited ms a → is_row_request a.op ≡ true → without_rows (without a.number (awaiting ms)) ≡ without_rows (awaiting ms)
row_leaves ms a turn i row =
    filter_swap (λ (b : Asked). not (is_row_request b.op)) (λ (b : Asked). not (b.number == a.number)) (awaiting ms)
    ∙ filter_whole (λ (b : Asked). not (b.number == a.number)) (without_rows (awaiting ms)) (λ b j. not_false (b.number == a.number) (elim (cases_Bool (b.number == a.number)) [
      | inl same ↦
          let one : b ≡ a = one_of_number 0 (awaiting ms) b a (awaiting_rises ms turn) (filter_contains (λ (d : Asked). not (is_row_request d.op)) (awaiting ms) b j) i (eqb-true b.number a.number same) in
          absurd (false≢true (sym (blob_not_row (awaiting ms) b j) ∙ (ap (λ (d : Asked). is_row_request d.op) one ∙ row)))
      | inr other ↦ other
    ]))

row_or : (op : Op) → is_row_request op ≡ true → (is_row_request op || is_put_blob op) ≡ true
row_or op e = ap (λ (t : Bool). t || is_put_blob op) e

and_false : (a b : Bool) → a ≡ false → (a && b) ≡ false
and_false a b e = rw e refl

pub puts_row_told : (c : Config) (w : Caller) (puts : Puts) (n : ℕ) (o : Option Reply) (a : Asked) (ms : List Action) → AreInTurn ms → IsAwaited ms a → is_row_request a.op ≡ true
    → PutsStand c w puts ms → PutsStand c w puts (told_of n o a ∷ ms)
puts_row_told c w puts n None a ms turn i row h = record {
  awaited_is = h.awaited_is ∙ ap (map awaited_blob) (sym (row_leaves ms a turn i row));
  few = h.few;
  counts = record { stored = h.counts.stored; lost = h.counts.lost ∙ sym (cond-false (is_put_blob a.op) (lost ms + 1) (lost ms) (row_not_put a.op row)) };
  about = (row_or a.op row, h.about);
  all = h.all;
  none = λ reads. (row, h.none reads);
}
puts_row_told c w puts n (Some reply) a ms turn i row h =
    let r : Reply = as_heard n (written_by a.op) reply in
    let none : is_put_blob a.op ≡ false = row_not_put a.op row in
    record {
      awaited_is = h.awaited_is ∙ ap (map awaited_blob) (sym (row_leaves ms a turn i row));
      few = h.few;
      counts = record {
        stored = h.counts.stored ∙ sym (cond-false (is_put_blob a.op && is_stored r) (stored ms + 1) (stored ms) (and_false (is_put_blob a.op) (is_stored r) none));
        lost = h.counts.lost ∙ sym (cond-false (is_put_blob a.op && not (is_stored r)) (lost ms + 1) (lost ms) (and_false (is_put_blob a.op) (not (is_stored r)) none));
      };
      about = (row_or a.op row, h.about);
      all = h.all;
      none = λ reads. (row, h.none reads);
    }

-- ---- what its rows come to

rows_each : (outs : List Out) → ((out : Out) → Contains outs out → is_row_request out.op ≡ true) → AreRows outs
rows_each [] h = tt
rows_each (out ∷ outs) h = (h out (contains_head out outs), rows_each outs (λ o i. h o (contains_tail out outs o i)))

pub are_rows : (outs : List Out) → AreRowRequests outs → AreRows outs
are_rows outs h = rows_each outs (λ out i. All-contains (λ (o : Out). is_row_request o.op ≡ true) outs out h.rows i)

over_closing : (P : List Action → Type 0) (closing ms : List Action) → (P ms → P (GaveIn ∷ ms)) → IsClosing closing → P ms → P (closing ++ ms)
over_closing P closing ms gives_in (inl none) h = subst (λ (cs : List Action). P (cs ++ ms)) (sym none) h
over_closing P closing ms gives_in (inr gave) h = subst (λ (cs : List Action). P (cs ++ ms)) (sym gave) (gives_in h)

-- the call hears of a row
row_tells : (n : ℕ) (o : Option Reply) (a : Asked) → is_row_request a.op ≡ true → tells_of_row (told_of n o a) ≡ true
row_tells n None a e = e
row_tells n (Some reply) a e = e

pub row_followed : (client : Client) (run later : Run) (puts : Puts) (at next first : ℕ) (o : Option Reply) (t : Trace) (ts : List Trace) (a : Asked) (closing : List Action) (send : List Out) (outcome : Outcome)
    → IsAbout client run puts at t ts a → Holds client next (t ∷ ts) → AreRowRequests send → IsClosing closing
    → Turned client.config t.caller ts later (closing ++ sent_from first send (told_of client.config.n o a ∷ t.actions)) outcome
    → (outcome ≡ Goes → GoesFrom client.config run.stage later.stage (told_of client.config.n o a ∷ t.actions))
    → KeepsBlobRules client.config t.caller (told_of client.config.n o a ∷ t.actions) → AreBelow first (told_of client.config.n o a ∷ t.actions)
    → HasFollowed client.config t.caller ts later puts closing (sent_from first send (told_of client.config.n o a ∷ t.actions)) outcome
row_followed client run later puts at next first o t ts a closing send outcome i h sends closes turned goes rules below =
    let c : Config = client.config in
    let w : Caller = t.caller in
    let m : Action = told_of c.n o a in
    let ms : List Action = m ∷ t.actions in
    let ns : List Action = sent_from first send ms in
    let told = h.told in
    let rows : AreRows send = are_rows send sends in
    let row : is_row_request a.op ≡ true = (and_parts (is_row_request a.op) (a.site == at) (awaits_to t.actions at a i.awaits)).0 in
    let listed = row_listed t.actions at a told.0.in_turn i.awaits in
    let asked : has_asked ms ≡ true = asked_more m t.actions (asked_awaits t.actions at a i.awaits) in
    let first_stored : HasStoredFirst c w ms = first_more c w m t.actions i.asks.first in
    record {
      sizes = h.sizes;
      own = told.0.own;
      closing_is = closes;
      asked = over_closing (λ (os : List Action). has_asked os ≡ true) closing ns (asked_more GaveIn ns) closes (asked_sent first send ms asked);
      turned = turned;
      phases = λ on. over_closing (HasPhases c w ts later.stage) closing ns (λ p. p) closes
          (phases_sent c w ts later.stage first send ms (phases_told c w ts later.stage m t.actions (row_tells c.n o a row) (run, i.asks.runs, i.asks.phases, goes on)));
      fragments = puts_closed c w puts closing ns closes (puts_rows_sent c w puts first send ms rows (puts_row_told c w puts c.n o a t.actions told.0.in_turn listed row i.asks.fragments));
      first = over_closing (HasStoredFirst c w) closing ns (first_more c w GaveIn ns) closes (first_sent c w first send ms first_stored);
      rules = over_closing (KeepsBlobRules c w) closing ns (keeps_given_in c w ns) closes (keeps_rows c w first send ms rows first_stored below rules);
    }
