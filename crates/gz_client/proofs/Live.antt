-- What a running call keeps as awaited is what it awaits.
use Rattle.std.proofs.Common.{◌≡◌, ℕ, zero, suc, ◌+◌, ◌<◌, ◌≤◌, ◌^◌, Bool, true, false, List, [], ◌∷◌, map, Option, Some, None, option_map, refl, sym, ap, ◌∙◌, subst, arith}
use Rattle.std.specs.List.{count_by}
use Rattle.std.proofs.lemmas.List.Sums.{count_by-le-length}
use Rattle.gz_config.specs.declared.Config.{Config}
use Rattle.gz_core.specs.Counts.{count_sites}
use Rattle.gz_core.specs.Awaiting.{awaiting, without_rows}
use Rattle.gz_core.specs.History.{Asked, Action, Caller, Trace}
use Rattle.gz_data.specs.Requests.{awaited_blob, blobs_awaited}
use Rattle.gz_data.specs.declared.requests.AwaitedBlob.{AwaitedBlob}
use Rattle.gz_round.specs.declared.run.Mark.{Mark}
use Rattle.gz_round.specs.declared.run.Run.{Run}
use Rattle.gz_round.specs.Awaiting.{is_numbered}
use Rattle.gz_round.specs.Numbering.{awaits_number, live_where}
use Rattle.gz_round.specs.Sites.{site_now}
use Rattle.gz_round.specs.Standing.{Knows, mark_of, awaited_of}
use Rattle.gz_round.proofs.Blobs.{blobs_site}
use Rattle.gz_round.proofs.Lists.{count_same, count_told}
use Rattle.gz_client.specs.Lowest.{marks_live, kept_live}
use Rattle.gz_client.specs.Running.{StandsFor, blobs_of}
use Rattle.gz_client.specs.Traces.{Holds, HoldsRun, live, live_in, live_among}
use Rattle.gz_client.specs.declared.client.Client.{Client}
use Rattle.gz_client.specs.declared.running.Running.{Running}
use Rattle.gz_client.specs.declared.running.Running.TheVariants.{Storing, Asking, Placed, Gathering}
use Rattle.gz_client.proofs.Counted.{count_map}

-- ---- blobs

-- the requests that are kept count as those that are awaited
blobs_counted : (p : ℕ → Bool) (rs : List Asked) → count_by (λ (blob : AwaitedBlob). p blob.number) (map awaited_blob rs) ≡ count_by (λ (a : Asked). p a.number) rs
blobs_counted p rs = count_map awaited_blob (λ (blob : AwaitedBlob). p blob.number) rs

-- the requests for blobs that are kept are those that are awaited
pub blobs_are : (c : Config) (w : Caller) (past : List Trace) (running : Running) (ms : List Action) → StandsFor c w past running ms → blobs_of running ≡ blobs_awaited ms
blobs_are c w past (Storing run puts) ms h = h.fragments.awaited_is
blobs_are c w past (Asking run puts) ms h = h.fragments.awaited_is
blobs_are c w past (Placed version puts) ms h = h.fragments.awaited_is
blobs_are c w past (Gathering key g awaited) ms h = h.awaited_is

-- ---- rows

pub none_counted : (n : ℕ) → count_sites n (λ s. false) ≡ 0
none_counted zero = refl
none_counted (suc n) = none_counted n

-- where no site is awaited, no row is live
rows_rest : (c : Config) (p : ℕ → Bool) (ms : List Action) → ((s : ℕ) → (site_now ms s).awaits ≡ None) → live_where c p ms ≡ 0
rows_rest c p ms rests = count_same c.n (λ s. awaits_number p (site_now ms s).awaits) (λ s. false) (λ (s : ℕ) (l : s < c.n). ap (awaits_number p) (rests s)) ∙ none_counted c.n

numbered_by : (p : ℕ → Bool) (o : Option Asked) → is_numbered p (option_map awaited_of o) ≡ awaits_number p o
numbered_by p None = refl
numbered_by p (Some a) = refl

-- the marks count the rows that are awaited
marks_counted : (c : Config) (p : ℕ → Bool) (run : Run) (ms : List Action) → Knows c run ms → marks_live p (Some run) ≡ live_where c p ms
marks_counted c p run ms k =
    count_told (λ (mark : Mark). is_numbered p mark.awaited) c.n run.marks (λ s. mark_of (site_now ms s)) k.marks_len k.marks
    ∙ count_same c.n (λ s. is_numbered p (mark_of (site_now ms s)).awaited) (λ s. awaits_number p (site_now ms s).awaits) (λ (s : ℕ) (l : s < c.n). numbered_by p (site_now ms s).awaits)

-- ---- both

together : (c : Config) (p : ℕ → Bool) (ms : List Action) (rows : ℕ) (blobs : List AwaitedBlob) → rows ≡ live_where c p ms → blobs ≡ blobs_awaited ms
    → rows + count_by (λ (blob : AwaitedBlob). p blob.number) blobs ≡ live_among c p ms
together c p ms rows blobs e same =
    ap (λ (n : ℕ). n + count_by (λ (blob : AwaitedBlob). p blob.number) blobs) e
    ∙ ap (λ (n : ℕ). live_where c p ms + n) (ap (count_by (λ (blob : AwaitedBlob). p blob.number)) same ∙ blobs_counted p (without_rows (awaiting ms)))

-- what is kept counts as what is awaited
pub kept_counts : (c : Config) (w : Caller) (past : List Trace) (p : ℕ → Bool) (running : Running) (ms : List Action) → StandsFor c w past running ms → kept_live p running ≡ live_among c p ms
kept_counts c w past p (Storing run puts) ms h = together c p ms 0 puts.awaited (sym (rows_rest c p ms (λ s. ap (λ now. now.awaits) (blobs_site ms s h.only)))) h.fragments.awaited_is
kept_counts c w past p (Asking run puts) ms h = together c p ms (marks_live p (Some run)) puts.awaited (marks_counted c p run ms h.runs.stands.knows) h.fragments.awaited_is
kept_counts c w past p (Placed version puts) ms h = together c p ms 0 puts.awaited (sym (rows_rest c p ms h.rows.rests)) h.fragments.awaited_is
kept_counts c w past p (Gathering key g awaited) ms h = together c p ms 0 awaited (sym (rows_rest c p ms h.rows.rests)) h.awaited_is

-- how many requests with such numbers the running call keeps is how many it awaits
pub kept_is_live : (c : Config) (next : ℕ) (p : ℕ → Bool) (running : Running) (ts : List Trace) → HoldsRun c next (Some running) ts → kept_live p running ≡ live c p ts
kept_is_live c next p running [] h = absurd h
kept_is_live c next p running (t ∷ ts) h = kept_counts c t.caller ts p running t.actions h.1 ∙ sym (ap (live_in c p t) h.0)

-- ---- few are kept

pub kept_few : (c : Config) (w : Caller) (past : List Trace) (p : ℕ → Bool) (running : Running) (ms : List Action) → c.n ≤ 16 → StandsFor c w past running ms → kept_live p running ≤ 32
kept_few c w past p (Storing run puts) ms sites h = omega (arith, count_by-le-length (λ (blob : AwaitedBlob). p blob.number) puts.awaited, h.fragments.few)
kept_few c w past p (Asking run puts) ms sites h =
    omega (arith, count_by-le-length (λ (blob : AwaitedBlob). p blob.number) puts.awaited, h.fragments.few, count_by-le-length (λ (mark : Mark). is_numbered p mark.awaited) run.marks, h.runs.stands.knows.marks_len)
kept_few c w past p (Placed version puts) ms sites h = omega (arith, count_by-le-length (λ (blob : AwaitedBlob). p blob.number) puts.awaited, h.fragments.few)
kept_few c w past p (Gathering key g awaited) ms sites h = omega (arith, count_by-le-length (λ (blob : AwaitedBlob). p blob.number) awaited, h.few)

-- how many are kept, as a number of 32 bits, is how many are live
pub live_told : (client : Client) (running : Running) (result next : ℕ) (ts : List Trace) → client.running ≡ Some running → (kept_live (λ m. true) running < 2 ^ 32 → result ≡ kept_live (λ m. true) running)
    → Holds client next ts → result ≡ live client.config (λ m. true) ts
live_told client running result next [] e exact h = absurd (subst (λ r. HoldsRun client.config next r []) e h.run_is)
live_told client running result next (t ∷ ts) e exact h =
    let k : HoldsRun client.config next (Some running) (t ∷ ts) = subst (λ r. HoldsRun client.config next r (t ∷ ts)) e h.run_is in
    exact (omega (arith, kept_few client.config t.caller ts (λ m. true) running t.actions h.sizes.sites k.1)) ∙ kept_is_live client.config next (λ m. true) running (t ∷ ts) k
