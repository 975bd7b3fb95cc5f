-- What a call sends at an event: nothing, requests for rows, or these and then the reads of fragments.
use Rattle.std.proofs.Common.{◌≡◌, ℕ, zero, suc, ◌+◌, ◌≤◌, true, false, List, [], ◌∷◌, ◌++◌, length, Option, Some, None, refl, sym, ◌∙◌, subst, inl, inr, ◌⊎◌, arith}
use Rattle.std.proofs.lemmas.Bool.{false≢true}
use Rattle.std.proofs.lemmas.List.{append-nil}
use Rattle.std.proofs.lemmas.List.Elements.{All-nil, All-cons}
use Rattle.gz_config.specs.declared.Config.{Config}
use Rattle.gz_core.specs.Names.{Name}
use Rattle.gz_core.specs.declared.calls.Answer.{Answer}
use Rattle.gz_core.specs.declared.fragments.FragRef.{FragRef}
use Rattle.gz_core.specs.declared.requests.Op.TheVariants.{ReadRow}
use Rattle.gz_core.specs.declared.requests.Out.{Out}
use Rattle.gz_core.specs.History.{Action, GaveIn, Rested, IsClosing, is_row_request, sent_from}
use Rattle.gz_data.specs.Requests.{gets_from}
use Rattle.gz_round.specs.Sites.{AreBlobs}
use Rattle.gz_round.specs.Standing.{AreAskedAgain}
use Rattle.gz_round.specs.Starting.{AreForRows, SitesRise, AreRowRequests, MakeNoStep, ReadAlone, reads_from}
use Rattle.gz_round.proofs.Passes.{alone_stepless, none_alone, none_requested, none_stepless}
use Rattle.gz_client.specs.Sends.{AreBlobsRising, IsDone, IsOfRow, IsTurn, tells_chosen}

-- ---- what is sent

reads_for_rows : (key : List ℕ) (s n : ℕ) → AreForRows (reads_from key s n)
reads_for_rows key s zero = All-nil (λ (out : Out). is_row_request out.op ≡ true)
reads_for_rows key s (suc n) = All-cons (λ (out : Out). is_row_request out.op ≡ true) (record { site = s; op = ReadRow key; awaited = true }) (reads_from key (s + 1) n) refl (reads_for_rows key (s + 1) n)

reads_rising : (key : List ℕ) (s n : ℕ) → SitesRise s (reads_from key s n)
reads_rising key s zero = tt
reads_rising key s (suc n) = (omega arith, reads_rising key (s + 1) n)

pub reads_length : (key : List ℕ) (s n : ℕ) → length (reads_from key s n) ≡ n
reads_length key s zero = refl
reads_length key s (suc n) = let rest = reads_length key (s + 1) n in omega arith

-- the reads with which a call begins to ask sites
pub reads_sent : (key : List ℕ) (n : ℕ) → n ≤ 16 → AreRowRequests (reads_from key 0 n)
reads_sent key n few = let long = reads_length key 0 n in record { rows = reads_for_rows key 0 n; rising = reads_rising key 0 n; few = omega arith }

-- the reads of a value's fragments
pub gets_rising : (name : Name) (key : List ℕ) (i : ℕ) (fragments : List FragRef) → AreBlobsRising i (gets_from name key i fragments)
gets_rising name key i [] = tt
gets_rising name key i (fragment ∷ fragments) = (refl, omega arith, gets_rising name key (i + 1) fragments)

-- ---- what was asked again

pub blobs_no_row : (ms : List Action) → AreBlobs ms → IsOfRow ms → ⊥
blobs_no_row [] h e = e
blobs_no_row (m ∷ ms) h e = false≢true (sym h.0 ∙ e)

-- once every site went out, none is due to be read
pub again_or_out : (c : Config) (closing ms : List Action) → IsClosing closing → AreAskedAgain c (closing ++ ms) → (closing ≡ GaveIn ∷ []) ⊎ AreAskedAgain c ms
again_or_out c closing ms (inl none) h = inr (subst (λ (cs : List Action). AreAskedAgain c (cs ++ ms)) none h)
again_or_out c closing ms (inr gave) h = inl gave

-- ---- the turn

-- a call that goes on isn't done with its rows
pub goes_undone : (closing : List Action) → IsClosing closing → IsDone None closing → ⊥
goes_undone closing h (inl some) = some refl
goes_undone closing (inl none) (inr rested) = let bad : [] ≡ Rested ∷ [] = sym none ∙ rested in cc
goes_undone closing (inr gave) (inr rested) = let bad : GaveIn ∷ [] ≡ Rested ∷ [] = sym gave ∙ rested in cc

pub sends_nothing : (c : Config) (ms : List Action) (first : ℕ) (answer : Option Answer) → (IsOfRow ms → AreAskedAgain c ms) → IsTurn c ms first (record { send = []; answer = answer }) []
sends_nothing c ms first answer again = record {
  rows = [];
  blobs = [];
  sends = refl;
  about_rows = none_requested;
  about_blobs = tt;
  ends = λ done. none_stepless;
  alone = λ unplaced. none_alone;
  reads = λ e. inr (again e);
}

pub sends_rows : (c : Config) (ms : List Action) (first : ℕ) (send : List Out) (answer : Option Answer) (closing : List Action) → AreRowRequests send → (IsDone answer closing → MakeNoStep send) → ((a : Answer) → answer ≡ Some a → tells_chosen a ≡ false → ReadAlone send)
    → ((closing ≡ GaveIn ∷ []) ⊎ AreAskedAgain c (sent_from first send ms)) → IsTurn c ms first (record { send = send; answer = answer }) closing
sends_rows c ms first send answer closing sent stepless alone again = record {
  rows = send;
  blobs = [];
  sends = sym (append-nil send);
  about_rows = sent;
  about_blobs = tt;
  ends = stepless;
  alone = λ unplaced. elim unplaced [ inl k ↦ alone k.0 k.1 k.2 | inr some ↦ absurd (some refl) ];
  reads = λ e. again;
}

pub sends_gets : (c : Config) (ms : List Action) (first : ℕ) (send sends blobs : List Out) (answer : Option Answer) (closing : List Action) → AreRowRequests send → ReadAlone send → sends ≡ send ++ blobs → AreBlobsRising 0 blobs
    → AreAskedAgain c (sent_from first sends ms) → IsTurn c ms first (record { send = sends; answer = answer }) closing
sends_gets c ms first send sends blobs answer closing sent alone both rising again = record {
  rows = send;
  blobs = blobs;
  sends = both;
  about_rows = sent;
  about_blobs = rising;
  ends = λ done. alone_stepless send alone;
  alone = λ unplaced. alone;
  reads = λ e. inr again;
}
