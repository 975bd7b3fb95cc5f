-- What each thing that the known rows come to leaves the call to do.
use Rattle.std.proofs.Common.{◌≡◌, ℕ, List, Some, is_some, IsSome, sym, ap, ◌∙◌, subst}
use Rattle.std.specs.List.{slice_get}
use Rattle.gz_core.specs.Names.{Name}
use Rattle.gz_core.specs.Rows.{RowAt}
use Rattle.gz_core.specs.declared.values.Value.{Value}
use Rattle.gz_config.specs.declared.Config.{Config}
use Rattle.gz_round.specs.declared.run.Run.{Run}
use Rattle.gz_round.specs.declared.run.Stage.{Stage}
use Rattle.gz_round.specs.declared.following.Next.TheVariants.{Vote, Skip}
use Rattle.gz_core.specs.declared.calls.Answer.TheVariants.{Unsure}
use Rattle.gz_core.specs.declared.calls.UnsureWhy.TheVariants.{Trimmed as TrimmedTo}
use Rattle.gz_core.specs.History.{Action, Caller, Trace}
use Rattle.gz_round.specs.Shown.{IsShown}
use Rattle.gz_round.specs.Counting.{IsGoing}
use Rattle.gz_round.specs.Causes.{EndsBy, IsLearnt, IsTrimmed, row_value}
use Rattle.gz_round.specs.Standing.{Stands, IsVoteNext}
use Rattle.gz_round.specs.Following.{Ready, NextMeans, IsFound}
use Rattle.gz_round.specs.Acting.{VotesNext, BeginsFast, Skips}
use Rattle.gz_round.proofs.Known.{listed_known, known_heard}
use Rattle.gz_round.proofs.Columns.{named_has, value_named}
use Rattle.gz_round.proofs.Votes.{voted_last}

-- another phase leaves what has happened
pub stands_stage : (c : Config) (w : Caller) (past : List Trace) (run : Run) (ms : List Action) (stage : Stage) → Stands c w past run ms → Stands c w past (record run { stage = stage }) ms
stands_stage c w past run ms stage h = record {
  name_is = h.name_is;
  key_is = h.key_is;
  target_is = h.target_is;
  own_is = h.own_is;
  named = h.named;
  writes = h.writes;
  knows = record { rows_len = h.knows.rows_len; marks_len = h.knows.marks_len; rows = h.knows.rows; marks = h.knows.marks };
  met_is = h.met_is;
  vote_is = h.vote_is;
  wrote_is = h.wrote_is;
  round_is = h.round_is;
  sites = h.sites;
  allowed = h.allowed;
}

-- a call votes at a version
votes_next : (c : Config) (w : Caller) (past : List Trace) (run : Run) (ms : List Action) (v : ℕ) → Ready c w past run ms → IsGoing c ms → IsVoteNext c w ms v → VotesNext c w past run ms v
votes_next c w past run ms v r going vote = record { stands = r.stands; going = going; unnoticed = r.unnoticed; vote = vote }

-- in the fast ballot of one at which no value is known to be chosen
pub begins_from : (c : Config) (w : Caller) (past : List Trace) (run : Run) (ms : List Action) (v : ℕ) → Ready c w past run ms → IsGoing c ms → NextMeans c w run ms (Vote v) → BeginsFast c w past run ms v
begins_from c w past run ms v r going n = record { votes = votes_next c w past run ms v r going n.0; first = n.1; none = n.2; follows = n.3 }

-- or of one above a floor
pub skips_from : (c : Config) (w : Caller) (past : List Trace) (run : Run) (ms : List Action) (v : ℕ) → Ready c w past run ms → IsGoing c ms → NextMeans c w run ms (Skip v) → Skips c w past run ms v
skips_from c w past run ms v r going n = record { votes = votes_next c w past run ms v r going n.0; first = n.1; above = n.2 }

-- a call whose last vote was collected can't know what became of it
pub trimmed_ends : (c : Config) (w : Caller) (ms : List Action) (floor : ℕ) → IsGoing c ms → IsTrimmed c w ms floor → EndsBy c w ms (Unsure (TrimmedTo floor))
trimmed_ends c w ms floor going t = (sym (voted_last w.name ms) ∙ ap (λ o. is_some o) t.voted, (going, t))

-- the row of the value that was learnt has a value
pub learnt_has : (c : Config) (w : Caller) (run : Run) (ms : List Action) (v s : ℕ) → IsFound c w run ms v s → (row : RowAt) × (slice_get run.rows s ≡ Some (Some row)) × IsSome (row_value row v)
learnt_has c w run ms v s f = (f.row, f.known, named_has f.row v f.name f.named)

-- and is learnt with it
pub found_learnt : (c : Config) (w : Caller) (past : List Trace) (run : Run) (ms : List Action) (v s : ℕ) (x : Value) → Stands c w past run ms → (f : IsFound c w run ms v s) → row_value f.row v ≡ Some x → IsLearnt c w ms v x
found_learnt c w past run ms v s x h f e = record {
  reads = f.reads;
  asked = f.asked;
  shown = subst (λ (n : Name). IsShown c ms v n) (sym (value_named f.row v f.name x f.named e)) f.shown;
  heard = (s, f.row, known_heard ms s f.row (listed_known c run ms h.knows s f.row f.inside f.known), e);
}
