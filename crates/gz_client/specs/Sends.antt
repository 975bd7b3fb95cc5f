-- What a running call sends at an event, in what order, and what it doesn't leave out.
use Rattle.std.specs.Prelude.{ℕ, Bool, true, false, ◌≡◌, ◌≢◌, ◌≤◌, ◌+◌, ◌⊎◌, List, [], ◌∷◌, ◌++◌, Option, Some, None}
use Rattle.gz_config.specs.declared.Config.{Config}
use Rattle.gz_core.specs.History.{Action, GaveIn, Rested, is_row_request, sent_from}
use Rattle.gz_core.specs.declared.requests.Out.{Out}
use Rattle.gz_core.specs.declared.calls.Answer.{Answer}
use Rattle.gz_core.specs.declared.calls.Answer.TheVariants.{Ok, Thin}
use Rattle.gz_core.specs.declared.requests.Turn.{Turn}
use Rattle.gz_data.specs.Requests.{index_in}
use Rattle.gz_round.specs.Sites.{is_about_rows}
use Rattle.gz_round.specs.Standing.{AreAskedAgain}
use Rattle.gz_round.specs.Starting.{AreRowRequests, MakeNoStep, ReadAlone}

-- requests for blobs alone, whose indices rise from one to the next, and none lies below this one
abbrev pub AreBlobsRising : ℕ → List Out → Type 0
AreBlobsRising i [] = Unit {0}
AreBlobsRising i (out ∷ outs) = (is_row_request out.op ≡ false) × (i ≤ index_in out.op) × AreBlobsRising (index_in out.op + 1) outs

-- the last thing that happened is a reply of a request for a row, or that one was given up
abbrev pub IsOfRow : List Action → Type 0
IsOfRow [] = ⊥
IsOfRow (m ∷ ms) = is_about_rows m ≡ true

-- the rows of a call are done with at an event that closes so: it ends, or lets its row requests rest
abbrev pub IsDone : Option Answer → List Action → Type 0
IsDone answer closing = (answer ≢ None) ⊎ (closing ≡ Rested ∷ [])

-- whether an answer says that the call's own value is chosen
abbrev pub tells_chosen : Answer → Bool
tells_chosen (Ok version) = true
tells_chosen (Thin version stored) = true
tells_chosen answer = false

-- a call ends by another answer than one that its own value is chosen, or asks for the fragments of a value that it learnt
abbrev pub IsUnplaced : Option Answer → List Out → Type 0
IsUnplaced answer blobs = ((a : Answer) × (answer ≡ Some a) × (tells_chosen a ≡ false)) ⊎ (blobs ≢ [])

-- after an event, with which these actions end, a call sends requests for rows and then for blobs. Where its rows are done with, it
-- makes no further step at a site, and reads alone unless its own value is chosen. Where the event is of a row request, each site that is due to be read was asked again, or is out, also
-- where the call ends; or all sites go out.
pub record IsTurn (c : Config) (ms : List Action) (first : ℕ) (turn : Turn) (closing : List Action) : Type 0 where
  pub rows : List Out
  pub blobs : List Out
  pub sends : turn.send ≡ rows ++ blobs
  pub about_rows : AreRowRequests rows
  pub about_blobs : AreBlobsRising 0 blobs
  pub ends : IsDone turn.answer closing → MakeNoStep rows
  pub alone : IsUnplaced turn.answer blobs → ReadAlone rows
  pub reads : IsOfRow ms → (closing ≡ GaveIn ∷ []) ⊎ AreAskedAgain c (sent_from first turn.send ms)
