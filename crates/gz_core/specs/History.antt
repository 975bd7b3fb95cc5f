-- What a session's calls have sent and were handed: the record over which a client's promises are stated.
use Rattle.std.specs.Prelude.{ℕ, Bool, true, false, ◌≡◌, ◌+◌, ◌⊎◌, List, [], ◌∷◌, ◌++◌, length, Option}
use Rattle.gz_core.specs.Names.{Name}
use Rattle.gz_core.specs.declared.calls.Call.{Call}
use Rattle.gz_core.specs.declared.calls.Answer.{Answer}
use Rattle.gz_core.specs.declared.values.Value.{Value}
use Rattle.gz_core.specs.declared.requests.Op.{Op}
use Rattle.gz_core.specs.declared.requests.Op.TheVariants.{ReadRow, WriteRow}
use Rattle.gz_core.specs.declared.requests.Out.{Out}
use Rattle.gz_core.specs.declared.requests.Reply.{Reply}
use Rattle.gz_core.specs.declared.requests.Turn.{Turn}

-- a request, as it was sent
pub record Asked : Type 0 where
  pub number : ℕ
  pub site : ℕ
  pub op : Op
  pub awaited : Bool

-- what happens to a call: it sends a request, is handed a reply of one, or gives one up; it lets its row requests
-- rest, so that none is awaited any more; or its phase can go no further, and every site goes out
pub data Action : Type 0 where
  Sent : Asked → Action
  Handed : Asked → Reply → Action
  GaveUp : Asked → Action
  Rested : Action
  GaveIn : Action

-- what had happened to a call before, or up to now
abbrev pub IsEarlier : List Action → List Action → Type 0
IsEarlier start [] = start ≡ []
IsEarlier start (m ∷ ms) = (start ≡ m ∷ ms) ⊎ IsEarlier start ms

-- whose call it is, and the value that it writes, if it writes one
pub record Caller : Type 0 where
  pub name : Name
  pub call : Call
  pub own : Option Value

-- one call: what happened to it, newest first, and its answer once it has one
pub record Trace : Type 0 where
  pub caller : Caller
  pub actions : List Action
  pub answer : Option Answer

-- whether a request is about a row
abbrev pub is_row_request : Op → Bool
is_row_request (ReadRow key) = true
is_row_request (WriteRow key expect step row) = true
is_row_request op = false

-- the request that goes out under a number
abbrev pub asked_of : ℕ → Out → Asked
asked_of number out = record { number = number; site = out.site; op = out.op; awaited = out.awaited }

-- the requests of one event are sent in their order, under rising numbers from `first` on
abbrev pub sent_from : ℕ → List Out → List Action → List Action
sent_from first [] ms = ms
sent_from first (out ∷ outs) ms = sent_from (first + 1) outs (Sent (asked_of first out) ∷ ms)

-- how an event may close: by nothing more, or by every site going out
abbrev pub IsClosing : List Action → Type 0
IsClosing ms = (ms ≡ []) ⊎ (ms ≡ GaveIn ∷ [])

-- the trace of a call that begins, after the earlier ones of its session
abbrev pub begun : ℕ → Call → Option Value → ℕ → Turn → List Trace → Trace
begun session call own first turn earlier = record {
  caller = record { name = record { session = session; seq = length earlier + 1 }; call = call; own = own };
  actions = sent_from first turn.send [];
  answer = turn.answer;
}

-- the trace of a running call after one more event: an action, what is sent at it, and how the event closes
abbrev pub turned : ℕ → Turn → Action → List Action → Trace → Trace
turned first turn action closing trace = record {
  caller = trace.caller;
  actions = closing ++ sent_from first turn.send (action ∷ trace.actions);
  answer = turn.answer;
}
