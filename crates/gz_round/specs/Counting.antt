-- The counts of a call by which it ends: how many sites are out, how many are known, and how often it was overtaken.
use Rattle.std.specs.Prelude.{ℕ, false, true, ◌≡◌, ◌≤◌, ◌<◌, ◌+◌, ◌⊎◌, List, [], ◌∷◌, Some, is_some}
use Rattle.gz_core.specs.Counts.{count_sites}
use Rattle.gz_core.specs.Calls.{key_of}
use Rattle.gz_core.specs.declared.values.Value.{Value}
use Rattle.gz_config.specs.declared.Config.{Config}
use Rattle.gz_core.specs.declared.requests.RowStep.TheVariants.{Decide}
use Rattle.gz_core.specs.declared.requests.Op.{Op}
use Rattle.gz_core.specs.declared.requests.Op.TheVariants.{WriteRow}
use Rattle.gz_accept.specs.declared.answers.Step.TheVariants.{Done}
use Rattle.gz_accept.specs.Steps.{decide_answer, decided}
use Rattle.gz_core.specs.History.{Asked, Action, Sent, Caller, is_row_request}
use Rattle.gz_round.specs.declared.hearing.Seen.{Seen}
use Rattle.gz_round.specs.Sites.{site_now, known}
use Rattle.gz_round.specs.Sent.{met}

-- how many sites are out
abbrev pub outs : Config → List Action → ℕ
outs c ms = count_sites c.n (λ s. (site_now ms s).out)

-- how many sites are known: a row was heard there, and they aren't out
abbrev pub known_count : Config → List Action → ℕ
known_count c ms = count_sites c.n (λ s. is_some (known (site_now ms s)))

-- a call goes on while it was overtaken less often than it tries, and a classic quorum of sites isn't out
pub record IsGoing (c : Config) (ms : List Action) : Type 0 where
  pub few : met ms < c.tries
  pub enough : outs c ms + c.qc ≤ c.n

-- the call sent this request
abbrev pub WasSent : List Action → Asked → Type 0
WasSent [] a = ⊥
WasSent (m ∷ ms) a = (m ≡ Sent a) ⊎ WasSent ms a

-- a request that nobody awaits was sent to a site
abbrev pub HasNotice : List Action → ℕ → Op → Type 0
HasNotice ms s op = (number : ℕ) × WasSent ms (record { number = number; site = s; op = op; awaited = false })

-- no notice was sent to the site: no request for its row that nobody awaits
abbrev pub IsUntold : List Action → ℕ → Type 0
IsUntold ms s = (op : Op) → is_row_request op ≡ true → HasNotice ms s op → ⊥

-- nor to any
abbrev pub IsUnnoticed : List Action → Type 0
IsUnnoticed ms = (s : ℕ) → IsUntold ms s

-- the call sent every site that can take it notice that its value is chosen: each one that isn't out, of which it heard a
-- row, and that has answered all that is awaited of it, where the last row that it heard there takes the decision
abbrev pub IsNoticed : Config → Caller → List Action → ℕ → Type 0
IsNoticed c w ms v = (s : ℕ) → s < c.n → (site_now ms s).out ≡ false → (site_now ms s).unanswered ≡ false →
    (seen : Seen) → (site_now ms s).row ≡ Some seen → (x : Value) → w.own ≡ Some x → decide_answer seen.row v ≡ Done →
    HasNotice ms s (WriteRow (key_of w.call) seen.etag (Decide v x) (decided seen.row v x))
