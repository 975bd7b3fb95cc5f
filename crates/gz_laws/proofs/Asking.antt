-- What a call asks of rows: requests for blobs have rules of their own.
use Rattle.std.proofs.Common.{◌≡◌, true, List}
use Rattle.gz_config.specs.declared.Config.{Config}
use Rattle.gz_core.specs.declared.requests.Op.{Op}
use Rattle.gz_core.specs.History.{Asked, Action, Sent, Caller, Trace, is_row_request}
use Rattle.gz_round.specs.Sending.{MayAsk, IsAllowed}
use Rattle.gz_round.specs.Sites.{SiteNow, site_now}

-- a row request is one that the call may send
abbrev pub MayAskRow : Config → Caller → List Trace → List Action → SiteNow → Op → Type 0
MayAskRow c w past ms now op = is_row_request op ≡ true → MayAsk c w past ms now op

pub row_asked : (c : Config) (w : Caller) (past : List Trace) (ms : List Action) (a : Asked) → IsAllowed c w past ms (Sent a) → MayAskRow c w past ms (site_now ms a.site) a.op
row_asked c w past ms a may = λ row. (may row).asks
