-- Why an event is skipped: the first reason that holds.
use Rattle.std.specs.Prelude.{ℕ, ◌==◌, ◌&&◌, ◌||◌, Bool, false, not, nat_lt, nat_le, if◌then◌else◌, List, [], ◌∷◌, length, Option, Some, None, is_some, is_none}
use Rattle.gz_config.specs.declared.Config.{Config}
use Rattle.gz_core.specs.History.{Trace}
use Rattle.gz_client.specs.Lowest.{live}
use Rattle.gz_world.specs.States.{State, RequestAt, numbered}
use Rattle.gz_world.specs.declared.events.Event.{Event}
use Rattle.gz_world.specs.declared.events.Event.TheVariants as events
use Rattle.gz_world.specs.declared.events.Skip.{Skip}
use Rattle.gz_world.specs.declared.events.Skip.TheVariants as skips

-- whether a session was opened
abbrev pub is_open : ℕ → ℕ → Bool
is_open sessions session = nat_le 1 session && nat_le session sessions

-- whether the last call of a session runs
abbrev pub is_running : List Trace → Bool
is_running [] = false
is_running (t ∷ ts) = is_none t.answer

-- whether the running call of a session awaits the n-th request
abbrev pub is_live : Config → List Trace → ℕ → Bool
is_live c ts n = nat_lt 0 (live c (λ m. m == n) ts)

-- a session that is named does something only while it is open and hasn't crashed
abbrev pub session_refusal : ℕ → (ℕ → Bool) → ℕ → Option Skip
session_refusal sessions crashed session = if not (is_open sessions session) then Some skips.NoSession else (if crashed session then Some skips.Crashed else None)

-- the client of a request learns of it only while its session hasn't crashed and the request is live
abbrev pub request_refusal : State → ℕ → Option RequestAt → Option Skip
request_refusal s n None = Some skips.NoRequest
request_refusal s n (Some r) =
    if s.crashed r.name.session then Some skips.Crashed
    else (if is_some r.given_up then Some skips.GivenUp
    else (if not (is_live s.cfg (s.traces r.name.session) n) then Some skips.NotLive else None))

-- of the replies of a request, which are counted from 1, one must have been named
abbrev pub reply_refusal : ℕ → Option RequestAt → Option Skip
reply_refusal which None = None
reply_refusal which (Some r) = if (which == 0) || nat_lt (length r.replies) which then Some skips.NoReply else None

abbrev pub or_next_skip : Option Skip → Option Skip → Option Skip
or_next_skip None later = later
or_next_skip (Some why) later = Some why

-- the first reason for which an event is skipped
abbrev pub refusal_of : State → Event → Option Skip
refusal_of s events.OpenSession = None
refusal_of s (events.Begin session call) = or_next_skip (session_refusal s.sessions s.crashed session) (if is_running (s.traces session) then Some skips.Busy else None)
refusal_of s (events.Deliver n) = if is_none (numbered s.net n) then Some skips.NoRequest else None
refusal_of s (events.Reply n which) = or_next_skip (request_refusal s n (numbered s.net n)) (reply_refusal which (numbered s.net n))
refusal_of s (events.GiveUp n) = request_refusal s n (numbered s.net n)
refusal_of s (events.Crash session) = session_refusal s.sessions s.crashed session
