-- The world as a plain state: what the sites tell, what each session has done, and all that was recorded.
use Rattle.std.specs.Prelude.{ℕ, ◌+◌, ◌-◌, ◌==◌, Bool, if◌then◌else◌, List, [], ◌∷◌, ◌++◌, length, map, Option, Some, None, slice_get}
use Rattle.gz_core.specs.Names.{Name}
use Rattle.gz_core.specs.declared.calls.Answer.{Answer}
use Rattle.gz_config.specs.declared.Config.{Config}
use Rattle.gz_core.specs.declared.requests.Op.{Op}
use Rattle.gz_core.specs.declared.requests.Out.{Out}
use Rattle.gz_core.specs.declared.requests.Reply.{Reply}
use Rattle.gz_core.specs.History.{Trace}
use Rattle.gz_site.specs.Told.{Told}
use Rattle.gz_history.specs.declared.record.CallRec.{CallRec}
use Rattle.gz_model.specs.declared.casts.Cast.{Cast}
use Rattle.gz_world.specs.declared.events.Entry.{Entry}
use Rattle.gz_world.specs.declared.requests.Request.{Request}

-- a request: whose it is, what it asks and of which site, and what became of it, each with its tick
pub record RequestAt : Type 0 where
  pub name : Name
  pub site : ℕ
  pub op : Op
  pub awaited : Bool
  pub tick : ℕ
  pub replies : List (ℕ × Reply)
  pub handed : Option (ℕ × ℕ)
  pub given_up : Option ℕ

abbrev pub request_of : Request → RequestAt
request_of r = record {
  name = r.name;
  site = r.site;
  op = r.op;
  awaited = r.awaited;
  tick = r.tick;
  replies = r.replies.items;
  handed = r.handed;
  given_up = r.given_up;
}

-- the world: sites by their places, sessions by their numbers with the traces of their calls, newest first, and the
-- lists of what was recorded
pub record State : Type 0 where
  pub cfg : Config
  pub sites : ℕ → Option Told
  pub sessions : ℕ
  pub crashed : ℕ → Bool
  pub traces : ℕ → List Trace
  pub net : List RequestAt
  pub journal : List Entry
  pub casts : List Cast
  pub calls : List CallRec
  pub held : ℕ

-- the tick of the next event
abbrev pub tick_of : State → ℕ
tick_of s = length s.journal + 1

-- the number of the next request
abbrev pub next_of : State → ℕ
next_of s = length s.net + 1

-- the element with a number, counted from 1
abbrev pub numbered : {A : Type 0} → List A → ℕ → Option A
numbered xs n = if n == 0 then None else slice_get xs (n - 1)

-- the traces with those of one session changed
abbrev pub with_traces : (ℕ → List Trace) → ℕ → List Trace → ℕ → List Trace
with_traces traces session ts n = if n == session then ts else traces n

-- a request with one more reply, with a reply handed, or given up, at a tick
abbrev pub with_reply : ℕ → Reply → RequestAt → RequestAt
with_reply tick reply r = record {
  name = r.name;
  site = r.site;
  op = r.op;
  awaited = r.awaited;
  tick = r.tick;
  replies = r.replies ++ (tick, reply) ∷ [];
  handed = r.handed;
  given_up = r.given_up;
}

abbrev pub with_handed : ℕ → ℕ → RequestAt → RequestAt
with_handed tick which r = record {
  name = r.name;
  site = r.site;
  op = r.op;
  awaited = r.awaited;
  tick = r.tick;
  replies = r.replies;
  handed = Some (tick, which);
  given_up = r.given_up;
}

abbrev pub with_given_up : ℕ → RequestAt → RequestAt
with_given_up tick r = record {
  name = r.name;
  site = r.site;
  op = r.op;
  awaited = r.awaited;
  tick = r.tick;
  replies = r.replies;
  handed = r.handed;
  given_up = Some tick;
}

-- the requests that a call sends at a tick
abbrev pub sent_request : Name → ℕ → Out → RequestAt
sent_request name tick out = record {
  name = name;
  site = out.site;
  op = out.op;
  awaited = out.awaited;
  tick = tick;
  replies = [];
  handed = None;
  given_up = None;
}

abbrev pub sent_requests : Name → ℕ → List Out → List RequestAt
sent_requests name tick outs = map (sent_request name tick) outs

-- the end of a call at a tick, where it has an answer
abbrev pub end_at : ℕ → Option Answer → Option ℕ
end_at tick None = None
end_at tick (Some answer) = Some tick
