-- What each event keeps, the lines of a schedule keep.
use Rattle.std.proofs.Common.{ℕ, zero, suc, List, [], ◌∷◌, take, subst}
use Rattle.gz_world.specs.States.{State}
use Rattle.gz_world.specs.Steps.{WorldStep}
use Rattle.gz_world.specs.declared.events.ApplyError.{ApplyError}
use Rattle.gz_world.specs.declared.events.Event.{Event}
use Rattle.gz_world.specs.declared.events.Event.TheVariants as events
use Rattle.gz_lines.specs.declared.line.Line.{Line}
use Rattle.gz_lines.specs.declared.line.Line.TheVariants.{OpenSession, Begin, Deliver, Reply, GiveUp, Crash, Take, Settle, Drain}
use Rattle.gz_script.specs.Plays.{Happen, HappenInPart, taken, settled, SettlesTimes, Settles, SettlesInPart, drained, LineDoes, PlaysLine, PlaysLineInPart, Plays, PlaysInPart}

-- each event keeps it
abbrev pub IsKept : (State → Type 0) → Type 0
IsKept P = (old new : State) (event : Event) → WorldStep old event new → P old → P new

happen : (P : State → Type 0) → IsKept P → (es : List Event) (old new : State) → Happen es old new → P old → P new
happen P kept [] old new h p = subst P h p
happen P kept (event ∷ es) old new h p = happen P kept es h.0 new h.1.1 (kept old h.0 event h.1.0.step p)

part : (P : State → Type 0) → IsKept P → (error : ApplyError) (es : List Event) (old new : State) → HappenInPart error es old new → P old → P new
part P kept error es old new h p = happen P kept (take h.0 es) old new h.1.0 p

times : (P : State → Type 0) → IsKept P → (session : ℕ) (without : List ℕ) (k : ℕ) (old new : State) → SettlesTimes session without k old new → P old → P new
times P kept session without zero old new h p = subst P h p
times P kept session without (suc k) old new h p =
    happen P kept (settled without h.1.1.0 h.0) h.0 new h.1.1.1.1 (times P kept session without k old h.0 h.1.0 p)

settles : (P : State → Type 0) → IsKept P → (session : ℕ) (without : List ℕ) (old new : State) → Settles session without old new → P old → P new
settles P kept session without old new h p = times P kept session without h.0 old new h.1.1.0 p

settles_part : (P : State → Type 0) → IsKept P → (error : ApplyError) (session : ℕ) (without : List ℕ) (old new : State) → SettlesInPart error session without old new → P old → P new
settles_part P kept error session without old new h p =
    part P kept error (settled without h.1.1.1.1.0 h.1.1.0) h.1.1.0 new h.1.1.1.1.1.1 (times P kept session without h.0 old h.1.1.0 h.1.1.1.0 p)

-- what holds of the events of lines and of what settles holds of a line
pub line_does : (R : State → State → Type 0) (Events : List Event → State → State → Type 0) (Settling : ℕ → List ℕ → State → State → Type 0)
    → ((es : List Event) (old new : State) → Events es old new → R old new)
    → ((session : ℕ) (without : List ℕ) (old new : State) → Settling session without old new → R old new)
    → (line : Line) (old new : State) → LineDoes Events Settling line old new → R old new
line_does R Events Settling e s OpenSession old new h = e (events.OpenSession ∷ []) old new h
line_does R Events Settling e s (Begin session call) old new h = e (events.Begin session call ∷ []) old new h
line_does R Events Settling e s (Deliver n) old new h = e (events.Deliver n ∷ []) old new h
line_does R Events Settling e s (Reply n which) old new h = e (events.Reply n which ∷ []) old new h
line_does R Events Settling e s (GiveUp n) old new h = e (events.GiveUp n ∷ []) old new h
line_does R Events Settling e s (Crash session) old new h = e (events.Crash session ∷ []) old new h
line_does R Events Settling e s (Take n) old new h = e (taken n old) old new h
line_does R Events Settling e s (Settle session without) old new h = s session without old new h
line_does R Events Settling e s (Drain session) old new h = e (drained session old) old new h

pub line_keeps : (P : State → Type 0) → IsKept P → (line : Line) (old new : State) → PlaysLine line old new → P old → P new
line_keeps P kept = line_does (λ old new. P old → P new) Happen Settles (happen P kept) (settles P kept)

line_part_keeps : (P : State → Type 0) → IsKept P → (error : ApplyError) (line : Line) (old new : State) → PlaysLineInPart error line old new → P old → P new
line_part_keeps P kept error = line_does (λ old new. P old → P new) (HappenInPart error) (SettlesInPart error) (part P kept error) (settles_part P kept error)

-- lines that were played
pub lines_keep : (P : State → Type 0) → IsKept P → (lines : List Line) (old new : State) → Plays lines old new → P old → P new
lines_keep P kept [] old new h p = subst P h p
lines_keep P kept (line ∷ lines) old new h p = lines_keep P kept lines h.0 new h.1.1 (line_keeps P kept line old h.0 h.1.0 p)

-- and lines that were broken off
pub lines_part_keep : (P : State → Type 0) → IsKept P → (error : ApplyError) (lines : List Line) (old new : State) → PlaysInPart error lines old new → P old → P new
lines_part_keep P kept error lines old new h p =
    line_part_keeps P kept error h.1.0 h.1.1.1.0 new h.1.1.1.1.1 (lines_keep P kept (take h.0 lines) old h.1.1.1.0 h.1.1.1.1.0 p)
