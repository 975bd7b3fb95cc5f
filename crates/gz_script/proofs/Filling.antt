-- Lines that were broken off at an event that was refused leave a world that is full.
use Rattle.std.proofs.Common.{ℕ, List}
use Rattle.std.specs.Prelude.{Option, Some, None}
use Rattle.gz_site.specs.Told.{Told}
use Rattle.gz_world.specs.Bridge.{state_of}
use Rattle.gz_world.specs.Counting.{IsFull}
use Rattle.gz_world.specs.Fits.{IsFitting}
use Rattle.gz_world.specs.States.{State}
use Rattle.gz_world.specs.declared.events.ApplyError.TheVariants.{Full}
use Rattle.gz_world.specs.declared.events.Event.{Event}
use Rattle.gz_world.specs.declared.world.World.{World}
use Rattle.gz_lines.specs.declared.line.Line.{Line}
use Rattle.gz_script.specs.Plays.{TakesNone, BrokeOff, HappenInPart, SettlesInPart, PlaysInPart, ChangesBy}
use Rattle.gz_script.proofs.Keeping.{line_does}

refused : (next : Option Event) (s : State) → BrokeOff Full next s → TakesNone s
refused None s h = absurd h
refused (Some event) s h = h

part_fills : (es : List Event) (old new : State) → HappenInPart Full es old new → TakesNone new
part_fills es old new h = refused _ new h.1.1

settles_fill : (session : ℕ) (without : List ℕ) (old new : State) → SettlesInPart Full session without old new → TakesNone new
settles_fill session without old new h = part_fills _ h.1.1.0 new h.1.1.1.1.1.1

lines_fill : (lines : List Line) (old new : State) → PlaysInPart Full lines old new → TakesNone new
lines_fill lines old new h = line_does (λ old new. TakesNone new) (HappenInPart Full) (SettlesInPart Full) part_fills settles_fill h.1.0 h.1.1.1.0 new h.1.1.1.1.1

pub changes_fill : {S : Type 0} (told : S → Option Told) (lines : List Line) (old new : World S) → IsFitting old → ChangesBy told (PlaysInPart Full lines) old new → IsFull new
changes_fill told lines old new fits changes =
    let k = changes fits.0 fits.1 in
    lines_fill lines (state_of told fits.0 old) (state_of told k.0 new) k.1.1
