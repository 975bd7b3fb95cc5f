-- What is reached stays reached while lines are played.
use Rattle.std.specs.Prelude.{Option}
use Rattle.gz_site.specs.Told.{Told}
use Rattle.gz_world.specs.Bridge.{state_of}
use Rattle.gz_world.specs.Reached.{IsReached, stepped}
use Rattle.gz_world.specs.States.{State}
use Rattle.gz_world.specs.Told.{IsReachedBy}
use Rattle.gz_world.specs.declared.world.World.{World}
use Rattle.gz_script.specs.Plays.{ChangesBy}
use Rattle.gz_script.proofs.Keeping.{IsKept}

-- each event
pub step_reaches : IsKept IsReached
step_reaches = λ old new event step reached. stepped old new event reached step

-- a world that changes so
pub changes_reached : {S : Type 0} (told : S → Option Told) (Change : State → State → Type 0) (old new : World S) → ((x y : State) → Change x y → IsReached x → IsReached y)
    → ChangesBy told Change old new → IsReachedBy told old → IsReachedBy told new
changes_reached told Change old new keeps a r =
    let p = a r.0 r.1.0 in
    (p.0, (p.1.0, keeps (state_of told r.0 old) (state_of told p.0 new) p.1.1 r.1.1))
