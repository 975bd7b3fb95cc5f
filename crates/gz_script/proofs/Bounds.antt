-- A call that keeps to the bounds of a schedule's lines may begin.
use Rattle.gz_core.specs.declared.calls.Call.{Call}
use Rattle.gz_core.specs.declared.calls.Call.TheVariants.{Put, Delete, Get, GetAt, Collect}
use Rattle.gz_lines.specs.Schedule.{IsBoundedCall}
use Rattle.gz_round.specs.Starting.{IsWithin}

pub bounded_within : (call : Call) → IsBoundedCall call → IsWithin call
bounded_within (Put key bytes) h = h
bounded_within (Delete key) h = tt
bounded_within (Get key) h = tt
bounded_within (GetAt key version) h = h.0
bounded_within (Collect key keep) h = h
