use Rattle.std.proofs.Common.{◌≡◌, ◌++◌, take}
use Rattle.std.specs.Prelude.{flat_map}
use Rattle.gz_history.specs.Log.{line_text}
use Rattle.gz_history.proofs.log.put_lines.Given as goal

abbrev pub invariant-loop-call : goal.invariant-loop-call
invariant-loop-call l = l.text ≡ l.fn.text ++ flat_map line_text (take l.call-index l.calls)
