-- What holds of each trace.
use Rattle.std.specs.Prelude.{List, [], ◌∷◌}
use Rattle.gz_core.specs.History.{Trace}

abbrev pub EachTrace : (Trace → Type 0) → List Trace → Type 0
EachTrace P [] = Unit {0}
EachTrace P (t ∷ ts) = P t × EachTrace P ts
