use Rattle.gz_lanes.specs.Lanes.{AreTables}
use Rattle.gz_lanes.proofs.rows.tables_of.Given as goal

abbrev pub invariant-loop-coefficient : goal.invariant-loop-coefficient
invariant-loop-coefficient l = AreTables l.coefficients l.tables.items l.coefficient-index
