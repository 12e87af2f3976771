-- The kinds of records by their numbers, the order of their tables.
use Rattle.std.specs.Prelude.{ℕ}
use Rattle.store.specs.declared.Kind.{Kind}
use Rattle.store.specs.declared.Kind.TheVariants.{Lane, Boundary, StopLine, Signal, Crosswalk, Rule}

abbrev pub kind_number : Kind → ℕ
kind_number Lane = 0
kind_number Boundary = 1
kind_number StopLine = 2
kind_number Signal = 3
kind_number Crosswalk = 4
kind_number Rule = 5
