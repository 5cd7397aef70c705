-- The arrays that the code holds, as the records of the definitions. Definitions only.
use Rattle.std.specs.Prelude.{List, Float, Ok}
use Rattle.segv.specs.declared.bisection.Bracket.{Bracket}
use Rattle.segv.specs.declared.ends.Ends.{Ends}
use Rattle.segv.specs.Families.{Families}

abbrev pub ends : List Float → List Float → Ends
ends us ls = record { uppers = us; lowers = ls }

-- both families, where no place was out of steps
abbrev pub families : List Bracket → List Bracket → Families
families even odd = record { even = Ok even; odd = Ok odd }
