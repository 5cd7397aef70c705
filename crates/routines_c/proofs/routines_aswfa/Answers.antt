-- `routines_c::routines_aswfa` meets its contract. Assumes nothing.
use mathlib.Core.Path.{ap}
use Rattle.expansion.specs.declared.values.Pair.{Pair}
use Rattle.routines_c.proofs.routines_aswfa.Goals as goal

pub returns : goal.returns
returns c = record { value_after = ap (λ (p : Pair). p.value) c.aswfa-p.ensures; derivative_after = ap (λ (p : Pair). p.derivative) c.aswfa-p.ensures }
