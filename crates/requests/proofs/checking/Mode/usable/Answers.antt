-- `requests::checking::Mode::usable` meets its contract. Assumes nothing.
use mathlib.Core.Path.{sym}
use Rattle.requests.proofs.Laws as laws
use Rattle.requests.proofs.checking.Mode.usable.Goals as goal

pub invariant_of-result : goal.invariant_of-result
invariant_of-result c = record { usable = laws.usable c.args.self (sym c.in_ok-refusal.ensures) }
