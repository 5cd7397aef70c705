-- `requests::checking::Mode::refusal` meets its contract. Assumes nothing.
use mathlib.Core.Path.{sym, ◌∙◌}
use Rattle.requests.proofs.Laws as laws
use Rattle.requests.proofs.checking.Mode.refusal.Goals as goal

pub h-requires : goal.h-requires
h-requires c = (laws.ranges c.args.self (sym c.out_of_range.ensures ∙ c.if-out_of_range.false)).1
