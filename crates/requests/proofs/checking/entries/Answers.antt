-- `requests::checking::entries` meets its contract: H is below 291, and so is its whole part. Assumes nothing.
use native.Mathlib.Omega.{arith}
use Rattle.requests.specs.Refusals.{entries_of}
use Rattle.requests.proofs.Laws as laws
use Rattle.requests.proofs.checking.entries.Goals as goal

pub h-requires : goal.h-requires
h-requires c = (laws.accepted c.args.mode c.requires).rising

pub overflow_add-result : goal.overflow_add-result
overflow_add-result c = let few = laws.whole_few c.args.mode c.requires in rw (c.whole_part.ensures, c.h.ensures) (omega (arith, few))

pub returns : goal.returns
unfolding entries_of
returns c = rw (c.whole_part.ensures, c.h.ensures)
