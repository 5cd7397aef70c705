-- `segv::families::blank_brackets` meets its contract. Assumes nothing.
use mathlib.Core.Path.{refl}
use Rattle.segv.specs.Families.{blank_bracket}
use Rattle.segv.proofs.families.blank_brackets.Goals as goal

pub returns : goal.returns
unfolding blank_bracket
returns c = refl
