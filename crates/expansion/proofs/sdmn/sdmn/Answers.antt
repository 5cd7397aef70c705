-- `expansion::sdmn::sdmn` meets its contract. Assumes nothing.
use mathlib.Core.Path.{◌∙◌}
use Rattle.expansion.specs.Sums.{blank}
use Rattle.expansion.specs.Sdmn as Sdmn
use Rattle.expansion.specs.Sdmn.{recurrence_of}
use Rattle.expansion.proofs.sdmn.sdmn.Goals as goal

pub returns-then-mode : goal.returns-then-mode
unfolding Sdmn.sdmn blank
returns-then-mode c = rw (c.if-mode.true, c.filled-df.ensures, c.offset.ensures.value)

pub returns : goal.returns
unfolding Sdmn.sdmn recurrence_of
returns c = rw c.if-mode.false (c.expand.ensures ∙ rw (c.terms.ensures.value, c.parity.ensures.value))
