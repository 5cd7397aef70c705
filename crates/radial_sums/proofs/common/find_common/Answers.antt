-- `radial_sums::common::find_common` meets its contract. Assumes nothing.
use Rattle.radial_sums.specs.Common.{common}
use Rattle.radial_sums.proofs.common.find_common.Goals as goal

pub returns-clause-value : goal.returns-clause-value
unfolding common
returns-clause-value c =
    rw (c.rise-r0.ensures, c.expansion_partial-p.ensures, c.regulator-reg.ensures, c.first_terms-nm.ensures.value, c.offset.ensures.value, c.parity-ip.ensures.value, c.offset-half.ensures.value)
