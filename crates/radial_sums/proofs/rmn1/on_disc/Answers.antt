-- `radial_sums::rmn1::on_disc` meets its contract. Assumes nothing.
use mathlib.Core.Path.{◌∙◌}
use Rattle.radial_sums.specs.Rmn1 as Rmn1
use Rattle.radial_sums.proofs.rmn1.on_disc.Goals as goal

pub returns : goal.returns
unfolding Rmn1.on_disc
returns c = c.placed.ensures ∙ rw (c.sa0_above.ensures, c.sa0_below-below.ensures, c.r2_of.ensures, c.powers_sum-sum.ensures, c.expansion_sum-df_sum.ensures, c.regulator-reg.ensures, c.first_terms-nm.ensures.value, c.offset.ensures.value, c.parity-ip.ensures.value, c.offset-half.ensures.value)
