-- What `rmn1` off the disc and `rmn2l` share, with the names of the source. Definitions only.
use Rattle.std.specs.Prelude.{ℕ, ◌+◌, ◌-◌, ◌*◌, ◌/◌, ◌%◌, List, Float}
use Rattle.expansion.specs.Products.{rising}
use Rattle.expansion.specs.Sckb.{regulator}
use Rattle.joining.specs.declared.sums.Test.TheVariants.{Product}
use Rattle.joining.specs.Sums.{expansion_partial}
use Rattle.radial_sums.specs.declared.common.Common.{Common}
use Rattle.radial_sums.specs.Limits.{first_terms}

-- how many terms the sums with Bessel functions have, nm, the factor of the first one, r0, and the sum over the expansion coefficients alone, suc, with the sum remembered, sw
unfoldable pub common : List Float → ℕ → ℕ → Float → Common
common df m n c =
    let ip = (n - m) % 2 in
    let nm = first_terms (n - m) c in
    let reg = regulator m nm in
    let p = expansion_partial Product df m ip ((n - m) / 2) nm reg in
    record { nm = nm; r0 = rising reg 1 (2 * m + ip); suc = p.sum; sw = p.sw }
