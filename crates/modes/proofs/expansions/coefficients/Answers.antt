-- `modes::expansions::coefficients` meets its contract. Assumes nothing.
use mathlib.Core.Path.{ap, ◌∙◌}
use native.Mathlib.Omega.{arith}
use lib.ListN.{length, length-take}
use Rattle.expansion.proofs.Lengths.{sdmn_length}
use Rattle.modes.proofs.expansions.coefficients.Goals as goal

pub copy_from_slice-requires : goal.copy_from_slice-requires
copy_from_slice-requires c =
    let l = length-take 200 c.args.out.now in
    let s = ap length c.sdmn-df.ensures ∙ sdmn_length _ _ _ _ _ in
    let h = c.if-out-lt200.false in
    omega arith
