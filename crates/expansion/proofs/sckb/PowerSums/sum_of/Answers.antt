-- `expansion::sckb::PowerSums::sum_of` meets its contract. Assumes nothing.
use Prim.Native.Nat.{suc, ◌+◌, ◌-◌}
use mathlib.Core.Path.{◌≡◌, ◌∙◌}
use native.Mathlib.Omega.{arith}
use native.Mathlib.Numerals.{add-one}
use Rattle.expansion.specs.Sckb.{first_factor, sum_of}
use Rattle.expansion.proofs.sckb.PowerSums.sum_of.Goals as goal

pub returns : goal.returns
unfolding first_factor sum_of
returns c = let h : suc c.args.self.nm - (c.args.k + 1) ≡ c.args.self.nm - c.args.k = omega arith in
    c.sum_terms.ensures ∙ rw (h, add-one c.args.k, c.rise_by-r.ensures, c.rise-whole.ensures)
