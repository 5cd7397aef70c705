-- The oblate radial function of the second kind, off the disc, where c x is not small (`rmn2l`), with the names of the source. j counts coefficients from 0: the source's k is j + 1. Definitions only.
use Rattle.std.specs.Prelude.{ℕ, zero, suc, ◌+◌, ◌-◌, ◌*◌, ◌/◌, ◌%◌, Bool, true, false, cond, ◌&&◌, ◌||◌, List, leb, Option, Some, None, ℤ, negsuc, Float}
use Rattle.std.specs.Int.Signed.{lt_z}
use Rattle.std.specs.Float.Ieee.{neg, lt}
use Rattle.arith.specs.Double.{◌⊕◌, ◌⊖◌, ◌⊗◌, ◌⊘◌, at, bits, #0, #1e-14}
use Rattle.arith.specs.Choice.{abs}
use Rattle.arith.specs.Truncation.{truncate}
use Rattle.logarithms.specs.Functions.{log10}
use Rattle.joining.specs.declared.sums.Test.TheVariants.{Product}
use Rattle.joining.specs.Sums.{stops}
use Rattle.bessel.specs.Sphy.{sy, dy, highest}
use Rattle.expansion.specs.declared.values.Pair.{Pair}
use Rattle.radial_sums.specs.declared.rmn2l.Reached.{Reached}
use Rattle.radial_sums.specs.BesselSums.{lg, factor}
use Rattle.radial_sums.specs.Common.{common}
use Rattle.radial_sums.specs.Rmn1.{joined}

-- ---- the sums over expansion coefficients df with Bessel functions bs, or with their derivatives

-- a sum, the sum remembered, by how much its last term changed it, and the order of that term
abbrev pub reached : Float → Float → Float → ℕ → Reached
reached sum sw eps np = record { sum = sum; sw = sw; eps = eps; np = np }

-- `left` more terms from that for j on. A sum that has settled is not remembered. The product stands in brackets, unlike that of `rmn1`
unfoldable pub large_on : List Float → List Float → ℕ → ℕ → ℕ → ℕ → ℕ → Float → Float → Float → Float → ℕ → Reached
large_on df bs m ip half zero j r sum sw eps np = reached sum sw eps np
large_on df bs m ip half (suc left) j r sum sw eps np =
    let r' = factor m ip j r in
    let np' = m + 2 * j + ip in
    let s = sum ⊕ lg half j ⊗ r' ⊗ (at df j ⊗ at bs np') in
    let eps' = abs (s ⊖ sw) in
    elim (stops Product half (j + 1) s sw) [ true ↦ reached s sw eps' np' | false ↦ large_on df bs m ip half left (suc j) r' s s eps' np' ]

-- all nm terms; sw is the sum remembered at first
abbrev pub large_sum : List Float → List Float → ℕ → ℕ → ℕ → ℕ → Float → Float → Reached
large_sum df bs m ip half nm r0 sw = large_on df bs m ip half nm 0 r0 #0 sw #0 0

-- 2 ^ 31 + 1 and 2 ^ 31
abbrev #2147483649 : Float
#2147483649 = bits 0x41e0_0000_0020_0000

abbrev #2147483648 : Float
#2147483648 = bits 0x41e0_0000_0000_0000

-- the source's `int_x86`: x truncated, and the least whole number of 32 bits where x is NaN or beyond them
unfoldable pub int_x86 : Float → ℤ
int_x86 x = cond (lt (neg #2147483649) x && lt x #2147483648) (truncate x) (negsuc 2147483647)

-- digits are lost where the source's id is above −1, the decimal logarithm of what the last term changed
unfoldable pub lost : Float → Float → Bool
lost sum eps = lt_z (negsuc 0) (int_x86 (log10 (eps ⊘ abs sum ⊕ #1e-14)))

-- ---- the second kind at x. The sum remembered is carried from the sum over the coefficients alone into that of the values, and from there into that of the derivatives
-- none where the orders known do not go past that of the last value, or digits of either sum are lost
unfoldable pub rmn2l : List Float → ℕ → ℕ → Float → Float → Option Pair
rmn2l df m n c x =
    let s = common df m n c in
    let ip = (n - m) % 2 in
    let half = (n - m) / 2 in
    let cx = c ⊗ x in
    let nm2 = 2 * s.nm + m in
    let f = large_sum df (sy cx nm2) m ip half s.nm s.r0 s.sw in
    let d = large_sum df (dy cx nm2) m ip half s.nm s.r0 f.sw in
    cond (leb (highest cx nm2) f.np || lost f.sum f.eps || lost d.sum d.eps) None (Some (joined m c x s.suc f.sum d.sum))
