-- `fixed::unpack` meets its contract. Assumes nothing.
use mathlib.Core.Path.{sym, subst}
use mathlib.Core.Bool.{false}
use Prim.Native.Nat.{◌*◌, ◌^◌}
use lib.Dec.{T}
use lib.Ieee.{Float, binary64, fits}
use lib.Ieee.Bits.{of_bits-to_bits}
use lib.Ieee.Exact.{HasValue}
use lib.Ieee.Positive.{value→cross}
use Rattle.arith.proofs.Laws.{number_above_zero, bits_above_zero, bits_below_infinity}
use Rattle.circle.specs.Inside.FixedValues.{unpacked}
use Rattle.circle.proofs.fixed.unpack.Goals as goal
use Rattle.circle.proofs.fixed.unpack.Goals.{Start}

held : (c : Start) → T (fits binary64 c.args.x)
held c = subst T (sym c.well_formed.0.1) tt

pub float_to_bits-x : goal.float_to_bits-x
float_to_bits-x c = number_above_zero c.args.x c.requires

pub scale-requires : goal.scale-requires
scale-requires c = (bits_above_zero c.args.x (held c) c.requires, bits_below_infinity c.args.x (held c) c.requires)

pub returns : goal.returns
unfolding unpacked
returns c =
    let x = c.args.x in
    let s = c.scale.ensures.scaled in
    let m = c.scale.result.m in
    let e = c.scale.result.e in record {
      unpacked = record {
        least = s.least;
        most = s.most;
        from = s.from;
        upto = s.upto;
        value = value→cross x (m * 2 ^ e) (2 ^ 1074 * 2 ^ 1074) (subst (λ (z : Float). HasValue z false (m * 2 ^ e) (2 ^ 1074 * 2 ^ 1074)) (of_bits-to_bits binary64 x (held c.before)) s.value);
      };
      value = c.scale.ensures.value;
    }
