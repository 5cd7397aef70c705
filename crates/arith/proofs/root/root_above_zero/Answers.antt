-- `arith::root::root_above_zero` meets its contract: `proofs/root/Pack.antt` for the bits of x, and `proofs/root/Radicand.antt` for the result. Assumes nothing.
use Rattle.std.proofs.Common.{◌≡◌, ℕ, ◌+◌, ◌-◌, ◌*◌, ◌/◌, ◌^◌, ◌<◌, ◌≤◌, T, sym, ap, ◌∙◌, subst, arith}
use lib.Ieee.{binary64, fits, of_bits}
use Rattle.arith.specs.Root.{nearest_root}
use Rattle.arith.proofs.root.Cases.{positive_number}
use Rattle.arith.proofs.root.Pack.{bits_pos, bits_finite, finite_bits}
use Rattle.arith.proofs.root.Radicand.{part, part_in, part_fits, result_le, result_is}
use Rattle.arith.proofs.root.root_above_zero.Goals as goal
use Rattle.arith.proofs.root.root_above_zero.Goals.{After-nearest_root-r, Start}

held : (c : Start) → T (fits binary64 c.args.x)
held c = subst T (sym c.well_formed.0.1) tt

-- what `nearest_root` returned
is : (c : After-nearest_root-r) → c.nearest_root-r.result ≡ nearest_root (part c.scale-s.result.m c.scale-s.result.e * 2 ^ 52) 1
is c =
    let s = c.scale-s in
    c.nearest_root-r.ensures ∙ ap (λ (w : ℕ). nearest_root (w * 2 ^ 52) 1) (part_fits s.result.m s.result.e s.ensures.scaled.least s.ensures.scaled.most)

most : (c : After-nearest_root-r) → c.nearest_root-r.result ≤ 2 ^ 53
most c =
    let s = c.scale-s in
    let a = c.before.before in
    rw (is c) (result_le a.args.x (held a.before.before) a.requires s.result.m s.result.e s.ensures.scaled)

pattern_lt : (c : After-nearest_root-r) → (c.scale-s.result.e - 52) / 2 * 2 ^ 52 + c.nearest_root-r.result < 2047 * 2 ^ 52
pattern_lt c = omega (arith, most c, c.scale-s.ensures.scaled.upto)

pub float_to_bits-x : goal.float_to_bits-x
float_to_bits-x c = positive_number c.args.x c.requires

pub scale-s-requires : goal.scale-s-requires
scale-s-requires c = (bits_pos c.args.x (held c) c.requires, bits_finite c.args.x (held c) c.requires)

pub nearest_root-r-requires : goal.nearest_root-r-requires
nearest_root-r-requires c =
    let s = c.scale-s.ensures.scaled in
    rw (part_fits c.scale-s.result.m c.scale-s.result.e s.least s.most) (part_in c.scale-s.result.m c.scale-s.result.e s.least s.most)

pub overflow_add-result : goal.overflow_add-result
overflow_add-result c = omega (arith, pattern_lt c.before)

pub float_from_bits-result : goal.float_from_bits-result
float_from_bits-result c = finite_bits ((c.scale-s.result.e - 52) / 2 * 2 ^ 52 + c.nearest_root-r.result) (pattern_lt c.before)

pub returns : goal.returns
returns c =
    let n = c.before in
    let s = n.scale-s in
    let a = n.before.before in
    ap (λ (r : ℕ). of_bits binary64 ((s.result.e - 52) / 2 * 2 ^ 52 + r)) (is n)
    ∙ result_is a.args.x (held a.before.before) a.requires s.result.m s.result.e s.ensures.scaled
