-- `joining::cbk::RightSides::all` meets its contract. The invariant: the places that are left give what all give, and r1 holds the products for k. Assumes nothing.
use Prim.Native.Nat.{◌-◌, suc, ◌+◌}
use mathlib.Core.Path.{◌≡◌, ap, ◌∙◌}
use mathlib.Core.List.{List}
use native.Mathlib.Omega.{arith}
use native.Mathlib.Numerals.{add-one}
use native.Mathlib.Nat.{sub-zero}
use lib.Ieee.{Float, nan}
use lib.ListN.{length, get_or-replicate, length-replicate}
use Rattle.arith.specs.Double.{at, #1}
use Rattle.expansion.specs.Sums.{blank}
use Rattle.joining.specs.Cbk.{right_sides, r1_at, next_r1}
use Rattle.joining.proofs.Signed.{first_is}
use Rattle.joining.proofs.cbk.RightSides.all.Goals as goal

pub loop-k-init : goal.loop-k-init
unfolding blank r1_at
loop-k-init c = (
  ap length c.filled-r1.ensures ∙ length-replicate 200 #1,
  (λ i l g. ap (λ (xs : List Float). at xs i) c.filled-r1.ensures ∙ get_or-replicate 200 i #1 nan (omega (arith, c.args.self.small))),
  rw (sub-zero c.args.n2, c.filled-bk.ensures),
)

pub s1_from-p-requires : goal.s1_from-p-requires
s1_from-p-requires c = let f = first_is c.args.self.m c.loop-k.k in record { lo_bound = omega (arith, c.first_index.ensures, f); holds = λ i h g. c.loop-k.invariant.1 i (rw (← c.first_index.ensures) h) g }

pub advance-requires : goal.advance-requires
advance-requires c = let f = first_is c.args.self.m (c.loop-k.k + 1) in (c.loop-k.invariant.0, omega (arith, c.first_index-in-loop-k.ensures, f), omega (arith, c.first_index-in-loop-k.ensures, f))

pub loop-k-preserved : goal.loop-k-preserved
unfolding right_sides r1_at
loop-k-preserved c =
    let a = c.args in
    let s = a.self in
    let l = c.loop-k in
    let f = first_is s.m l.k in
    let g = first_is s.m (l.k + 1) in
    let h : a.n2 - l.k ≡ suc (a.n2 - suc l.k) = omega arith in (
      c.advance.ensures.r1_len,
      (λ i p q. rw (add-one l.k)
          (rw (add-one l.k) at (c.advance.ensures.by_index i (rw c.first_index-in-loop-k.ensures p) q) ∙ ap (next_r1 s.m i (suc l.k)) (l.invariant.1 i (omega (arith, f, g, p)) q))),
      rw (add-one l.k, c.s1_from-p.ensures, c.first_index.ensures) (rw h at l.invariant.2),
    )

pub returns : goal.returns
unfolding right_sides
returns c = let h : c.args.n2 - c.loop-k.k ≡ 0 = omega arith in rw h at c.loop-k.invariant.2
