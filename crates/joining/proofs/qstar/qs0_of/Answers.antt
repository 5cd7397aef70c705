-- `joining::qstar::qs0_of` meets its contract. The invariant: the sum has the terms below l, and r is the product of the last one. Assumes nothing.
use Prim.Native.Nat.{ℕ, suc, ◌+◌, ◌-◌}
use mathlib.Core.Path.{◌≡◌, refl}
use mathlib.Core.List.{List}
use native.Mathlib.Omega.{arith}
use lib.Ieee.{Float}
use Rattle.arith.specs.Double.{◌⊕◌, ◌⊗◌, at}
use Rattle.joining.specs.Qstar.{next_product, product_of, qs0_at}
use Rattle.joining.proofs.qstar.qs0_of.Goals as goal

module _ (ap : List Float) (m ip l k : ℕ) (e : l ≡ suc k) (r r' : Float) (hr : r ≡ product_of ip k) (is : r' ≡ next_product ip l r) where
  product_more : r' ≡ product_of ip l
  unfolding product_of
  product_more = rw (is, hr, e)

  sum_more : (s : Float) → s ≡ qs0_at ap m ip k → s ⊕ at ap (m - l) ⊗ r' ≡ qs0_at ap m ip l
  unfolding qs0_at product_of
  sum_more s h = rw (is, hr, h, e)

pub loop-l-init : goal.loop-l-init
unfolding product_of qs0_at
loop-l-init c = (refl, refl)

pub loop-l-preserved : goal.loop-l-preserved
loop-l-preserved c =
    let l = c.loop-l in
    let h : l.l + 1 - 1 ≡ l.l = omega arith in
    rw h (product_more c.args.ap.now c.args.m _ l.l (l.l - 1) (omega arith) _ _ l.invariant.0 c.next_product-r.ensures, sum_more _ _ _ l.l (l.l - 1) (omega arith) _ _ l.invariant.0 c.next_product-r.ensures _ l.invariant.1)
