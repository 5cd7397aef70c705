-- `joining::qstar::s_of` meets its contract. The invariant: the sum has the terms below l. Assumes nothing.
use Prim.Native.Nat.{ℕ, suc, ◌+◌, ◌-◌}
use mathlib.Core.Path.{◌≡◌, refl}
use mathlib.Core.List.{List}
use native.Mathlib.Omega.{arith}
use lib.Ieee.{Float}
use Rattle.arith.specs.Double.{◌⊕◌, ◌⊗◌, at}
use Rattle.joining.specs.Qstar.{s_at}
use Rattle.joining.proofs.qstar.s_of.Goals as goal

one_more : (sk ap : List Float) (s : Float) (i l k : ℕ) → l ≡ suc k → s ≡ s_at (λ q. at sk q) ap i k → s ⊕ at sk l ⊗ at ap (i - l) ≡ s_at (λ q. at sk q) ap i l
unfolding s_at
one_more sk ap s i l k e h = rw (e, h)

pub loop-l-init : goal.loop-l-init
unfolding s_at
loop-l-init c = refl

pub loop-l-preserved : goal.loop-l-preserved
loop-l-preserved c =
    let l = c.loop-l in
    let h : l.l + 1 - 1 ≡ l.l = omega arith in
    rw h (one_more _ _ _ _ l.l (l.l - 1) (omega arith) l.invariant)
