-- `angular::aswfa::coefficients` meets its contract. Assumes nothing.
use Prim.Native.Nat.{◌+◌, ◌*◌, ◌/◌}
use native.Mathlib.Omega.{arith}
use Rattle.expansion.specs.Sums.{blank}
use Rattle.expansion.proofs.First.{stands_first, stands_agrees}
use Rattle.angular.proofs.aswfa.coefficients.Goals as goal

pub go_on-requires : goal.go_on-requires
unfolding blank
go_on-requires c =
    let a = c.args in
    let s = c.start-at.ensures in
    stands_first _ a.mode.m a.mode.n a.mode.c _ _ s.0 s.1 s.2 s.3 c.filled-ck.ensures

pub returns : goal.returns
returns c i q =
    let a = c.args in
    let g = c.go_on.ensures in
    stands_agrees _ a.mode.m a.mode.n a.mode.c c.go_on.result _ (a.nm2 / 4 * 4 + 4) g.stands_for (omega (arith, g.k_value)) i (omega arith)
