-- `bessel::secant::secant` meets its contract. The invariant: what is left to try gives what the whole gives. Assumes nothing.
use Prim.Native.Nat.{◌-◌, ◌<◌, ◌≤◌}
use mathlib.Core.Path.{◌≡◌}
use Rattle.bessel.specs.Secant.{excess, secant}
use Rattle.bessel.proofs.secant.secant.Given as goal

abbrev pub invariant-loop : goal.invariant-loop
invariant-loop l = (0 < l.n1) × (l.n1 ≤ 100000) × (secant l.a0 l.obj (20 - l.counter) l.n0 l.f0 l.n1 l.f1 ≡ secant l.a0 l.obj 20 l.first (excess l.a0 l.obj l.first) l.second (excess l.a0 l.obj l.second))
