-- The users' third demand holds of the definition of the public angular pair: both calls are accepted, and their pairs come from |x|. Assumes nothing.
use Prim.Native.Nat.{ℕ, zero, suc, ◌-◌, ◌%◌, ◌<◌}
use native.Mathlib.Omega.{arith}
use mathlib.Core.Path.{◌≡◌, refl, ap}
use mathlib.Core.Bool.{Bool, true, false, cond}
use lib.Dec.{eqb}
use lib.Ieee.{Float, nan, inf, fin, neg}
use Rattle.arith.specs.Choice.{abs}
use Rattle.angular.proofs.Mirror.{mirror}
use Rattle.requests.specs.Answers.{Answer, Pair, Quadruple, Refused}
use Rattle.requests.specs.declared.checking.Mode.{Mode}
use Rattle.requests.specs.Refusals.{sign_of}
use Rattle.modes.specs.Angular.{outside, angular_refusal, angular_pair, angular_of}
use Rattle.demands.specs.Demand3.{Demand3Angular}

-- ---- what an answer tells

code : Answer → ℕ
code (Pair v d) = 0
code (Quadruple a b c d) = 1
code (Refused k) = 1

value_of : Answer → Float
value_of (Pair v d) = v
value_of (Quadruple a b c d) = nan
value_of (Refused k) = nan

derivative_of : Answer → Float
derivative_of (Pair v d) = d
derivative_of (Quadruple a b c d) = nan
derivative_of (Refused k) = nan

accepted : (t : Bool) (k : ℕ) (a b v d : Float) → cond t (Pair a b) (Refused k) ≡ Pair v d → (t ≡ true) × (a ≡ v) × (b ≡ d)
unfolding code value_of derivative_of
accepted true k a b v d e = (refl, ap value_of e, ap derivative_of e)
accepted false k a b v d e = let w : ◌≡◌ {A = ℕ} 1 0 = ap code e in absurd (omega arith)

-- ---- the call at −x

outside_neg : (x : Float) → outside (neg x) ≡ outside x
unfolding outside neg abs
outside_neg nan = refl
outside_neg (inf s) = refl
outside_neg (fin s m e) = refl

refusal_neg : (mode : Mode) (cv x : Float) → angular_refusal mode cv (neg x) ≡ angular_refusal mode cv x
unfolding angular_refusal
refusal_neg mode cv x = rw (outside_neg x)

-- a parity is 0 or 1
one_sign : (r : ℕ) → r < 2 → (v d : Float) → Pair (cond (eqb r 1) (neg v) v) (cond (eqb r 0) (neg d) d) ≡ cond (eqb r 1) (Pair (neg v) d) (Pair v (neg d))
one_sign zero h v d = refl
one_sign (suc zero) h v d = refl
one_sign (suc (suc r)) h v d = absurd (omega arith)

pub demand_3_angular : Demand3Angular
unfolding angular_of angular_pair
demand_3_angular kind mode cv x value derivative above most e =
    let p = angular_pair kind mode cv x in
    let a = accepted (eqb (angular_refusal mode cv x) 0) (angular_refusal mode cv x) p.value p.derivative value derivative e in
    rw (refusal_neg mode cv x, a.0, mirror mode.m mode.n mode.c cv (sign_of kind) x above, a.1, a.2)
    (one_sign ((mode.n - mode.m) % 2) (omega arith) value derivative)
