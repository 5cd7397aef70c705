-- `sheets::parameters::Rows::four_bisected` meets its contract. The invariant: the first q rows are bisected. Assumes nothing.
use Prim.Native.Nat.{ℕ, ◌+◌}
use native.Mathlib.Omega.{arith}
use Rattle.arith.specs.Double.{at}
use Rattle.arith.proofs.Flags.{not_taken}
use Rattle.lanes.proofs.Laws.{one_more}
use Rattle.sheets.specs.Inside.Parameters.{Bisected}
use Rattle.sheets.proofs.parameters.Rows.four_bisected.Goals as goal

pub returns-then-cs-lt4 : goal.returns-then-cs-lt4
returns-then-cs-lt4 c = record { i_in_bounds = λ h. not_taken h; bisected = λ h. not_taken h }

pub returns-then-cs-i : goal.returns-then-cs-i
returns-then-cs-i c = record { i_in_bounds = λ h. not_taken h; bisected = λ h. not_taken h }

pub loop-q-init : goal.loop-q-init
loop-q-init c = (omega arith, λ k l. absurd (omega arith))

pub returns-then-not-bisected : goal.returns-then-not-bisected
returns-then-not-bisected c = record { i_in_bounds = λ h. not_taken h; bisected = λ h. not_taken h }

pub loop-q-preserved : goal.loop-q-preserved
loop-q-preserved c =
    let l = c.loop-q in
    let a = c.args in
    (l.invariant.0, one_more (λ (k : ℕ). Bisected a.self.m a.self.n (at a.cs.now (a.i + k))) l.q l.invariant.1 (c.bisected.ensures c.if-not-bisected.false))

pub returns : goal.returns
returns c = let l = c.loop-q in record { i_in_bounds = λ h. l.invariant.0; bisected = λ h q less. l.invariant.1 q (omega arith) }
