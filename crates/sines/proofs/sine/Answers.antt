-- `sines::sine` meets its contract. Assumes nothing.
use mathlib.Core.Path.{refl, sym, subst}
use mathlib.Core.Bool.{false}
use lib.Dec.{T}
use lib.IntN.{pos}
use lib.Ieee.{fin, le, of_bits, div}
use Rattle.sines.specs.Inside.SineValues as SineValues
use Rattle.sines.proofs.Range.{inside, past, before}
use Rattle.sines.proofs.sine.Goals as goal
use Rattle.sines.proofs.sine.Goals.{else-x-via-then-x+else-x-2, else-x-via-else-x}

pub ranged_sine-requires : goal.ranged_sine-requires
unfolding of_bits
ranged_sine-requires c = record { least = subst T (sym c.if-x.true) tt; most = subst T (sym c.if-x-2.true) tt }

pub returns-then-x-2 : goal.returns-then-x-2
unfolding of_bits SineValues.sine
returns-then-x-2 c = record { sine = record { near = λ t. c.ranged_sine.ensures.sine; tiny = λ t k. c.ranged_sine.ensures.tiny k; outside = λ t. absurd (inside _ _ c.if-x.true c.if-x-2.true t) }; value = rw (c.if-x.true, c.if-x-2.true, c.ranged_sine.ensures.value) }

pub returns-else-x : goal.returns-else-x
unfolding of_bits div SineValues.sine
returns-else-x c =
    let x = c.args.x in
    elim c.else-x.branch [
      | else-x-via-then-x+else-x-2 w ↦ record { sine = record { near = λ t. absurd (past (le (fin false 0 (pos 0)) x) _ w.if-x-2.false t); tiny = λ t k. absurd (past (le (fin false 0 (pos 0)) x) _ w.if-x-2.false t); outside = λ t. refl }; value = rw (w.if-x.true, w.if-x-2.false) }
      | else-x-via-else-x w ↦ record { sine = record { near = λ t. absurd (before _ (le x (fin false 25 (pos 3))) w.if-x.false t); tiny = λ t k. absurd (before _ (le x (fin false 25 (pos 3))) w.if-x.false t); outside = λ t. refl }; value = rw w.if-x.false }
    ]
