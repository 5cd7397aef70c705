-- The loop of `logarithms::binary_log`.
use mathlib.Core.Path.{◌≡◌}
use Rattle.logarithms.specs.Inside.LogarithmValues.{turned}
use Rattle.logarithms.proofs.Squaring.{Close}
use Rattle.logarithms.proofs.binary_log.Given as goal

abbrev pub invariant-loop : goal.invariant-loop
invariant-loop l = Close l.fn.x.m l.y l.k l.counter × (l.y ≡ (turned l.fn.x.m l.counter).y) × (l.k ≡ (turned l.fn.x.m l.counter).k)
