-- `reading::answer_all` meets its contract: the loop is left only where it may end. Assumes nothing.
use mathlib.Core.Path.{refl}
use Rattle.reading.proofs.Readings as readings
use Rattle.reading.proofs.answer_all.Goals as goal

pub loop-last-init : goal.loop-last-init
loop-last-init g c = (refl, refl, refl, readings.started _ _)
