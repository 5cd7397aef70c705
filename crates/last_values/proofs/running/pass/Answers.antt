-- `last_values::running::pass` meets its contract. Assumes nothing.
use Rattle.last_values.proofs.Each.{went_one}
use Rattle.last_values.proofs.running.pass.Goals as goal

pub returns : goal.returns
returns c =
    let s = c.step_each.ensures in
    record { went = went_one _ _ _ _ _ c.midpoints-shifts.result c.negative_pivots-negative.result s.eight c.midpoints-shifts.ensures c.negative_pivots-negative.ensures s.by_index; by_index = λ j l. (s.by_index j l).less }
