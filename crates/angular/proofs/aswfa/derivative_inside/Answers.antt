-- `angular::aswfa::derivative_inside` meets its contract. Assumes nothing.
use Rattle.angular.specs.Aswfa.{derivative_inside}
use Rattle.angular.proofs.aswfa.derivative_inside.Goals as goal

pub returns : goal.returns
unfolding derivative_inside
returns c = record { su_value = rw (c.power-xp.ensures, c.su2_of-su2.ensures.su_value, c.parity-ip.ensures.value); fact = λ e ys same more. rw (c.su2_of-su2.ensures.fact e ys same more, c.power-xp.ensures, c.parity-ip.ensures.value) }
