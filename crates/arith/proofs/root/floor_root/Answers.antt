-- `arith::root::floor_root` meets its contract (`proofs/root/Newton.antt`). Assumes nothing.
use Rattle.std.proofs.Common.{◌/◌, ◌^◌, ◌<◌, sym, le_of_lt, mul-le-mul, arith}
use Rattle.arith.proofs.root.Squares.{floor_root_unique}
use Rattle.arith.proofs.root.Newton.{newton_above, sq_pos, quotient_lt, first_quotient_lt}
use Rattle.arith.proofs.root.floor_root.Goals as goal
use Rattle.arith.proofs.root.floor_root.Goals.{After-first_guess-guess, In-loop-g}

-- n / guess
first : (c : After-first_guess-guess) → c.args.n / c.first_guess-guess.result < 2 ^ 29
first c = first_quotient_lt c.args.n c.first_guess-guess.result c.requires.1 c.first_guess-guess.ensures.0

-- n / g in the loop
later : (c : In-loop-g) → c.args.n / c.loop-g.g < c.loop-g.g
later c = quotient_lt c.args.n c.loop-g.g c.loop-g-test.true

pub nonzero_div-g : goal.nonzero_div-g
nonzero_div-g c = omega arith

pub overflow_add-g : goal.overflow_add-g
overflow_add-g c = omega (arith, first c)

pub loop-g-init : goal.loop-g-init
loop-g-init c = (newton_above c.args.n c.first_guess-guess.result (omega arith), omega (arith, first c))

pub overflow_mul-g : goal.overflow_mul-g
overflow_mul-g c = omega (arith, mul-le-mul (le_of_lt c.loop-g.invariant.1) (le_of_lt c.loop-g.invariant.1))

pub nonzero_div-g-in-loop-g : goal.nonzero_div-g-in-loop-g
nonzero_div-g-in-loop-g c = sq_pos c.args.n c.loop-g.g c.loop-g-test.true

pub overflow_add-g-in-loop-g : goal.overflow_add-g-in-loop-g
overflow_add-g-in-loop-g c = omega (arith, later c)

pub loop-g-smaller : goal.loop-g-smaller
loop-g-smaller c = omega (arith, later c)

pub loop-g-preserved : goal.loop-g-preserved
loop-g-preserved c =
    let n = c.args.n in
    let g = c.loop-g.g in
    (newton_above n g (sq_pos n g c.loop-g-test.true), omega (arith, later c))

pub returns : goal.returns
returns c = sym (floor_root_unique c.args.n c.loop-g.g (c.loop-g-test.false, c.loop-g.invariant.0))
