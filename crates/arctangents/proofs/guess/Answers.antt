-- `arctangents::guess` meets its contract. Assumes nothing.
use Rattle.arctangents.specs.Inside.ArctangentValues as ArctangentValues
use Rattle.arctangents.proofs.guess.Goals as goal

pub returns-then-x : goal.returns-then-x
unfolding ArctangentValues.guess
returns-then-x c = rw (c.if-x.true, c.arctangent_series.ensures)

pub returns-then-x-3 : goal.returns-then-x-3
unfolding ArctangentValues.guess
returns-then-x-3 c = rw (c.if-x.false, c.if-x-2.true, c.if-x-3.true, c.beside.ensures)

pub returns-then-x-4 : goal.returns-then-x-4
unfolding ArctangentValues.guess
returns-then-x-4 c = rw (c.if-x.false, c.if-x-2.true, c.if-x-3.false, c.if-x-4.true, c.beside-then-x-4.ensures)

pub returns-then-x-2 : goal.returns-then-x-2
unfolding ArctangentValues.guess
returns-then-x-2 c = rw (c.if-x.false, c.if-x-2.true, c.if-x-3.false, c.if-x-4.false, c.beside-then-x-2.ensures)

pub returns-then-x-6 : goal.returns-then-x-6
unfolding ArctangentValues.guess
returns-then-x-6 c = rw (c.if-x.false, c.if-x-2.false, c.if-x-5.true, c.if-x-6.true, c.beside-then-x-6.ensures)

pub returns-then-x-5 : goal.returns-then-x-5
unfolding ArctangentValues.guess
returns-then-x-5 c = rw (c.if-x.false, c.if-x-2.false, c.if-x-5.true, c.if-x-6.false, c.beside-then-x-5.ensures)

pub returns-then-x-7 : goal.returns-then-x-7
unfolding ArctangentValues.guess
returns-then-x-7 c = rw (c.if-x.false, c.if-x-2.false, c.if-x-5.false, c.if-x-7.true, c.beside-then-x-7.ensures)

pub returns : goal.returns
unfolding ArctangentValues.guess
returns c = rw (c.if-x.false, c.if-x-2.false, c.if-x-5.false, c.if-x-7.false, c.beside-2.ensures)
