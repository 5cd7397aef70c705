-- `joining::cbk::RightSides::add_term` meets its contract. Assumes nothing.
use borrow.Author.Tests.{lt-ltb, le-ltb, eq-eqb, ne_eqb}
use Rattle.joining.specs.Cbk.{added}
use Rattle.joining.proofs.cbk.RightSides.add_term.Goals as goal

pub returns-then-self-eq0 : goal.returns-then-self-eq0
unfolding added
returns-then-self-eq0 c = rw (eq-eqb _ _ c.if-self-eq0.true)

pub returns-then-i-gt0 : goal.returns-then-i-gt0
unfolding added
returns-then-i-gt0 c = rw (ne_eqb _ _ c.if-self-eq0.false, lt-ltb _ _ c.if-i-gt0.true)

pub returns : goal.returns
unfolding added
returns c = rw (ne_eqb _ _ c.if-self-eq0.false, le-ltb _ _ c.if-i-gt0.false)
