-- `sheets::checking::too_large` meets its contract. Assumes nothing.
use native.Mathlib.Omega.{arith}
use borrow.Author.Tests.{lt-ltb, le-ltb}
use Rattle.sheets.specs.Sheet.{too_large}
use Rattle.sheets.proofs.Laws as laws
use Rattle.sheets.proofs.checking.too_large.Goals as goal

pub returns-then-parameters-gt-PARAMETERS : goal.returns-then-parameters-gt-PARAMETERS
unfolding too_large
returns-then-parameters-gt-PARAMETERS c = rw (lt-ltb _ _ c.if-parameters-gt-PARAMETERS.true)

pub returns-then-arguments-gt-ARGUMENTS : goal.returns-then-arguments-gt-ARGUMENTS
unfolding too_large
returns-then-arguments-gt-ARGUMENTS c = rw (le-ltb _ _ c.if-parameters-gt-PARAMETERS.false, lt-ltb _ _ c.if-arguments-gt-ARGUMENTS.true)

pub overflow_mul-result : goal.overflow_mul-result
overflow_mul-result c = let h = laws.few_pairs _ _ c.if-parameters-gt-PARAMETERS.false c.if-arguments-gt-ARGUMENTS.false in omega arith

pub overflow_mul-result-2 : goal.overflow_mul-result-2
overflow_mul-result-2 c = let h = laws.few_pairs _ _ c.if-parameters-gt-PARAMETERS.false c.if-arguments-gt-ARGUMENTS.false in omega arith

pub returns : goal.returns
unfolding too_large
returns c = rw (le-ltb _ _ c.if-parameters-gt-PARAMETERS.false, le-ltb _ _ c.if-arguments-gt-ARGUMENTS.false)
