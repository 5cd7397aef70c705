-- `joining::cbk::RightSides::first_index` meets its contract: the machine's difference is the integers'. Assumes nothing.
use native.Mathlib.Omega.{arith}
use Rattle.joining.proofs.Signed as signed
use Rattle.joining.proofs.cbk.RightSides.first_index.Goals as goal

pub returns-then-i1-lt0 : goal.returns-then-i1-lt0
returns-then-i1-lt0 c =
    let m = c.args.self.small in
    signed.index_below c.args.k c.args.self.m (omega arith) (omega (arith, m)) _ (signed.machine_index c.args.k c.args.self.m (omega arith) (omega (arith, m))) c.if-i1-lt0.true

pub returns : goal.returns
returns c =
    let m = c.args.self.small in
    signed.index_at c.args.k c.args.self.m (omega arith) (omega (arith, m)) _ (signed.machine_index c.args.k c.args.self.m (omega arith) (omega (arith, m))) c.if-i1-lt0.false
