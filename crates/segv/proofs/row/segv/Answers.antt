-- `segv::row::segv` meets its contract. Assumes nothing.
use Rattle.segv.proofs.Laws as laws
use Rattle.segv.proofs.row.segv.Goals as goal

pub returns-in_err-even : goal.returns-in_err-even
returns-in_err-even c = rw (laws.is_out _ c.from_residual.ensures.0) (laws.even_out_of_steps _ _ _ _ _ _ _ _ _ c.family_of.ensures (c.in_err-even.was))

pub returns-in_err-odd : goal.returns-in_err-odd
returns-in_err-odd c = rw (laws.is_out _ c.from_residual-in_err-odd.ensures.0) (laws.odd_out_of_steps _ _ _ _ _ _ _ _ _ _ _ c.family_of.ensures c.family_of-2.ensures (c.in_ok-even.was) (c.in_err-odd.was))

pub returns : goal.returns
returns c =
    laws.both _ _ _ _ _ _ _ _ _ _ _ _ c.family_of.ensures c.family_of-2.ensures (c.in_ok-even.was) (c.in_ok-odd.was) c.write.ensures
