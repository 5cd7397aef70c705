-- `expansion::sckb::go_on` meets its contract. Assumes nothing.
use native.Mathlib.Omega.{arith}
use Rattle.expansion.proofs.sckb.go_on.Goals as goal

pub fill_fours-rest-requires : goal.fill_fours-rest-requires
fill_fours-rest-requires c = let s = c.of-sums.ensures in (omega (arith, c.min-goal.ensures), rw (s.0, s.1, s.2) c.requires)

pub fill_rest-requires : goal.fill_rest-requires
fill_rest-requires c = (omega (arith, c.min-goal.ensures), c.fill_fours-rest.ensures.stands)

pub returns : goal.returns
returns c = let s = c.of-sums.ensures in
    let f = c.fill_fours-rest.ensures in
    let r = c.fill_rest.ensures in
    record { stands_for = rw (← s.2, ← s.1, ← s.0) r.stands; k_value = rw (← s.2) (omega (arith, r.k_value, f.k_le_k, c.min-goal.ensures)) }
