-- `expansion::sckb::PowerSums::all_concluded` meets its contract. Assumes nothing.
use Prim.Native.Nat.{◌+◌}
use mathlib.Core.Path.{◌≡◌}
use native.Mathlib.Omega.{arith}
use Rattle.expansion.proofs.sckb.PowerSums.all_concluded.Goals as goal

pub concluded-a-requires : goal.concluded-a-requires
concluded-a-requires c = (omega arith, omega arith, c.requires.2.0)

pub concluded-b-requires : goal.concluded-b-requires
concluded-b-requires c = (omega arith, omega arith, let h : c.args.k + 1 + 2 ≡ c.args.k + 2 + 1 = omega arith in rw h c.requires.2.1)

pub concluded-c-requires : goal.concluded-c-requires
concluded-c-requires c = (omega arith, omega arith, c.requires.2.2)

pub concluded-d-requires : goal.concluded-d-requires
concluded-d-requires c = (omega arith, omega arith, let h : c.args.k + 3 + 2 ≡ c.args.k + 2 + 3 = omega arith in rw h c.requires.2.3)

pub returns : goal.returns
returns c = (c.concluded-a.ensures, c.concluded-b.ensures, c.concluded-c.ensures, c.concluded-d.ensures)
