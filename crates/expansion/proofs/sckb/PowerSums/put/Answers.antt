-- `expansion::sckb::PowerSums::put` meets its contract. Assumes nothing.
use mathlib.Core.Path.{refl, ◌∙◌}
use native.Mathlib.Omega.{arith}
use native.Mathlib.Nat.{add_assoc}
use Rattle.expansion.proofs.sckb.PowerSums.put.Goals as goal

pub next_factorial-requires : goal.next_factorial-requires
next_factorial-requires c = (omega arith, c.requires.1)

pub returns : goal.returns
returns c = record { ck_after = rw (← c.requires.1); k_value = (refl, refl, refl, c.next_factorial.ensures ∙ rw (add_assoc c.args.self.m c.args.at.k 1)) }
