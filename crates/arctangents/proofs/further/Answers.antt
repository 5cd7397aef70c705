-- `arctangents::further` meets its contract. Assumes nothing.
use mathlib.Core.Path.{◌≡◌, refl}
use Prim.Native.Nat.{ℕ, ◌+◌, ◌-◌, ◌/◌, ◌^◌, ◌≤◌, ◌<◌}
use native.Mathlib.Omega.{arith}
use borrow.Author.Tests.{lt-ltb, le-ltb}
use Rattle.arctangents.specs.Inside.ArctangentValues as ArctangentValues
use Rattle.arctangents.proofs.further.Goals as goal

pub returns-then-c-t : goal.returns-then-c-t
unfolding ArctangentValues.further
returns-then-c-t c = record { further = record { cosine = less c.args.p.c (c.args.p.s / 2 ^ 40) c.if-c-t.true; sine = refl; sign = refl }; value = rw (lt-ltb _ _ c.if-c-t.true) }
  where
    less : (c t : ℕ) → c < t → 0 + t ≡ t - c + c
    less c t h = omega arith

pub returns-else-c-t : goal.returns-else-c-t
unfolding ArctangentValues.further
returns-else-c-t c = record { further = record { cosine = more c.args.p.c (c.args.p.s / 2 ^ 40) c.if-c-t.false; sine = refl; sign = refl }; value = rw (le-ltb _ _ c.if-c-t.false) }
  where
    more : (c t : ℕ) → t ≤ c → c - t + t ≡ 0 + c
    more c t h = omega arith
