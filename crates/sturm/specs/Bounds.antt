-- The Gershgorin bounds of a symmetric tridiagonal matrix with the diagonal ds and, beside it, es.
-- In exact arithmetic they enclose its characteristic values; nothing of the kind is claimed of the rounded ones. Definitions only.
use Rattle.std.specs.Prelude.{ℕ, zero, suc, ◌+◌, ◌-◌, List, Float}
use Rattle.arith.specs.Double.{◌⊕◌, ◌⊖◌, at}
use Rattle.arith.specs.Choice.{abs, lesser, greater}
use Rattle.sturm.specs.declared.gershgorin_bounds.Bounds.{Bounds}

-- the upper raised to d + t where that is greater, the lower dropped to d − t where that is less
unfoldable pub widen : Float → Float → Bounds → Bounds
widen d t b = record { lower = lesser b.lower (d ⊖ t); upper = greater b.upper (d ⊕ t) }

-- d − |e| and d + |e| of the last entry, widened by the first n entries, with t the |e| of each plus the next entry's
unfoldable pub bounds_from : List Float → List Float → ℕ → ℕ → Bounds
bounds_from ds es last zero = record { lower = at ds last ⊖ abs (at es last); upper = at ds last ⊕ abs (at es last) }
bounds_from ds es last (suc n) = widen (at ds n) (abs (at es n) ⊕ abs (at es (n + 1))) (bounds_from ds es last n)

-- of all `entries` entries
unfoldable pub bounds_of : List Float → List Float → ℕ → Bounds
bounds_of ds es entries = bounds_from ds es (entries - 1) (entries - 1)
