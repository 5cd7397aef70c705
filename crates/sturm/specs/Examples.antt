-- Counts of small matrices, as a table. No row is known whose count ends on a zero pivot, so that only this table shows what such a count says.
-- `proofs/Examples.antt` has the theorem over it, and the count of one family's matrix.
use Rattle.std.specs.Prelude.{true, false, List, [], ◌∷◌, Float}
use Rattle.arith.specs.Double.{bits, #0, #1, #2, #3}
use Rattle.sturm.specs.declared.pivots.Count.{Count}
use Rattle.sturm.specs.Pivots.{count}

-- −0, the least double above zero and the greatest below it
abbrev #-0 : Float
#-0 = bits 0x8000_0000_0000_0000

abbrev least : Float
least = bits 0x0000_0000_0000_0001

abbrev minus_least : Float
minus_least = bits 0x8000_0000_0000_0001

-- the double nearest to the root of 2
abbrev root2 : Float
root2 = bits 0x3ff6_a09e_667f_3bcd

-- a matrix by its diagonal and the roots beside it, a shift, and the count there
abbrev pub counts : List (List Float × List Float × Float × Count)
counts =
    -- a zero pivot of the last entry: no
    (#2 ∷ [], #0 ∷ [], #2, count 0 false) ∷
    (#1 ∷ #2 ∷ [], #0 ∷ #0 ∷ [], #2, count 1 false) ∷
    -- before it: yes, and the pivot after it is −1/1e-30
    (#2 ∷ #2 ∷ [], #0 ∷ #1 ∷ [], #2, count 1 true) ∷
    -- with nothing beside it, and zero pivots at both entries
    (#2 ∷ #3 ∷ [], #0 ∷ #0 ∷ [], #2, count 0 true) ∷
    (#2 ∷ #2 ∷ [], #0 ∷ #0 ∷ [], #2, count 0 true) ∷
    -- the pivot −0, which is not below zero: at the last entry, and before it
    (#-0 ∷ [], #0 ∷ [], #0, count 0 false) ∷
    (#-0 ∷ #1 ∷ [], #0 ∷ #0 ∷ [], #0, count 0 true) ∷
    -- the least pivots that are not zero, of either sign: no
    (least ∷ #1 ∷ [], #0 ∷ #1 ∷ [], #0, count 1 false) ∷
    (minus_least ∷ #1 ∷ [], #0 ∷ #1 ∷ [], #0, count 1 false) ∷
    -- a yes stays a yes
    (#2 ∷ #3 ∷ #3 ∷ [], #0 ∷ #0 ∷ #1 ∷ [], #2, count 0 true) ∷
    -- the square of the rounded root of 2 is above 2
    (#1 ∷ #2 ∷ [], #0 ∷ root2 ∷ [], #0, count 1 false) ∷
    []
