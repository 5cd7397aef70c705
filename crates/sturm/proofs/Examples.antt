-- The counts of small matrices in `specs/Examples.antt`, and of one family's matrix. Assumes nothing.
use Rattle.std.specs.Prelude.{◌≡◌, refl, false, List, Float, map, length}
use Rattle.std.specs.Float.Ieee.{add, sub, mul, div, lt, eq, of_bits, of_int}
use Rattle.arith.specs.Double.{bits}
use Rattle.arith.specs.Root.{sqrt}
use Rattle.sturm.specs.declared.pivots.Count.{Count}
use Rattle.sturm.specs.Entries.{diagonal, off_diagonal, first_entries, blank_entries, entry_e}
use Rattle.sturm.specs.Pivots.{count, divisor, next_pivot, pivots_at, negative_pivots}
use Rattle.sturm.specs.Examples.{counts}

pub counts_right :
    map (λ (row : List Float × List Float × Float × Count). negative_pivots row.0 row.1 (length row.0) row.2) counts
    ≡ map (λ (row : List Float × List Float × Float × Count). row.3) counts
unfolding negative_pivots pivots_at next_pivot divisor sub mul div lt eq of_bits
counts_right = refl

-- The even matrix of the oblate mode m = n = 0 with c 2, whose cs is −4 and which has 12 entries. At this shift, −1.5944932131854581, the products under the roots in the place of the roots' squares would give 1.
pub family_count :
    negative_pivots (diagonal 0 0 (bits 0xc010_0000_0000_0000) 12) (off_diagonal 0 0 (bits 0xc010_0000_0000_0000) 12) 12 (bits 0xbff9_830b_50c5_353e)
    ≡ count 0 false
unfolding negative_pivots pivots_at next_pivot divisor first_entries blank_entries entry_e sqrt add sub mul div lt eq of_bits of_int
family_count = refl
