-- What the test `x == x` tells: whether x is a number. Assumes nothing.
use Rattle.std.proofs.Common.{◌≡◌, true, false, not, T, sym, ap, subst}
use lib.Ieee.{Float, nan, inf, fin, eq, ne, is_nan}
use lib.Ieee.Compare.{differs_from_itself}
use Rattle.arith.proofs.Flags.{not_taken}

pub a_number : (x : Float) → eq x x ≡ true → T (not (is_nan x))
unfolding eq is_nan
a_number nan e = not_taken e
a_number (inf s) e = tt
a_number (fin s m e) p = tt

pub no_number : (x : Float) → eq x x ≡ false → x ≡ nan
unfolding ne
no_number x e = differs_from_itself x (subst T (sym (ap not e)) tt)
