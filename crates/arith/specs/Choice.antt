-- The absolute value, and the lesser and the greater of two doubles. Definitions only.
use Rattle.std.specs.Prelude.{false, cond, Float}
use Rattle.std.specs.Float.{nan, inf, fin}
use Rattle.std.specs.Float.Ieee.{lt}

-- the sign cleared: of both zeros +0, and of `nan` the same
unfoldable pub abs : Float → Float
abs nan = nan
abs (inf s) = inf false
abs (fin s m e) = fin false m e

-- b where it is below a, and else a: a stays where the two are equal, +0 and -0 included, and where one is `nan`
unfoldable pub lesser : Float → Float → Float
lesser a b = cond (lt b a) b a

-- b where it is above a, and else a
unfoldable pub greater : Float → Float → Float
greater a b = cond (lt a b) b a
