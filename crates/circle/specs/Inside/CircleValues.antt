-- What the functions of `circle` give, bit for bit. Definitions only.
use Rattle.std.specs.Prelude.{ℕ, zero, suc, ◌+◌, ◌-◌, ◌*◌, ◌%◌, ◌^◌, cond, ltb}
use Rattle.circle.specs.declared.Pair.{Pair}
use Rattle.circle.specs.Inside.FixedValues.{high, horner}

-- the cosine and the sine at twice the angle
unfoldable pub doubled : Pair → Pair
doubled p =
    let cc = high p.c p.c in
    let ss = high p.s p.s in
    record { c = cond (ltb cc ss) (ss - cc) (cc - ss); cn = cond (ltb cc ss) 1 0; s = 2 * high p.c p.s; sn = (p.cn + p.sn) % 2 }

-- the cosine of the root of q, by its series to the 12th power
unfoldable pub cosine_sum : ℕ → ℕ
cosine_sum q =
    let g10 = horner (2 ^ 63) q 132 in
    let g8 = horner g10 q 90 in
    let g6 = horner g8 q 56 in
    let g4 = horner g6 q 30 in
    let g2 = horner g4 q 12 in
    horner g2 q 2

-- the sine of the root of q over that root, by its series to the 11th power
unfoldable pub sine_sum : ℕ → ℕ
sine_sum q =
    let g9 = horner (2 ^ 63) q 110 in
    let g7 = horner g9 q 72 in
    let g5 = horner g7 q 42 in
    let g3 = horner g5 q 20 in
    horner g3 q 6

-- the cosine and the sine of y / 2 ^ 63, by their series
unfoldable pub first : ℕ → Pair
first y =
    let q = high y y in
    record { c = cosine_sum q; cn = 0; s = high y (sine_sum q); sn = 0 }

-- the cosine and the sine of y / 2 ^ 63, doubled so many times
unfoldable pub circle : ℕ → ℕ → Pair
circle y zero = first y
circle y (suc j) = doubled (circle y j)
