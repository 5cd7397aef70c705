-- `arith::root::nearest_root` meets its contract (`proofs/root/Newton.antt`, the halves of a root). Assumes nothing.
use Rattle.std.proofs.Common.{ℕ, ◌+◌, ◌-◌, ◌*◌, ◌/◌, ◌%◌, ◌^◌, ◌≤◌, sym, arith}
use Rattle.arith.proofs.root.Squares.{IsRoot, floor_root_is, about_up, about_down}
use Rattle.arith.proofs.root.Newton.{Halved, halved, halves, low_small}
use Rattle.arith.proofs.root.nearest_root.Goals as goal
use Rattle.arith.proofs.root.nearest_root.Goals.{After-floor_root-high}

-- `high` is the whole part of n's root
is : (c : After-floor_root-high) → IsRoot c.args.n c.floor_root-high.result
is c = rw c.floor_root-high.ensures (floor_root_is c.args.n)

facts : (c : After-floor_root-high) → Halved c.args.n c.floor_root-high.result (is c) c.requires.0 c.requires.1
facts c = halved c.args.n c.floor_root-high.result (is c) c.requires.0 c.requires.1

-- `low` and `rest`
abbrev low : goal.After-floor_root-high → ℕ
low c = (c.args.n - c.floor_root-high.result * c.floor_root-high.result) * 2 ^ 26 / (c.floor_root-high.result * 2)

abbrev rest : goal.After-floor_root-high → ℕ
rest c = (c.args.n - c.floor_root-high.result * c.floor_root-high.result) * 2 ^ 26 % (c.floor_root-high.result * 2)

few : (c : After-floor_root-high) → rest c * 2 ^ 26 ≤ 2 * (c.floor_root-high.result * 2 ^ 26 + low c)
few c = omega (arith, facts c)

pub overflow_mul-left : goal.overflow_mul-left
overflow_mul-left c = omega (arith, facts c)

pub overflow_sub-left : goal.overflow_sub-left
overflow_sub-left c = (facts c).sq

pub overflow_mul-left-2 : goal.overflow_mul-left-2
overflow_mul-left-2 c = omega (arith, facts c)

pub overflow_mul-low : goal.overflow_mul-low
overflow_mul-low c = omega (arith, facts c)

pub nonzero_div-low : goal.nonzero_div-low
nonzero_div-low c = omega (arith, facts c)

pub overflow_mul-rest : goal.overflow_mul-rest
overflow_mul-rest c = omega (arith, facts c)

pub nonzero_rem-rest : goal.nonzero_rem-rest
nonzero_rem-rest c = omega (arith, facts c)

pub overflow_mul-rest-2 : goal.overflow_mul-rest-2
overflow_mul-rest-2 c = omega (arith, facts c)

pub overflow_mul-q : goal.overflow_mul-q
overflow_mul-q c = omega (arith, facts c)

pub overflow_add-q : goal.overflow_add-q
overflow_add-q c = omega (arith, facts c)

pub overflow_mul-low-2 : goal.overflow_mul-low-2
overflow_mul-low-2 c = omega (arith, facts c)

pub overflow_add-q-2 : goal.overflow_add-q-2
overflow_add-q-2 c = omega (arith, facts c)

pub overflow_add-result : goal.overflow_add-result
overflow_add-result c = omega (arith, facts c.before)

pub returns-then-q-low : goal.returns-then-q-low
returns-then-q-low c =
    let b = c.before in
    let n = b.args.n in
    let h = b.floor_root-high.result in
    let p = b.requires in
    sym (about_up (n * 2 ^ 52) (h * 2 ^ 26 + low b) (rest b * 2 ^ 26) (low b * low b) (halves n h (is b) p.0 p.1) (low_small n h (is b) p.0 p.1) (few b) c.if-q-low.true)

pub returns-else-q-low : goal.returns-else-q-low
returns-else-q-low c =
    let b = c.before in
    let n = b.args.n in
    let h = b.floor_root-high.result in
    let p = b.requires in
    sym (about_down (n * 2 ^ 52) (h * 2 ^ 26 + low b) (rest b * 2 ^ 26) (low b * low b) (halves n h (is b) p.0 p.1) (low_small n h (is b) p.0 p.1) (few b) c.if-q-low.false)
