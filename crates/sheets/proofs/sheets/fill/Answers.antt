-- `sheets::sheets::fill` meets its contract. The invariant: the pairs of the first i parameters are in place. Assumes nothing.
use Prim.Native.Nat.{ℕ, ◌-◌, ◌*◌, ◌<◌}
use mathlib.Core.Path.{◌≡◌, refl, sym, ap, ◌∙◌}
use mathlib.Core.List.{List, ◌++◌}
use native.Mathlib.Omega.{arith}
use native.Mathlib.Nat.{zero-mul, mul_left_comm}
use lib.Ieee.{Float}
use lib.ListN.{length, take, drop}
use lib.Seq.{length-take-le, take_all}
use Rattle.arith.specs.Double.{at}
use Rattle.angular.specs.Aswfa.{aswfa}
use Rattle.angular.specs.Inside.Turns.{in_turn}
use Rattle.angular.proofs.Turns.{in_turn_length}
use Rattle.requests.specs.Refusals.{mode_refusal}
use Rattle.requests.proofs.Laws.{usable}
use Rattle.sheets.specs.Sheet.{mode_with, each}
use Rattle.sheets.proofs.Laws as laws
use Rattle.sheets.proofs.sheets.fill.Goals as goal
use Rattle.sheets.proofs.sheets.fill.Invariants.{row_of_pairs}

pub loop-i-init : goal.loop-i-init
unfolding each
loop-i-init c = (sym (zero-mul _), refl, λ cv h. refl)

pub bounds-cvs-i : goal.bounds-cvs-i
bounds-cvs-i c = let p = laws.passed _ _ _ _ _ c.requires in omega (arith, p.few)

pub offset_bounds-block-from : goal.offset_bounds-block-from
offset_bounds-block-from c =
    let a = c.args in
    let l = c.loop-i in
    let p = laws.passed a.m a.n _ _ _ c.requires in
    let room = laws.room_for l.i _ _ _ (omega arith) p.room in
    let few = laws.few_places l.i _ (omega (arith, p.few)) p.short in
    omega (arith, l.invariant.0)

pub slice_bounds-aswfa_each-count : goal.slice_bounds-aswfa_each-count
slice_bounds-aswfa_each-count c =
    let a = c.args in
    let l = c.loop-i in
    let p = laws.passed a.m a.n _ _ _ c.requires in
    let room = laws.room_for l.i _ _ _ (omega arith) p.room in
    let few = laws.few_places l.i _ (omega (arith, p.few)) p.short in
    omega (arith, l.invariant.0, l.invariant.1)

pub slice_bounds-aswfa_each-start : goal.slice_bounds-aswfa_each-start
slice_bounds-aswfa_each-start c =
    let a = c.args in
    let l = c.loop-i in
    let p = laws.passed a.m a.n _ _ _ c.requires in
    let room = laws.room_for l.i _ _ _ (omega arith) p.room in
    let few = laws.few_places l.i _ (omega (arith, p.few)) p.short in
    omega (arith, l.invariant.0, l.invariant.1)

pub invariant_of-mode : goal.invariant_of-mode
invariant_of-mode c =
    let a = c.args in
    let l = c.loop-i in
    let p = laws.passed a.m a.n _ _ _ c.requires in
    record { usable = usable (mode_with a.m a.n (at a.cs.now l.i)) (laws.all_pass (λ c. mode_refusal (mode_with a.m a.n c)) _ p.parameters l.i (omega arith)) }

pub aswfa_each-requires : goal.aswfa_each-requires
aswfa_each-requires c =
    let a = c.args in
    let l = c.loop-i in
    let p = laws.passed a.m a.n _ _ _ c.requires in
    let room = laws.room_for l.i _ _ _ (omega arith) p.room in
    let part = laws.part_length l.block l.from in (
      omega (arith, p.short),
      omega (arith, part, l.invariant.0, l.invariant.1),
    )

pub overflow_add-from : goal.overflow_add-from
overflow_add-from c =
    let a = c.args in
    let l = c.loop-i in
    let p = laws.passed a.m a.n _ _ _ c.requires in
    let room = laws.room_for l.i _ _ _ (omega arith) p.room in
    let few = laws.few_places l.i _ (omega (arith, p.few)) p.short in
    omega (arith, l.invariant.0)

pub loop-i-preserved : goal.loop-i-preserved
loop-i-preserved c =
    let a = c.args in
    let l = c.loop-i in
    let kd = c.sign-kd.result in
    let width = 2 * length a.xs.now in
    let k = length l.block - l.from in
    let put : List Float → List Float = λ (ys : List Float). take l.from l.block ++ (ys ++ drop k (drop l.from l.block)) in (
      laws.next_place l.i width l.from l.invariant.0,
      c.block-1.given.1 ∙ l.invariant.1,
      λ (cv : Float → Float) (h : (j : ℕ) → j < length a.cs.now → at a.cvs.now j ≡ cv (at a.cs.now j)).
          let row = row_of_pairs a.m a.n kd a.xs.now cv in
          let far : length (each row (take l.i a.cs.now)) ≡ l.from = laws.each_length row width (λ (y : Float). in_turn_length (aswfa a.m a.n y (cv y) kd) a.xs.now) (take l.i a.cs.now) ∙ rw (length-take-le l.i a.cs.now (omega arith)) (sym l.invariant.0) in
          ap put (c.aswfa_each.ensures ∙ ap (λ (v : Float). in_turn (aswfa a.m a.n (at a.cs.now l.i) v kd) a.xs.now ++ drop width (take k (drop l.from l.block))) (h l.i (omega arith)))
          ∙ laws.each_put row a.cs.now a.block.now l.block l.i width l.from k (omega arith) (sym far) refl (l.invariant.2 cv h),
    )

pub returns : goal.returns
returns c cv h =
    let a = c.args in
    let l = c.loop-i in
    let p = length a.cs.now in
    let x = length a.xs.now in
    let all : l.i ≡ p = omega arith in
    let end : l.from ≡ 2 * (p * x) = l.invariant.0 ∙ rw all (mul_left_comm p 2 x) in
    l.invariant.2 cv h ∙ rw (all, take_all p a.cs.now (omega arith), end, c.sign-kd.ensures)
