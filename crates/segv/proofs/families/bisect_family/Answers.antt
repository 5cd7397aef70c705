-- `segv::families::bisect_family` meets its contract. The invariant: the places that are left give the whole family. Assumes nothing.
use Prim.Native.Nat.{◌-◌, ◌+◌}
use mathlib.Core.Path.{◌≡◌, refl, sym, ap, ◌∙◌}
use native.Mathlib.Omega.{arith}
use Rattle.segv.specs.Families.{opened_at, handed_on}
use Rattle.segv.proofs.Laws as laws
use borrow.Author.Rules.{rules}
use Rattle.segv.proofs.families.bisect_family.Goals as goal

pub loop-p-init : goal.loop-p-init
loop-p-init c = refl

pub bisect-requires : goal.bisect-requires
unfolding opened_at
bisect-requires c = (search rules, search rules, rw c.opened-start.ensures)

pub returns-in_err-r : goal.returns-in_err-r
returns-in_err-r c =
    let l = c.loop-p in
    let a = c.args in
    let m = laws.one_out_of_steps _ _ _ _ _ (a.limits.places - l.p) (a.limits.places - (l.p + 1)) _ _ _ _ l.out _ _ (omega arith) c.opened-start.ensures c.bisect.ensures (c.in_err-r.was) in
    laws.is_out _ c.from_residual.ensures.0 ∙ ap handed_on (sym m ∙ l.invariant ∙ laws.from_first _ _ _ _ _ _ _ _ c.within-ends.ensures c.blank_brackets-out.ensures)

pub loop-p-preserved : goal.loop-p-preserved
loop-p-preserved c =
    let l = c.loop-p in
    let a = c.args in
    let m = laws.one_found _ _ _ _ _ (a.limits.places - l.p) (a.limits.places - (l.p + 1)) _ _ _ _ l.out _ _ (omega arith) c.opened-start.ensures c.bisect.ensures (c.in_ok-r.was) in
    sym m ∙ l.invariant

pub returns : goal.returns
returns c =
    let l = c.loop-p in
    let e : c.args.limits.places - l.p ≡ 0 = omega arith in
    ap handed_on (laws.all_found _ _ _ _ _ _ _ _ _ e ∙ l.invariant ∙ laws.from_first _ _ _ _ _ _ _ _ c.within-ends.ensures c.blank_brackets-out.ensures)
