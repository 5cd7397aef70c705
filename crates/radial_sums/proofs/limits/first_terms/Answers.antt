-- `radial_sums::limits::first_terms` meets its contract: the whole part of c and that of (n − m)/2 are below 175 together, and at most the whole part of H. Assumes nothing.
use mathlib.Core.Path.{refl}
use native.Mathlib.Omega.{arith}
use Rattle.expansion.proofs.Halves.{whole_and_part, whole_at_most}
use Rattle.expansion.specs.Terms.{terms_of}
use Rattle.radial_sums.specs.Limits.{first_terms}
use Rattle.radial_sums.proofs.limits.first_terms.Goals as goal

pub overflow_add-result-2 : goal.overflow_add-result-2
overflow_add-result-2 c =
    let p = c.requires in
    let few = whole_and_part c.args.offset c.args.c p.0 p.1 p.2 in
    rw c.whole_part.ensures (omega (arith, few))

pub returns : goal.returns
unfolding first_terms terms_of
returns c =
    let p = c.requires in
    let few = whole_and_part c.args.offset c.args.c p.0 p.1 p.2 in
    let most = whole_at_most c.args.offset c.args.c p.0 p.1 p.2 in
    rw c.whole_part.ensures (record { value = refl; lower_bound = (omega arith, omega (arith, few), omega (arith, most)) })
