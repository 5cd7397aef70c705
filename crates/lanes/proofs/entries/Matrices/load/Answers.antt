-- `lanes::entries::Matrices::load` meets its contract. The invariant: the first i places of the lane are filled, and every other index holds what it held. Assumes nothing.
use mathlib.Core.Path.{refl, ◌∙◌}
use native.Mathlib.Omega.{arith}
use borrow.Author.Tests.{lt-ltb, le-ltb}
use Rattle.lanes.proofs.Laws.{none_stored, one_stored}
use Rattle.lanes.proofs.entries.Matrices.load.Goals as goal

pub loop-i-init : goal.loop-i-init
loop-i-init c = (none_stored _ _ _ _, none_stored _ _ _ _, refl)

pub loop-i-preserved : goal.loop-i-preserved
loop-i-preserved c =
    let l = c.loop-i in
    (one_stored _ _ _ _ _ l.i _ l.invariant.0 (omega arith) (λ k less e. omega arith) c.entry_or_infinity.ensures, one_stored _ _ _ _ _ l.i _ l.invariant.1 (omega arith) (λ k less e. omega arith) refl, l.invariant.2)

pub returns : goal.returns
returns c =
    let l = c.loop-i in
    record {
      most = rw (← l.invariant.2) c.max-self.ensures;
      holds = record {
        diagonal = λ i less. l.invariant.0.done i (omega arith) ∙ rw (lt-ltb i _ less);
        roots = λ i less. l.invariant.1.done i (omega arith);
        past = λ i beyond less. l.invariant.0.done i (omega arith) ∙ rw (le-ltb i _ beyond);
      };
      by_index = λ j less other. (λ i. l.invariant.0.kept _ (λ k h e. other (omega arith)), λ i. l.invariant.1.kept _ (λ k h e. other (omega arith)));
    }
