-- `reading::keep` meets its contract. Assumes nothing.
use Prim.Native.Nat.{◌+◌, ◌-◌}
use mathlib.Core.Path.{ap, ◌∙◌}
use native.Mathlib.Omega.{arith}
use lib.ListN.{take, drop, length-drop}
use lib.Seq.{length-take-le, take_at}
use Rattle.std.proofs.lemmas.Slice.{between_is}
use Rattle.reading.proofs.keep.Goals as goal

pub returns : goal.returns
returns c =
    let b = c.args.buffer.now in
    let at = c.args.at in
    let k = c.args.end - at in (
      c.copy_within.ensures.len,
      ap (take k) c.copy_within.ensures.after ∙ take_at (take k (drop at b)) (drop (0 + k) b) k (length-take-le k (drop at b) (omega (arith, length-drop at b))) ∙ between_is b at c.args.end,
    )
