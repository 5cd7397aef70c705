-- What `take_reading` and `answer_all` keep from reading to reading. Assumes nothing.
use Prim.Native.Nat.{ℕ, ◌+◌, ◌-◌, ◌≤◌}
use mathlib.Core.Path.{◌≡◌, refl, sym, ap, subst, ◌∙◌}
use mathlib.Core.Bool.{true}
use mathlib.Core.List.{List, [], ◌∷◌, ◌++◌}
use native.Mathlib.Omega.{arith}
use lib.ListN.{length, take, drop, length-drop}
use lib.Seq.{length-take-le, take-add}
use Rattle.reading.specs.declared.Arrived.{Arrived}
use Rattle.reading.specs.declared.Reading.{Reading}
use Rattle.reading.specs.declared.State.{State}
use Rattle.reading.specs.declared.State.TheVariants.{Going}
use Rattle.reading.specs.Loop.{Answers, taken, held_after, total, Keeps}

pub started : (room : ℕ) (buffer : List ℕ) → Keeps room buffer (record { got = 0; bytes = 0; held = 0; index = 0; state = Going })
unfolding held_after total
started room buffer = record { readings = []; bytes = refl; held = refl; index = refl; short = omega arith; counted = omega arith }

-- the same room by another name
pub keeps_in : {room room' : ℕ} {buffer : List ℕ} {r : Reading} → room ≡ room' → Keeps room buffer r → Keeps room' buffer r
keeps_in {room} {room'} {buffer} {r} e k = subst (λ (n : ℕ). Keeps n buffer r) e k

module _ {room : ℕ} {buffer : List ℕ} {before : Reading} (k : Keeps room buffer before) (after : List ℕ) (same : take before.held after ≡ take before.held buffer) where
  -- a reading that got nothing
  pub ended : (got : ℕ) (state : State) → Keeps room after (record { got = got; bytes = before.bytes; held = before.held; index = before.index; state = state })
  ended got state = record { readings = k.readings; bytes = k.bytes; held = same ∙ k.held; index = k.index; short = k.short; counted = k.counted }

  -- a reading, after which the bytes from `at` on are kept
  module _ (got : ℕ) (fits : before.held + got ≤ length after) {arrived : Arrived} (a : Answers (take (before.held + got) after) room before.index arrived)
      (kept : List ℕ) (moved : take (before.held + got - arrived.at) kept ≡ drop arrived.at (take (before.held + got) after)) where
    abbrev reading : List ℕ
    reading = take got (drop before.held after)

    there : (held_after room k.readings).bytes ++ reading ≡ take (before.held + got) after
    there = ap (λ (l : List ℕ). l ++ reading) (sym k.held ∙ sym same) ∙ sym (take-add before.held got after)

    size : length reading ≡ got
    size = length-take-le got (drop before.held after) (omega (arith, length-drop before.held after))

    pub on : arrived.state ≡ Going → Keeps room kept (record { got = got; bytes = before.bytes + got; held = before.held + got - arrived.at; index = arrived.index; state = arrived.state })
    unfolding held_after total
    on going =
        let read : taken arrived.state ≡ true = ap taken going in
        let n = length-take-le (before.held + got) after fits in
        let short = a.through going in
        record {
          readings = reading ∷ k.readings;
          bytes = omega (arith, k.bytes, size);
          held = moved ∙ rw (there, ← k.index, ← a.at read);
          index = a.index read ∙ rw (there, ← k.index);
          short = omega arith;
          counted = omega (arith, a.within, a.counted, k.counted);
        }
